-- The laws of the arena, which this crate's proofs and its callers' cite.
pub mod Places
pub mod Laws
pub mod Parts
mod Loops
pub mod Unique
