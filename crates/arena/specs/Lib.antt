-- The definitions that the contracts of `arena` cite.
pub mod Rules
