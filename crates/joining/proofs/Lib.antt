-- What joining leaves: which boundaries, which bytes to send, when the table is full; and that over any run of accepted calls it does not show.
pub mod Alternates
pub mod Bytes
pub mod Edges
pub mod Full
pub mod Alike
pub mod Parts
pub mod Runs
pub mod Tied
mod Needed
mod Examples
