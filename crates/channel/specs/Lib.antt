-- The joined system, and what is claimed of it.
pub mod System
pub mod Demand3
