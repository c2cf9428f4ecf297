-- The proof of demand 3 (`Demand3`); schedules that show that it is not empty (`Runs`) and that its premises are needed (`Needed`); the window
-- lent in place (`Lent`); when the receive table cannot fill (`NoStall`) and when it does (`StallRuns`).
pub mod Callable
pub mod Lists
pub mod Stream
pub mod SendSide
pub mod RecvSide
pub mod Joined
pub mod Demand3
pub mod Runs
pub mod Needed
pub mod Cuts
pub mod Table
pub mod Ends
pub mod NoStall
pub mod Lent
mod StallRuns
