-- Runs of a send buffer's calls, and the buffer without a limit that one with a table of 64 is held against.
pub mod Calls
