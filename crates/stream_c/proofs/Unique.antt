-- No exported function has a second answer: a file for each module.
pub mod Chunk
pub mod Window
pub mod Set
pub mod Send
pub mod Recv
