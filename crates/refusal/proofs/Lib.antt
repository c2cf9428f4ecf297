-- The laws of the vocabulary.
pub mod Chain
pub mod Answers
pub mod Unique
