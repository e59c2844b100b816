-- What the functions on text promise: the words of a line, what a word reads as, what is written and where.
pub mod Splitting
pub mod Reading
pub mod Writing
