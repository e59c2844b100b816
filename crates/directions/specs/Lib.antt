-- What a reader must believe: document 01's calls on directions.
pub mod Refusals
pub mod Answers
