-- What a reader must believe: document 01's calls for a corner's place.
pub mod Bits
pub mod Answers
