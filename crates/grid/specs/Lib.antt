-- What a reader must believe: what is promised of the calls together, document 01's other sentences, its examples,
-- wrong answers, and what is counted.
pub mod Demands
pub mod CallContracts
pub mod Sentences
pub mod Turns
pub mod Nearest
pub mod Writing
pub mod Examples
pub mod Mistakes
pub mod Counts
