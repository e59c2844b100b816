-- What is promised of the calls together, and the laws behind it.
pub mod Demands
pub mod Contracts
pub mod Sentences
pub mod Turns
pub mod Nearest
pub mod Showing
pub mod Examples
pub mod Bounds
pub mod Mistakes
pub mod CountLaws
pub mod Differing
pub mod EdgeHalves
pub mod Middles
pub mod CornerSteps
pub mod Counted
