-- The laws of the two calls on a cell list over bytes, and the theorems of specs/Promises.antt and specs/Examples.antt.
pub mod CellBytes
pub mod MendedBytes
pub mod Sizes
pub mod OneAnswers
pub mod Hosting
pub mod Promises
pub mod Examples
