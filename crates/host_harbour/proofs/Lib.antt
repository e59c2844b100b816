-- The laws of the exported calls, and the theorems of specs/Promises.antt.
pub mod HarbourCalls
pub mod Promises
pub mod Examples
