-- The laws of a sweep over bytes, and the theorems of specs/Promises.antt and specs/Examples.antt.
pub mod ByteSweeps
pub mod FirstCodes
pub mod OneByteSweep
pub mod Promises
pub mod Examples
