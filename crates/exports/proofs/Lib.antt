-- The laws of the exported calls, and the theorems of specs/Promises.antt and specs/Examples.antt.
pub mod Exporting
pub mod Calls
pub mod Promises
pub mod Examples
