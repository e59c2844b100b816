-- The laws of the exported calls, and the theorems of specs/.
pub mod OppositeCalls
pub mod Promises
pub mod Examples
