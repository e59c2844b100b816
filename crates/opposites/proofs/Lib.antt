-- The laws of the opposite, and the theorems of specs/.
pub mod Opposing
pub mod OpposingHolders
pub mod OpposingNames
pub mod Calls
pub mod Promises
pub mod Examples
