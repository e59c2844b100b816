-- The laws of mending a list.
pub mod Nodes
pub mod Pigeons
pub mod Minimal
pub mod WordNodes
pub mod Members
pub mod Children
pub mod Merging
pub mod Dropping
pub mod Mended
pub mod Leaves
pub mod Shortest
pub mod Again
pub mod Passes
pub mod Promises
pub mod Examples
