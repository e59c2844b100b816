-- The laws of the order of the tree, and of checking a list.
pub mod Dictionary
pub mod Spelling
pub mod Filling
pub mod Ranks
pub mod Accepting
pub mod OnePass
pub mod OneDegree
pub mod Examples
