-- The laws of merging in a list of ranks, and of lists that are written.
pub mod Written
pub mod Rows
pub mod Passes
pub mod Dropped
