pub mod Forms
pub mod Words
pub mod Refusals
pub mod Family
pub mod Counting
pub mod Writing
