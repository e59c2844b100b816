-- The laws of the paper's codes, and of what the functions compute.
pub mod Domains
pub mod Directions
pub mod Pairs
pub mod Printed
pub mod BaseSides
pub mod Vertices
pub mod Reading
pub mod Computing
pub mod Spelling
