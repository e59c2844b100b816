pub mod Shares
pub mod Paths
pub mod Bits
pub mod WalkWords
