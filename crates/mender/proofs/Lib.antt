-- The laws of mending by ranks.
pub mod ByRanks
pub mod Joined
pub mod Refusals
