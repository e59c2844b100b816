pub mod Decisions
pub mod Numbers
pub mod Order
pub mod Drawing
