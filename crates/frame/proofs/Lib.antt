-- The laws of refusals in order, of answers, of lent lists, and of looking through a list and making one: the crates
-- above cite them.
pub mod Refusing
pub mod Answering
pub mod Lengths
pub mod Scanning
pub mod Below
pub mod Told
