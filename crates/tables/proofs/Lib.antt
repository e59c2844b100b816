-- The laws of a table: its numbers, its places, its refusals, its answers, and calls one after the other.
pub mod Numbers
pub mod Places
pub mod Refused
pub mod Deeds
pub mod Answering
pub mod Told
pub mod Holding
pub mod Alike
pub mod SimpleMaps
pub mod Ownership
pub mod Unwinding
pub mod Promises
pub mod Examples
pub mod DeskExamples
