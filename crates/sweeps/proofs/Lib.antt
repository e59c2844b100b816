-- The laws of a sweep.
pub mod SingleCalls
pub mod Told
pub mod Refused
pub mod SweptParts
pub mod SweptPlaces
pub mod CountedParts
pub mod OneSweep
pub mod Promises
pub mod Examples
