-- What the code is proved by, and no promise: see there.
pub mod Means
