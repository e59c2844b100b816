-- What a reader must believe: a number as bytes, and bytes as a number.
pub mod Bytes
