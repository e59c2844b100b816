-- A law of an answer that goes on.
pub mod Going
