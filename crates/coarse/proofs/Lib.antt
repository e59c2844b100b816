-- The laws of the coarse sums: counting and summing, a triangle's children, what is refused, and what is promised.
pub mod Adding
pub mod Tallying
pub mod Children
pub mod Refused
pub mod Answers
pub mod Truths
pub mod Totals
pub mod Unwinding
pub mod Examples
