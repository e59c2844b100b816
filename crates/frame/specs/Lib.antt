-- What a reader must believe: how a call refuses, what an answer is with its lent memory, what is found in a list,
-- and what a promise owes.
pub mod Refusals
pub mod Answers
pub mod Lists
pub mod Promises
