-- The theorems of specs/, and what the functions answer.
pub mod FromPaper
pub mod ToPaper
pub mod VertexNames
pub mod Promises
pub mod Examples
