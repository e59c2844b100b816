-- What a reader must believe: a table of soundings as the bytes of a file (docs/CONSOLE.md, save and open).
pub mod Files
pub mod Refusals
pub mod Promises
pub mod Examples
