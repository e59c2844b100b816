-- A law of the console's table, and the bounds of its room.
pub mod Parents
pub mod Examples
