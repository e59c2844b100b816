-- What the console holds, in the room that it has.
pub mod Room
pub mod Examples
