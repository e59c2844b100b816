-- The laws of judging the words of a list.
pub mod InOrder
pub mod WordKeys
pub mod CodePlaces
pub mod Turned
pub mod Reasons
