-- The laws of what is refused of a list of owners by itself.
pub mod OwnerLists
