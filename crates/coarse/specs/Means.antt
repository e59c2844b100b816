-- What only the functions' own contracts speak of: four places of a list.
pub mod Fours
