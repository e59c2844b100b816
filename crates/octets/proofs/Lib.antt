-- The laws of numbers as bytes.
pub mod Laying
pub mod WordLists
