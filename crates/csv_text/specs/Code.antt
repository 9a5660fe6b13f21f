pub mod Numerals
pub mod Fields
