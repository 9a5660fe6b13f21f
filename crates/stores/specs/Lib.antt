pub mod Stores
pub mod Columns
pub mod Lent
pub mod Code
