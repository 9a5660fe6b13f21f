pub mod Lent
pub mod Columns
pub mod StateRead
pub mod FractalRows
pub mod Packed
pub mod Code
