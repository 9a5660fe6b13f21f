pub mod TailMerging
pub mod Columns
pub mod InUse
pub mod RowElements
pub mod Searching
pub mod KeptBars
pub mod AgainBound
