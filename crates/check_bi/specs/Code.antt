pub mod Scan
pub mod View
pub mod Windows
