pub mod Marked
pub mod MovedMarked
pub mod Runs
pub mod PlacesMarked
