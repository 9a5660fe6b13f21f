pub mod Lists
pub mod Bars
pub mod Questions
pub mod Refusals
pub mod Merging
pub mod Gaps
pub mod Cases
pub mod Code
