pub mod Written
pub mod Reading
pub mod Values
pub mod Records
pub mod Claims
pub mod Cases
pub mod Code
