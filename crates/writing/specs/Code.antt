pub mod WriteSteps
pub mod Written
