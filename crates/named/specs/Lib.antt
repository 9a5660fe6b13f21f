pub mod ReportQuestions
pub mod Folds
pub mod Code
