pub mod RecordAnswers
