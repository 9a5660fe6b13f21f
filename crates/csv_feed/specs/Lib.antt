pub mod RecordCalls
pub mod RecordAnswered
