pub mod BatchSteps
