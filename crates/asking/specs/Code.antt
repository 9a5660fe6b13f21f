pub mod FeedPlan
pub mod MergedTail
pub mod Asked
pub mod AskSteps
