pub mod FirstQuestions
pub mod ElementPrices
pub mod FractalWalk
pub mod FxListing
pub mod InnerRawSteps
pub mod ListSteps
pub mod MeasuredRows
pub mod UbiSteps
