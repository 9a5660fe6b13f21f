pub mod ElementCounts
pub mod BarSteps
pub mod StrokeSteps
pub mod BarStepCases
pub mod StrokeStepCases
