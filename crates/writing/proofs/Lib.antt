pub mod PutBars
pub mod StepLaws
pub mod PlanInView
pub mod MachineMoves
pub mod MoveLaws
pub mod WriteLaws
pub mod SameLengths
