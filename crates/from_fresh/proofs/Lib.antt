pub mod OneMoreCall
pub mod FromFreshLaws
pub mod ClearKept
pub mod ClearNext
