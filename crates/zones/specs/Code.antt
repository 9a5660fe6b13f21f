pub mod FakeOfTwo
pub mod GrowingZone
pub mod GrowingRun
pub mod StrokesRead
pub mod FakeSteps
pub mod ZoneSteps
pub mod Runs
