pub mod PortCalls
pub mod StrokesLeft
pub mod PortClaims
pub mod Answers
