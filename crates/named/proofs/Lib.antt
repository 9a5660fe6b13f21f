pub mod StrokeAt
pub mod RunLengths
