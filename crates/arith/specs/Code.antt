pub mod Accumulators
pub mod RoundingTests
