pub mod FromFresh
pub mod Code
