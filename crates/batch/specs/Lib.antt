pub mod BatchCalls
pub mod Code
