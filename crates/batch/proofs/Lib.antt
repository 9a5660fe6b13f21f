pub mod BatchLoop
pub mod SameOn
