pub mod Question4Passed
