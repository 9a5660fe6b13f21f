pub mod Question4
