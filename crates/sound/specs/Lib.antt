pub mod FreshStand
pub mod StandSound
pub mod Code
