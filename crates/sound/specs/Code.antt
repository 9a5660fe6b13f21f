pub mod SoundStand
pub mod NewestBar
