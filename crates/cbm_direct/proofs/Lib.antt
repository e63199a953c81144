pub mod Sounds
pub mod Handed
pub mod Sparing
