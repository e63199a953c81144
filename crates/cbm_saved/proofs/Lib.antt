pub mod Seals
pub mod Again
