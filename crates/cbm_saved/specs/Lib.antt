pub mod Numbers
pub mod Texts
pub mod Seals
pub mod Steps
