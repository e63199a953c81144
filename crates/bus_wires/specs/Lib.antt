pub mod Cable
pub mod Looks
