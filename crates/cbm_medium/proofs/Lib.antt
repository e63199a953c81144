pub mod Places
pub mod Sequences
pub mod Walks
pub mod FaultCodes
pub mod Shown
pub mod Reached
pub mod Passed
