pub mod Odd
pub mod Held
pub mod Marking
pub mod Away
pub mod Back
pub mod Changes
