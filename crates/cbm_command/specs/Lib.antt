pub mod Texts
pub mod Names
pub mod Refusals
pub mod Openings
pub mod Commands
pub mod Spelling
