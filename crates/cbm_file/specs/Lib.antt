pub mod Types
pub mod Padding
pub mod Files
pub mod Waiting
pub mod Changes
pub mod Records
