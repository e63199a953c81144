pub mod Views
pub mod Judging
pub mod Varied
