pub mod Moved
pub mod Reacted
pub mod Sitting
pub mod Courses
pub mod Seen
pub mod Judged
