pub mod Rests
pub mod Seats
pub mod Moves
pub mod Reactions
pub mod Courses
pub mod Courts
pub mod Keeping
