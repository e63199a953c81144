pub mod Words
pub mod Events
pub mod Cables
pub mod Dumps
pub mod Records
pub mod Lines
pub mod Reading
