pub mod Links
pub mod Lines
pub mod Programs
pub mod Signs
pub mod Words
