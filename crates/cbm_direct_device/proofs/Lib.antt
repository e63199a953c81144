pub mod DirectCalled
pub mod Saved
