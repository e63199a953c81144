pub mod Images
pub mod AnyDisks
