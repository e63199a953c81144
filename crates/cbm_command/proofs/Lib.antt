pub mod Parts
pub mod Pieces
pub mod Lists
pub mod Spelled
