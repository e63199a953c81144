pub mod Moves
pub mod Placed
pub mod Carving
