-- SCRATCH and RENAME.
pub mod Scratching
pub mod Renames
pub mod Scratched
pub mod FileFreed
