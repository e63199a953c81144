-- Sectors that are no part of the disk.
pub mod Linked
pub mod Reowned
pub mod Remapped
