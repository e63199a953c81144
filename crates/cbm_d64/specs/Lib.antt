pub mod Image
pub mod Outer
pub mod Faults
