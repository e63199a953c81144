pub mod Decoding
pub mod Answer
pub mod Index
pub mod Fresh
pub mod Faults
