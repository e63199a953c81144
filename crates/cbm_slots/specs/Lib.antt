pub mod InSlots
pub mod Retyping
