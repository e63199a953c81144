pub mod Buffered
pub mod Asking
pub mod Memories
pub mod NextFree
pub mod Spared
pub mod Vouching
pub mod Directs
