pub mod Called
pub mod Calling
pub mod Giving
pub mod Opening
pub mod Played
pub mod Refusing
pub mod Restored
mod Keeping
mod Loading
