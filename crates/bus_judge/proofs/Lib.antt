pub mod Points
pub mod Quiet
pub mod Refusing
pub mod Standing
pub mod Strangers
mod Ranging
