pub mod joining
pub mod frames
pub mod reading
pub mod alone
pub mod among
pub mod timing
pub mod headline
pub mod handed
pub mod loose
mod Paces
mod Truths
