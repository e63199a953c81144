pub mod Powered
pub mod Headline
