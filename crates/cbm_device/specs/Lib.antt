pub mod Answers
pub mod Channels
pub mod ImageDisks
pub mod Looking
pub mod Making
pub mod Devices
pub mod Plays
pub mod Snapshots
