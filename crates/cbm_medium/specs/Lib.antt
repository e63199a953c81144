pub mod Place
pub mod Content
pub mod Seen
pub mod Links
pub mod Countdown
pub mod Met
