pub mod Again
pub mod GcrImages
pub mod ImageSizes
