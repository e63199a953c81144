pub mod DirectDevices
pub mod DirectChannels
