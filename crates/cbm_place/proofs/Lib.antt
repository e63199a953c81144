pub mod MoveParts
pub mod PlaceParts
