-- VALIDATE: what it looks at, what it writes, and what stands at each stop.
pub mod Recounts
pub mod Viewed
pub mod Sweeping
pub mod Walked
pub mod Validates
pub mod Mended
pub mod SweptFiles
