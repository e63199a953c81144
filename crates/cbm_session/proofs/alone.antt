-- A drive alone with the host follows every session.
pub mod Frames
pub mod HostFrames
pub mod Talk
pub mod Pieces
pub mod Fronts
pub mod Sessions
