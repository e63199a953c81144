-- A host that keeps the timing loosely: a play under it and one under a tidy host, side by side.
pub mod Sides
pub mod Wires
pub mod Reactions
pub mod Stations
pub mod Alone
pub mod Moves
pub mod Zips
pub mod Plays
pub mod Once
pub mod Loosely
pub mod Itself
