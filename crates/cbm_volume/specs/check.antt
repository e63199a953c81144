-- What `check` looks at, part by part, and what it says is wrong.
pub mod Flaws
pub mod Claims
pub mod Headers
pub mod MapCounts
pub mod SideLists
pub mod SlotWalk
pub mod WholeDisk
