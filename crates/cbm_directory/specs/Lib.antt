pub mod Entries
pub mod EntryChanges
pub mod Slots
pub mod Growth
pub mod Empties
