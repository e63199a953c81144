-- OPEN for writing: a new name, an append, a replacement.
pub mod Beginning
pub mod Growing
pub mod OpenedSlots
pub mod OpenedFiles
pub mod HinderedOpens
pub mod ReplacementBegun
pub mod Appends
pub mod KeptOpens
