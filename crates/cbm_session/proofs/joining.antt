-- Parts of a piece joined by moments, and what one drive sees of them.
pub mod Seating
pub mod Merging
pub mod Parts
pub mod OneDrive
pub mod Showing
pub mod Silents
pub mod Owning
pub mod Talkers
pub mod Orders
