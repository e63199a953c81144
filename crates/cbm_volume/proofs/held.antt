-- What channels read: the blocks of a file, and the records of a relative one.
pub mod ReadingUses
pub mod Slices
pub mod RecordsRead
pub mod RecordUses
pub mod FileMet
