-- A relative file is made, and a record is written in place.
pub mod RecordsPut
pub mod RecordsPlaced
pub mod RecordsMade
pub mod RecordsEnds
