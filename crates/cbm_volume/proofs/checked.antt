-- `check`: each sector is claimed once exactly where a layout is sound.
pub mod Counting
pub mod Claiming
pub mod FirstBad
pub mod SidesListed
pub mod SlotSteps
pub mod ClaimedSound
pub mod SoundClaimed
pub mod PlainSound
pub mod Claimed
pub mod RecordsChecked
pub mod CheckedSound
