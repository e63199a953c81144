-- A frame of the host to several drives: the pulse, the accepts, its parts.
pub mod OnePulse
pub mod Accepted
pub mod Phases
