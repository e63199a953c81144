pub mod OddLemmas
pub mod ReachLemmas
pub mod AwayLemmas
pub mod HeldLemmas
pub mod ChangeLemmas
pub mod MarkingLemmas
pub mod FaultLemmas
pub mod BackLemmas
