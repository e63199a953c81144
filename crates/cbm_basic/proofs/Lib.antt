pub mod FollowingLemmas
pub mod LineLemmas
pub mod LinkLemmas
pub mod ProgramLemmas
pub mod SignLemmas
