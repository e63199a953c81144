-- A relative file grows.
pub mod BlockCounts
pub mod GrowingSteps
pub mod GrowingTurns
pub mod GrowingLists
pub mod GrowingSides
pub mod SideTurns
pub mod SidesAdded
pub mod SidesAnswers
pub mod GrowthBegun
pub mod GrowingAnswers
pub mod GrowingJoined
pub mod GrowingEnds
pub mod GrowingPlans
pub mod GrowingMeans
