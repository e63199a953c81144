-- A session's moments never go back, and its host keeps the timing.
pub mod SessionOrder
pub mod KeepsTiming
