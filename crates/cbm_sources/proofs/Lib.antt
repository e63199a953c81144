pub mod Places
pub mod ChainLemmas
pub mod TapeLemmas
pub mod LynxLemmas
pub mod Sourced
