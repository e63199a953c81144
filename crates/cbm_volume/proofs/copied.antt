-- COPY.
pub mod Making
pub mod Made
pub mod Puts
pub mod CopySteps
pub mod CopyEnds
pub mod CopyResults
