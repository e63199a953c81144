pub mod CommandKinds
pub mod CopyingLemmas
pub mod DeletingLemmas
pub mod RetypingLemmas
