pub mod PutLemmas
pub mod Spoken
pub mod SayingLemmas
