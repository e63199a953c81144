pub mod TrailLemmas
