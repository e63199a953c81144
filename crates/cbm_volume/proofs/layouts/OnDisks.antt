-- Calls that change at most what the sectors of a disk hold: of one of so many tracks, as the map has it, or as a writer has it.
use Rattle.std.proofs.Common.{◌≡◌, ℕ, subst, arith, Result}
use Rattle.std.specs.Prelude.{max}
use Rattle.cbm_medium.proofs.Sequences.{only_within}
use Rattle.cbm_medium.specs.Seen.{Seen, OnlyContent}
use Rattle.cbm_medium.specs.declared.fault.Trouble.{Trouble}
use Rattle.cbm_bam.specs.Map.{geometry_of}
use Rattle.cbm_volume.specs.Writers.{Filling}
use Rattle.cbm_volume.specs.Calls.{OnlyOnDisk, OnlyOfWriter}

pub of_tracks : {A : Type 0} (tracks : ℕ) (r : Result A Trouble) (old new : Seen) → tracks ≡ geometry_of old.tracks old.content → OnlyContent tracks r old new → OnlyOnDisk r old new
of_tracks {A} tracks r old new e h = subst (λ (k : ℕ). OnlyContent k r old new) e h

-- a writer's call, and one that goes by the map as it was before
pub of_writer : {A : Type 0} (w : Filling) (r : Result A Trouble) (old new : Seen) → OnlyContent w.chain.tracks r old new → OnlyOfWriter w r old new
of_writer {A} w r old new h = only_within (max w.chain.tracks (geometry_of old.tracks old.content)) r old new (omega arith) h

pub of_map : {A : Type 0} (w : Filling) (tracks : ℕ) (r : Result A Trouble) (old mid new : Seen) → tracks ≡ geometry_of old.tracks old.content → OnlyContent tracks r mid new → OnlyContent (max w.chain.tracks (geometry_of old.tracks old.content)) r mid new
of_map {A} w tracks r old mid new e h = only_within (max w.chain.tracks (geometry_of old.tracks old.content)) r mid new (omega (arith, e)) h
