-- A sector that reads has 256 bytes.
use Rattle.std.proofs.Common.{◌≡◌, ℕ, List, length, take, drop, Bool, true, false, Option, Some, None, Result, Ok, Err, refl, arith}
use Rattle.std.specs.Prelude.{if◌then◌else◌, ◌==◌, slice_index}
use Rattle.std.proofs.lemmas.List.{length-take-le, length-drop}
use Rattle.cbm_medium.specs.Place.{Place}
use Rattle.cbm_medium.specs.Content.{IsWhole}
use Rattle.cbm_sector.specs.Decoding.{coded_at}
use Rattle.cbm_sector.specs.Answer.{xor_of, checked, block_data, data_at, data_following, block_of, sector_shown}
use Rattle.cbm_sector.proofs.Stands.{coded_is}

checked_whole : (o : Option (List ℕ)) → ((v : List ℕ) → o ≡ Some v → length v ≡ 260) → IsWhole (checked o)
checked_whole None h = tt
checked_whole (Some v) h = by_test (xor_of (take 256 (drop 1 v)) == slice_index v 257)
  where
    by_test : (b : Bool) → IsWhole (if b then Ok (take 256 (drop 1 v)) else Err 23)
    by_test true = length-take-le 256 (drop 1 v) (omega (arith, length-drop {A = ℕ} 1 v, h v refl))
    by_test false = tt

data_whole : (v o : Option (List ℕ)) → ((w : List ℕ) → o ≡ Some w → length w ≡ 260) → IsWhole (block_data v o)
data_whole None o h = tt
data_whole (Some v) o h = by_test (slice_index v 0 == 7)
  where
    by_test : (b : Bool) → IsWhole (if b then checked o else Err 22)
    by_test true = checked_whole o h
    by_test false = tt

at_whole : (track : List Bool) (p : ℕ) → IsWhole (data_at track p)
unfolding data_at
at_whole track p = data_whole (coded_at track p 4) (coded_at track p 260) (λ v e. (coded_is track p 260 v e).0)

after_the_whole : (track : List Bool) (r : Result ℕ ℕ) → IsWhole (data_following track r)
after_the_whole track (Err code) = tt
after_the_whole track (Ok p) = at_whole track p

pub shown_whole : (track : List Bool) (id : List ℕ) (a : Place) → IsWhole (sector_shown track id a)
unfolding sector_shown
shown_whole track id a = after_the_whole track (block_of track id a)
