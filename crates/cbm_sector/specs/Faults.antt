-- The faults that a track's bits show are those that reading meets.
use Rattle.std.specs.Prelude.{ℕ, ◌≡◌, ◌+◌, ◌==◌, ◌||◌, List, Bool, true, false, if◌then◌else◌, refl, Option, Some, None, Result, Ok, Err, is_some, take, drop, slice_index}
use Rattle.cbm_medium.specs.Place.{Place}
use Rattle.cbm_medium.specs.Content.{HasFaultCode, is_fault_code}
use Rattle.cbm_track.specs.Circle.{next_block}
use Rattle.cbm_sector.specs.Decoding.{coded_at}
use Rattle.cbm_sector.specs.Answer.{xor_of, passes, is_header, is_crowded, is_right, has_id, header_of, block_at, block_after_header, after_a_header, block_of, checked, block_data, data_at, data_following, sector_shown}

-- a test that both ways meets a fact
either : {A : Type 0} (F : A → Type 0) (b : Bool) (x y : A) → F x → F y → F (if b then x else y)
either F true x y hx hy = hx
either F false x y hx hy = hy

-- a fault of a header has one of the codes
abbrev HasBlockCode : Result ℕ ℕ → Type 0
HasBlockCode (Ok p) = Unit {0}
HasBlockCode (Err code) = is_fault_code code ≡ true

at_next : (track : List Bool) (o : Option ℕ) → HasBlockCode (block_at track o)
at_next track None = refl
at_next track (Some p) = either HasBlockCode (passes is_header (coded_at track p 4) || is_crowded track p) (Err 20) (Ok p) refl tt

at_bytes : (track : List Bool) (id : List ℕ) (p : ℕ) (o : Option (List ℕ)) → HasBlockCode (block_after_header track id p o)
at_bytes track id p None = refl
at_bytes track id p (Some v) =
    either HasBlockCode (is_right v) (if has_id id v then block_at track (next_block track (p + 1)) else Err 29) (Err 27)
    (either HasBlockCode (has_id id v) (block_at track (next_block track (p + 1))) (Err 29) (at_next track (next_block track (p + 1))) refl)
    refl

at_header : (track : List Bool) (id : List ℕ) (o : Option ℕ) → HasBlockCode (after_a_header track id o)
at_header track id None = refl
at_header track id (Some p) = at_bytes track id p (coded_at track p 8)

of_block : (track : List Bool) (id : List ℕ) (a : Place) → HasBlockCode (block_of track id a)
unfolding block_of
of_block track id a =
    either HasBlockCode (is_some (next_block track 0)) (after_a_header track id (header_of track a)) (Err 21) (at_header track id (header_of track a)) refl

of_sum : (o : Option (List ℕ)) → HasFaultCode (checked o)
of_sum None = refl
of_sum (Some v) =
    either HasFaultCode (xor_of (take 256 (drop 1 v)) == slice_index v 257) (Ok (take 256 (drop 1 v))) (Err 23) tt refl

of_bytes : (v o : Option (List ℕ)) → HasFaultCode (block_data v o)
of_bytes None o = refl
of_bytes (Some v) o = either HasFaultCode (slice_index v 0 == 7) (checked o) (Err 22) (of_sum o) refl

of_data : (track : List Bool) (p : ℕ) → HasFaultCode (data_at track p)
unfolding data_at
of_data track p = of_bytes (coded_at track p 4) (coded_at track p 260)

after_a_block : (track : List Bool) (r : Result ℕ ℕ) → HasBlockCode r → HasFaultCode (data_following track r)
after_a_block track (Err code) h = h
after_a_block track (Ok p) h = of_data track p

-- in place of a sector's bytes stands one of the seven codes
pub shown_codes : (track : List Bool) (id : List ℕ) (a : Place) → HasFaultCode (sector_shown track id a)
unfolding sector_shown
shown_codes track id a = after_a_block track (block_of track id a) (of_block track id a)
