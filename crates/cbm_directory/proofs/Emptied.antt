-- The first empty slot: the first entry of type byte 0, before or after a growth of the directory.
use Rattle.std.proofs.Common.{◌≡◌, ℕ, ◌+◌, List, [], ◌∷◌, Bool, true, false, ap, inr, Option, Some, None, Result, Ok, Err}
use Rattle.std.specs.Prelude.{◌==◌, if◌then◌else◌, option_map, IfOk, IfErr}
use Rattle.cbm_medium.specs.Content.{Content}
use Rattle.cbm_medium.specs.Seen.{Seen}
use Rattle.cbm_medium.specs.declared.fault.Trouble.{Trouble}
use Rattle.cbm_directory.specs.Entries.{type_byte}
use Rattle.cbm_directory.specs.Slots.{directory_of, first_from}
use Rattle.cbm_directory.specs.Growth.{Grows}
use Rattle.cbm_directory.specs.Empties.{empty_in, FindsEmpty, TakesSlot, SlotStopped, IsSlotRefused}
use Rattle.cbm_directory.proofs.Refilled.{never_full}

pub first_is : (n : ℕ) (xs : List (List ℕ)) (o : Option (ℕ × List ℕ)) → first_from (λ entry. type_byte entry == 0) n xs ≡ o → empty_in n xs ≡ option_map (λ (x : ℕ × List ℕ). x.0) o
first_is n [] o e = ap (option_map (λ (x : ℕ × List ℕ). x.0)) e
first_is n (entry ∷ rest) o e = by_test (type_byte entry == 0) e (first_is (n + 1) rest o)
  where
    by_test : (b : Bool) → (if b then Some (n, entry) else first_from (λ x. type_byte x == 0) (n + 1) rest) ≡ o
        → (first_from (λ x. type_byte x == 0) (n + 1) rest ≡ o → empty_in (n + 1) rest ≡ option_map (λ (x : ℕ × List ℕ). x.0) o)
        → (if b then Some n else empty_in (n + 1) rest) ≡ option_map (λ (x : ℕ × List ℕ). x.0) o
    by_test true e more = ap (option_map (λ (x : ℕ × List ℕ). x.0)) e
    by_test false e more = more e

-- the directory grew, and was searched again
pub grown_then : (tracks : ℕ) (c c' : Content) (r : Result (Option ℕ) Trouble) → FindsEmpty (directory_of tracks c) (Ok None) → Grows tracks c c' → FindsEmpty (directory_of tracks c') r → IfOk r (TakesSlot tracks c c')
grown_then tracks c c' (Ok (Some n)) none grows found = inr (none, grows, found)
grown_then tracks c c' (Ok None) none grows found = absurd (never_full tracks c c' grows found)
grown_then tracks c c' (Err t) none grows found = tt

pub grown_stopped : (tracks : ℕ) (c c' : Content) (r : Result (Option ℕ) Trouble) → FindsEmpty (directory_of tracks c) (Ok None) → Grows tracks c c' → FindsEmpty (directory_of tracks c') r → IfErr r (SlotStopped tracks c c')
grown_stopped tracks c c' (Ok o) none grows found = tt
grown_stopped tracks c c' (Err t) none grows found = inr (none, inr (grows, found))

pub grown_refused : (tracks : ℕ) (old new : Seen) (r : Result (Option ℕ) Trouble) → Grows tracks old.content new.content → FindsEmpty (directory_of tracks new.content) r → IfErr r (IsSlotRefused tracks old new)
grown_refused tracks old new (Ok o) grows found = tt
grown_refused tracks old new (Err t) grows found = inr (inr (grows, found))
