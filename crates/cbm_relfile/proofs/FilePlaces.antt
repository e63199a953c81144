-- The places that a relative file names, as they are read.
use Rattle.std.proofs.Common.{◌≡◌, ℕ, suc, zero, ◌+◌, ◌-◌, ◌*◌, ◌<◌, ◌≤◌, List, Some, Ok, Err, refl, sym, subst, ◌∙◌, ap, arith, inl, inr}
use Rattle.cbm_medium.specs.Place.{Place, Has, has}
use Rattle.cbm_medium.specs.Content.{Content}
use Rattle.std.specs.Prelude.{◌⊎◌, false, Result, IfErr, IsErrAnd}
use Rattle.cbm_medium.specs.Links.{place_in}
use Rattle.cbm_medium.specs.Met.{IsReached, IsMetFrom, MeetsTrouble, place_of}
use Rattle.cbm_medium.specs.declared.fault.Trouble.{Trouble}
use Rattle.cbm_medium.specs.Seen.{Seen, HasFailed, write_refusal}
use Rattle.cbm_medium.proofs.Reached.{StartsAmong, starts_there, met_more}
use Rattle.cbm_relfile.specs.Records.{Relative, IsRecordRefused}
use Rattle.cbm_relfile.specs.OfFile.{IsSide, IsOfFile, IsNamedBlock}
use Rattle.cbm_relfile.specs.Missing.{IsBlockReached}

-- the first side sector lists it among the side sectors
pub side_listed : (tracks : ℕ) (c : Content) (side first q : Place) (head : List ℕ) (n : ℕ) → first ≡ side → Has tracks first → c first ≡ Ok head → n < 6 → q ≡ place_in head (4 + 2 * n) → IsSide tracks c side q
side_listed tracks c side first q head n is h e l at = subst (λ (p : Place). IsSide tracks c p q) is (inr (head, n, h, e, l, at))

-- a side sector lists it among the blocks
pub block_listed : (tracks : ℕ) (c : Content) (file : Relative) (p q : Place) (side : List ℕ) (n : ℕ) → IsSide tracks c file.side p → Has tracks p → c p ≡ Ok side → n < 120 → q ≡ place_in side (16 + 2 * n) → IsNamedBlock tracks c file q
block_listed tracks c file p q side n s h e l at = inr (p, side, n, s, h, e, l, at)

-- the last one that it lists, or the one before where it lists none
pub last_listed : (tracks : ℕ) (c : Content) (file : Relative) (p before q : Place) (side : List ℕ) (count : ℕ) → IsSide tracks c file.side p → Has tracks p → c p ≡ Ok side → count ≤ 120
    → (count ≡ 0 → q ≡ before) → (0 < count → q ≡ place_in side (16 + 2 * (count - 1))) → IsNamedBlock tracks c file before → IsNamedBlock tracks c file q
last_listed tracks c file p before q side zero s h e l none last b = subst (λ (x : Place). IsNamedBlock tracks c file x) (sym (none refl)) b
last_listed tracks c file p before q side (suc n) s h e l none last b = block_listed tracks c file p q side n s h e (omega (arith, l)) (last (omega arith) ∙ ap (λ (k : ℕ). place_in side (16 + 2 * k)) (omega arith))

-- it is a place of the file
pub named_of : (tracks : ℕ) (c : Content) (file : Relative) (q : Place) → IsNamedBlock tracks c file q → IsOfFile tracks c file q
named_of tracks c file q (inl first) = inl first
named_of tracks c file q (inr listed) = inr (inr listed)

-- a block that is reached is reached from the places of the file
pub block_reached : (tracks : ℕ) (c : Content) (file : Relative) (number : ℕ) (at : Place) → IsBlockReached tracks c file number at → IsReached tracks c (IsOfFile tracks c file) at
block_reached tracks c file number at b = (b.0, b.3.blocks, named_of tracks c file b.0 b.2.named, b.3.leads)

-- a place that is reached and is no sector of the disk
pub off_met : (tracks : ℕ) (c : Content) (starts : Place → Type 0) (t : Trouble) (at : Place) → IsReached tracks c starts at → place_of t ≡ at → t.code ≡ 66 → has tracks (place_of t) ≡ false → IsMetFrom tracks c starts t
off_met tracks c starts t at r e is off = (subst (IsReached tracks c starts) (sym e) r, inl (is, off))

-- or is one that doesn't read
pub fault_met : (tracks : ℕ) (c : Content) (starts : Place → Type 0) (t : Trouble) (at : Place) → IsReached tracks c starts at → place_of t ≡ at → Has tracks at → c at ≡ Err t.code → IsMetFrom tracks c starts t
fault_met tracks c starts t at r e here fault = (subst (IsReached tracks c starts) (sym e) r, inr (subst (λ (p : Place). Has tracks p) (sym e) here, ap c e ∙ fault))

pub off_on : {B : Type 0} (tracks : ℕ) (c : Content) (starts : Place → Type 0) (t : Trouble) (s : Result B Trouble) (at : Place) → t.code ≡ 66 → has tracks (place_of t) ≡ false → place_of t ≡ at → IsReached tracks c starts at → IsErrAnd s (λ e. e ≡ t)
    → MeetsTrouble tracks c starts s
off_on tracks c starts t (Ok x) at is off e n on = absurd on
off_on {B = B} tracks c starts t (Err u) at is off e n on =
    subst (λ (x : Trouble). MeetsTrouble {A = B} tracks c starts (Err x)) (sym on) (record { shown = off_met tracks c starts t at n e is off; never_26 = λ k. omega (arith, is, k) })

-- what a step meets on a walk, or something else
pub met_or : {A : Type 0} (tracks : ℕ) (c : Content) (starts others : Place → Type 0) (more : Trouble → Type 0) (r : Result A Trouble) → StartsAmong tracks c starts others → IfErr r (IsMetFrom tracks c starts) → IfErr r (λ t. IsMetFrom tracks c others t ⊎ more t)
met_or tracks c starts others more (Ok x) among h = tt
met_or tracks c starts others more (Err t) among h = inl (met_more tracks c starts others among t h)

-- what a write of a part of a sector is refused for
pub part_refused : (tracks : ℕ) (starts : Place → Type 0) (old new : Seen) (at : Place) (t : Trouble) → starts at
    → ((t.code ≡ 66) × (has tracks (place_of t) ≡ false) × (place_of t ≡ at)) ⊎ ((write_refusal old at ≡ Some t.code) ⊎ HasFailed old new) → IsRecordRefused tracks starts old new t
part_refused tracks starts old new at t s (inl off) = inl (off_met tracks old.content starts t at (starts_there tracks old.content starts at s) off.2 off.0 off.1)
part_refused tracks starts old new at t s (inr (inl w)) = inr (inl (at, w))
part_refused tracks starts old new at t s (inr (inr failed)) = inr (inr failed)
