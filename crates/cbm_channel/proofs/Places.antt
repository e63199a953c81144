-- The place in records goes on: the channel fits in among the others.
use Rattle.std.proofs.Common.{◌≡◌, ℕ, zero, suc, ◌+◌, ◌-◌, ◌<◌, ◌≤◌, Bool, true, false, List, [], ◌∷◌, drop, length, refl, sym, ap, ◌∙◌, subst, arith}
use Rattle.std.specs.Prelude.{◌==◌, nat_lt, if◌then◌else◌, Option, Some, None, slice_get}
use Rattle.std.specs.List.{list_all, list_any}
use Rattle.std.proofs.lemmas.Bool.{eqb-true}
use Rattle.std.proofs.lemmas.Bool.Decides.{nat_tests}
use Rattle.cbm_file.specs.Files.{Body, Records, File, Disk, file_at, record_length_in}
use Rattle.cbm_medium.specs.Content.{Content}
use Rattle.cbm_volume.specs.Holding.{HoldsDisk}
use Rattle.cbm_volume.proofs.held.RecordUses.{records_width}
use Rattle.cbm_machine.specs.declared.code.Code.TheVariants.{RecordOverflow}
use Rattle.cbm_machine.specs.Machines as machine
use Rattle.cbm_machine.specs.Machines.{Machine, Channel, Closed, Reading, Writing, Stopped, Relative, with_channel, say, answered}
use Rattle.cbm_machine.specs.Finding.{body_at}
use Rattle.cbm_machine.specs.Orderly.{IsReadFrom, IsPlace, IsOrderly, channel_in, still_uses, still_writes}
use Rattle.cbm_file.specs.Records.{record_at}
use Rattle.cbm_machine.specs.Running.{place, run}
use Rattle.cbm_command.specs.declared.command.Command.TheVariants.{Position}
use Rattle.cbm_machine.specs.Talking.{taken_on}
use Rattle.cbm_channel.specs.Moved.{code_placed, placed_on}
use Rattle.cbm_channel.proofs.OnRecords.{body_there, taken_as}
use Rattle.cbm_channel.proofs.Orders.{FitsIn, less_fits, place_as, place_there, taken_fits}
use Rattle.cbm_channel.proofs.Planning.{none_passes}
use Rattle.cbm_channel.proofs.Stores.{same_fits, same_machine}

-- the same file at another place
relative_fits : (d : Disk) (protected : Bool) (channels : List Channel) (ch s n q k p : ℕ) → channel_in channels ch ≡ Relative s n q → 1 ≤ k → 1 ≤ p → p ≤ record_length_in (body_at d s) → IsOrderly d protected channels
    → FitsIn d d protected channels ch (Relative s k p)
relative_fits d protected channels ch s n q k p e some first inside old =
    let was : IsPlace d s n q = old.relative ch s n q e in
    let width : record_length_in (body_at d s) ≡ was.record_length = ap record_length_in (body_there d s was.file was.in_slot ∙ was.body) in
    let now : IsPlace d s k p = place_there d d s n q k p was was.file was.in_slot refl refl some (first, omega (arith, inside, width)) in
    less_fits d d protected channels ch (Relative s k p) old (record { has = λ slot h. ap (still_uses slot) e ∙ h; wrote = λ slot h. ap (still_writes slot) e ∙ h }) (λ slot left h. absurd (cc)) (λ j slot ne h. refl)
    (place_as d s k p now)
    (λ slot bytes blocks full replaces h. absurd (cc))

-- ---- a byte is taken

not_last : (p : ℕ) (bytes : List ℕ) → list_all (λ c. c == 0) (drop p bytes) ≡ false → p < length bytes
not_last zero [] h = absurd (cc)
not_last zero (c ∷ bytes) h = omega arith
not_last (suc p) [] h = absurd (cc)
not_last (suc p) (c ∷ bytes) h = let z = not_last p bytes h in omega (arith, z)

record_short : (t : ℕ) (c : Content) (d : Disk) (s n q k : ℕ) (bytes : List ℕ) → HoldsDisk t c d → IsPlace d s n q → record_at (body_at d s) k ≡ Some bytes → length bytes ≤ record_length_in (body_at d s)
record_short t c d s n q k bytes h at e = by_number (k == 0) (sym (ap (λ (b : Body). record_at b k) body) ∙ e)
  where
    body : body_at d s ≡ Records at.record_length at.records at.blocks at.sides
    body = body_there d s at.file at.in_slot ∙ at.body

    by_number : (b : Bool) → (if b then None else slice_get at.records (k - 1)) ≡ Some bytes → length bytes ≤ record_length_in (body_at d s)
    by_number true x = absurd (cc)
    by_number false x =
        let short = records_width t c d s at.file at.record_length at.blocks at.sides at.records h at.in_slot at.body (k - 1) bytes x in
        let width : record_length_in (body_at d s) ≡ at.record_length = ap record_length_in body in
        omega (arith, short, width)

pub taken_fits_in : (t : ℕ) (c : Content) (d : Disk) (protected : Bool) (channels : List Channel) (ch : ℕ) (x : Channel) → HoldsDisk t c d → channel_in channels ch ≡ x → IsOrderly d protected channels → FitsIn d d protected channels ch (taken_on d x)
taken_fits_in t c d protected channels ch Closed h e old = taken_fits d protected channels ch Closed e (λ s k p z. absurd (cc)) old
taken_fits_in t c d protected channels ch (Reading s left) h e old = taken_fits d protected channels ch (Reading s left) e (λ s k p z. absurd (cc)) old
taken_fits_in t c d protected channels ch (Writing s bytes blocks full replaces) h e old = taken_fits d protected channels ch (Writing s bytes blocks full replaces) e (λ s k p z. absurd (cc)) old
taken_fits_in t c d protected channels ch (Stopped s) h e old = taken_fits d protected channels ch (Stopped s) e (λ s k p z. absurd (cc)) old
taken_fits_in t c d protected channels ch (Relative s k p) h e old = by_record (record_at (body_at d s) k) refl
  where
    was : IsPlace d s k p
    was = old.relative ch s k p e

    width : record_length_in (body_at d s) ≡ was.record_length
    width = ap record_length_in (body_there d s was.file was.in_slot ∙ was.body)

    by_last : (bytes : List ℕ) (b : Bool) → list_all (λ c. c == 0) (drop p bytes) ≡ b → length bytes ≤ record_length_in (body_at d s) → FitsIn d d protected channels ch (if b then Relative s (k + 1) 1 else Relative s k (p + 1))
    by_last bytes true l short = relative_fits d protected channels ch s k p (k + 1) 1 e (omega arith) (omega arith) (omega (arith, width, was.inside.0, was.inside.1)) old
    by_last bytes false l short = relative_fits d protected channels ch s k p k (p + 1) e was.number (omega arith) (omega (arith, short, not_last p bytes l)) old

    by_record : (o : Option (List ℕ)) → record_at (body_at d s) k ≡ o → FitsIn d d protected channels ch (taken_on d (Relative s k p))
    by_record None r = subst (FitsIn d d protected channels ch) (sym (taken_as d s k p None r)) (same_fits d protected channels ch (Relative s k p) e old)
    by_record (Some bytes) r = subst (FitsIn d d protected channels ch) (sym (taken_as d s k p (Some bytes) r)) (by_last bytes (list_all (λ c. c == 0) (drop p bytes)) refl (record_short t c d s k p k bytes h was r))

-- ---- P

pub placed_fits : (k p : ℕ) (d : Disk) (protected : Bool) (channels : List Channel) (ch : ℕ) (x : Channel) → channel_in channels ch ≡ x → 1 ≤ k → 1 ≤ p → IsOrderly d protected channels → FitsIn d d protected channels ch (placed_on k p d x)
placed_fits k p d protected channels ch Closed e some first old = same_fits d protected channels ch Closed e old
placed_fits k p d protected channels ch (Reading s left) e some first old = same_fits d protected channels ch (Reading s left) e old
placed_fits k p d protected channels ch (Writing s bytes blocks full replaces) e some first old = same_fits d protected channels ch (Writing s bytes blocks full replaces) e old
placed_fits k p d protected channels ch (Stopped s) e some first old = same_fits d protected channels ch (Stopped s) e old
placed_fits k p d protected channels ch (Relative s n q) e some first old = by_end (nat_lt (record_length_in (body_at d s)) p) refl
  where
    by_end : (b : Bool) → nat_lt (record_length_in (body_at d s)) p ≡ b → FitsIn d d protected channels ch (if b then Relative s n q else Relative s k p)
    by_end true t = same_fits d protected channels ch (Relative s n q) e old
    by_end false t = relative_fits d protected channels ch s n q k p e some first (grind (arith, nat_tests, t)) old

-- what the machine does
place_law : (ch k p : ℕ) (m : Machine) (x : Channel) → ch < length m.channels → machine.channel m ch ≡ x → answered m (place ch k p x m) ≡ say (code_placed k p m.disk x) (with_channel ch (placed_on k p m.disk x) m)
place_law ch k p m Closed lt e = ap (say _) (same_machine ch m Closed lt e)
place_law ch k p m (Reading s left) lt e = ap (say _) (same_machine ch m (Reading s left) lt e)
place_law ch k p m (Writing s bytes blocks full replaces) lt e = ap (say _) (same_machine ch m (Writing s bytes blocks full replaces) lt e)
place_law ch k p m (Stopped s) lt e = ap (say _) (same_machine ch m (Stopped s) lt e)
place_law ch k p m (Relative s n q) lt e = by_end (nat_lt (record_length_in (body_at m.disk s)) p) refl
  where
    by_end : (b : Bool) → nat_lt (record_length_in (body_at m.disk s)) p ≡ b → answered m (place ch k p (Relative s n q) m) ≡ say (code_placed k p m.disk (Relative s n q)) (with_channel ch (placed_on k p m.disk (Relative s n q)) m)
    by_end true t = rw t (ap (say RecordOverflow) (same_machine ch m (Relative s n q) lt e))
    by_end false t = rw t refl

pub place_is : (ch k p : ℕ) (m : Machine) → (ch == 15) ≡ false → ch < length m.channels
    → answered m (run (Position ch k p) m) ≡ say (code_placed k p m.disk (machine.channel m ch)) (with_channel ch (placed_on k p m.disk (machine.channel m ch)) m)
place_is ch k p m other lt = rw other (place_law ch k p m (machine.channel m ch) lt refl)

-- ---- OPEN

-- no channel has a relative file open that none writes
pub relative_unused : (d : Disk) (protected : Bool) (channels : List Channel) (s w b n : ℕ) (rs : List (List ℕ)) (f : File) → IsOrderly d protected channels → file_at d s ≡ Some f → f.body ≡ Records w rs b n
    → list_any (machine.writes s) channels ≡ false → (k : ℕ) → still_uses s (channel_in channels k) ≡ false
relative_unused d protected channels s w b n rs f old at body none k = by_channel (channel_in channels k) refl (none_passes (machine.writes s) refl channels k none)
  where
    by_slot : (slot : ℕ) (left : List ℕ) (t : Bool) → (slot == s) ≡ t → channel_in channels k ≡ Reading (Some slot) left → t ≡ false
    by_slot slot left false e is = refl
    by_slot slot left true e is = absurd (let was : IsReadFrom d slot left = old.reading k slot left is in
        let same : Some was.file ≡ Some f = sym was.in_slot ∙ ap (file_at d) (eqb-true slot s e) ∙ at in
        let file : was.file ≡ f = cc in
        let z = sym was.body ∙ ap (λ (g : File). g.body) file ∙ body in (cc))

    by_channel : (y : Channel) → channel_in channels k ≡ y → machine.writes s y ≡ false → still_uses s y ≡ false
    by_channel Closed is h = refl
    by_channel (Reading None left) is h = refl
    by_channel (Reading (Some slot) left) is h = by_slot slot left (slot == s) refl is
    by_channel (Writing slot bytes blocks full replaces) is h = h
    by_channel (Stopped slot) is h = refl
    by_channel (Relative slot number p) is h = h
