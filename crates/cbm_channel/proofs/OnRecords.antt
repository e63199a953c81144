-- A place in a relative file, beside the machine's.
use Rattle.std.proofs.Common.{◌≡◌, ◌≢◌, ℕ, ◌+◌, ◌-◌, Bool, true, false, List, [], drop, Option, Some, None, sym, ap, ◌∙◌}
use Rattle.std.specs.Prelude.{◌==◌, if◌then◌else◌, slice_get}
use Rattle.std.proofs.lemmas.Bool.{ne_eqb}
use Rattle.std.specs.List.{list_all}
use Rattle.cbm_file.specs.Files.{Body, Bytes, Records, File, Disk, file_at}
use Rattle.cbm_machine.specs.Machines.{Channel, Relative}
use Rattle.cbm_machine.specs.Finding.{body_at}
use Rattle.cbm_file.specs.Records.{record_at}
use Rattle.cbm_machine.specs.Talking.{taken_on}
use Rattle.cbm_channel.specs.Placed.{Placed, IsOnRecord, IsPlacedAt, Waits, record_of, is_broken, is_last_filled}
use Rattle.cbm_channel.specs.declared.on_record.Waiting.{Waiting}

-- the body of the slot's file
pub body_there : (d : Disk) (s : ℕ) (f : File) → file_at d s ≡ Some f → body_at d s ≡ f.body
body_there d s f at = ap (λ (o : Option File). elim o [ None ↦ Bytes [] | Some g ↦ g.body ]) at

-- what waits is the machine's record
pub record_on : (d : Disk) (r : Placed) → IsOnRecord d r → record_at (body_at d r.slot) r.number ≡ record_of r.waiting
record_on d r h = ap (λ (b : Body). record_at b r.number) (body_there d r.slot h.file h.in_slot ∙ h.body) ∙ sym h.waits.same

abbrev pub goes_on : Option (List ℕ) → ℕ → ℕ → ℕ → Channel
goes_on None s k p = Relative s k p
goes_on (Some bytes) s k p = if list_all (λ c. c == 0) (drop p bytes) then Relative s (k + 1) 1 else Relative s k (p + 1)

pub taken_as : (d : Disk) (s k p : ℕ) (o : Option (List ℕ)) → record_at (body_at d s) k ≡ o → taken_on d (Relative s k p) ≡ goes_on o s k p
taken_as d s k p None e = ap (λ (x : Option (List ℕ)). elim x [ None ↦ Relative s k p | Some bytes ↦ if list_all (λ c. c == 0) (drop p bytes) then Relative s (k + 1) 1 else Relative s k (p + 1) ]) e
taken_as d s k p (Some b) e = ap (λ (x : Option (List ℕ)). elim x [ None ↦ Relative s k p | Some bytes ↦ if list_all (λ c. c == 0) (drop p bytes) then Relative s (k + 1) 1 else Relative s k (p + 1) ]) e

-- no record waits
pub nothing_waits : (d : Disk) (r : Placed) → IsOnRecord d r → record_of r.waiting ≡ None → taken_on d (Relative r.slot r.number r.position) ≡ Relative r.slot r.number r.position
nothing_waits d r h e = taken_as d r.slot r.number r.position None (record_on d r h ∙ e)

-- the last byte of a record is taken
pub next_record : (d : Disk) (old new : Placed) (bytes : List ℕ) → IsOnRecord d old → record_of old.waiting ≡ Some bytes → is_last_filled bytes old.position ≡ true → IsPlacedAt old new (old.number + 1) 1
    → Relative new.slot new.number new.position ≡ taken_on d (Relative old.slot old.number old.position)
next_record d old new bytes h e last at =
    (λ i. Relative (at.same_slot i) (at.at_number i) (at.at_position i))
    ∙ sym (taken_as d old.slot old.number old.position (Some bytes) (record_on d old h ∙ e) ∙ ap (λ (b : Bool). if b then Relative old.slot (old.number + 1) 1 else Relative old.slot old.number (old.position + 1)) last)

-- a byte within a record is taken
pub next_byte : (d : Disk) (old : Placed) (bytes : List ℕ) → IsOnRecord d old → record_of old.waiting ≡ Some bytes → is_last_filled bytes old.position ≡ false
    → Relative old.slot old.number (old.position + 1) ≡ taken_on d (Relative old.slot old.number old.position)
next_byte d old bytes h e last =
    sym (taken_as d old.slot old.number old.position (Some bytes) (record_on d old h ∙ e) ∙ ap (λ (b : Bool). if b then Relative old.slot (old.number + 1) 1 else Relative old.slot old.number (old.position + 1)) last)

-- what was read of a file's records is what waits
pub waits_is : (w b s n : ℕ) (rs : List (List ℕ)) (x : Waiting) → n ≢ 0 → record_of x ≡ slice_get rs (n - 1) → is_broken x ≡ false → Waits (record_at (Records w rs b s) n) x
waits_is w b s n rs x some e whole = record { same = e ∙ sym (ap (λ (t : Bool). if t then None else slice_get rs (n - 1)) (ne_eqb n 0 some)); whole = whole }
