-- After a byte that isn't the last there is another, on each channel of the named-files machine.
use Rattle.std.proofs.Common.{◌≡◌, ℕ, zero, suc, ◌+◌, ◌-◌, ◌<◌, Bool, true, false, List, [], ◌∷◌, length, drop, Option, Some, None, refl, sym, ap, subst, arith, inl, inr}
use Rattle.std.specs.Prelude.{IfSome, ◌==◌, slice_index_or, if◌then◌else◌}
use Rattle.std.specs.List.{list_all}
use Rattle.std.proofs.lemmas.List.{get_or-set_same, get_or_past}
use Rattle.std.proofs.lemmas.Bool.{cases_lt, lt-ltb, false≢true}
use Rattle.cbm_file.specs.Files.{Disk}
use Rattle.cbm_file.specs.Waiting.{next_shown}
use Rattle.cbm_machine.specs.Statuses.{return, status_line}
use Rattle.cbm_machine.specs.Machines.{Channel, Closed, Reading, Writing, Stopped, Relative, Machine, channel}
use Rattle.cbm_machine.specs.Finding.{body_at}
use Rattle.cbm_file.specs.Records.{record_at}
use Rattle.cbm_machine.specs.Talking.{next_of_record, peek_on, peek, taken_on, taken}
use Rattle.cbm_iec.specs.declared.machine.Act.TheVariants.{Said}
use Rattle.cbm_drive.specs.Addressing.{channel_said}
use Rattle.cbm_drive.specs.Desks.{Desk, taken_from, peek_from, desk_step, desk_says}

-- a byte that isn't the last is no last one
abbrev last_in : Option (ℕ × Bool) → Bool
last_in None = false
last_in (Some said) = said.1

not_last : (a b : ℕ) → ◌≡◌ {A = Option (ℕ × Bool)} (Some (a, true)) (Some (b, false)) → ⊥
not_last a b e = false≢true (sym (ap last_in e))

-- there is a byte to say
abbrev IsMore : Option (ℕ × Bool) → Type 0
IsMore said = (x : ℕ × Bool) × (said ≡ Some x)

-- of the bytes that are left
more_left : (left : List ℕ) (n : ℕ) → next_shown left ≡ Some (n, false) → IsMore (next_shown (drop 1 left))
more_left [] n e = absurd cc
more_left (b ∷ []) n e = absurd (not_last b n e)
more_left (b ∷ c ∷ []) n e = ((c, true), refl)
more_left (b ∷ c ∷ d ∷ left) n e = ((c, false), refl)

-- of a line of which some were taken
more_line : (line : List ℕ) (told n : ℕ) → next_shown (drop told line) ≡ Some (n, false) → IsMore (next_shown (drop (told + 1) line)) × (told + 1 < length line)
more_line [] zero n e = absurd cc
more_line [] (suc told) n e = absurd cc
more_line (b ∷ []) zero n e = absurd (not_last b n e)
more_line (b ∷ c ∷ line) zero n e = (more_left (b ∷ c ∷ line) n e, omega arith)
more_line (b ∷ line) (suc told) n e =
    let rest = more_line line told n e in
    let same : suc (told + 1) ≡ suc told + 1 = omega arith in
    (subst (λ t. IsMore (next_shown (drop t (b ∷ line)))) same rest.0, omega (arith, rest.1))

-- ---- a channel from 0 to 14

-- of a record that is there
more_there : (found : Option (List ℕ)) (bytes : List ℕ) (p : ℕ) → found ≡ Some bytes → IsMore (next_of_record found p)
more_there found bytes p e = subst (λ r. IsMore (next_of_record r p)) (sym e) ((slice_index_or bytes (p - 1) 0, list_all (λ c. c == 0) (drop p bytes)), refl)

-- the next byte of it
next_place : (d : Disk) (s k p : ℕ) (bytes : List ℕ) → record_at (body_at d s) k ≡ Some bytes → list_all (λ c. c == 0) (drop p bytes) ≡ false → taken_on d (Relative s k p) ≡ Relative s k (p + 1)
next_place d s k p bytes e z = rw (e, taken_on) (rw z refl)

more_record : (d : Disk) (s k p n : ℕ) (found : Option (List ℕ)) → record_at (body_at d s) k ≡ found → next_of_record found p ≡ Some (n, false) → IsMore (peek_on d (taken_on d (Relative s k p)))
more_record d s k p n None e said = absurd (not_last return n said)
more_record d s k p n (Some bytes) e said = by_rest (list_all (λ c. c == 0) (drop p bytes)) refl said
  where
    by_rest : (z : Bool) → list_all (λ c. c == 0) (drop p bytes) ≡ z → ◌≡◌ {A = Option (ℕ × Bool)} (Some (slice_index_or bytes (p - 1) 0, z)) (Some (n, false)) → IsMore (peek_on d (taken_on d (Relative s k p)))
    by_rest true z x = absurd (not_last (slice_index_or bytes (p - 1) 0) n x)
    by_rest false z x = subst (λ c. IsMore (peek_on d c)) (sym (next_place d s k p bytes e z)) (more_there (record_at (body_at d s) k) bytes (p + 1) e)

more_on : (d : Disk) (c : Channel) (n : ℕ) → peek_on d c ≡ Some (n, false) → IsMore (peek_on d (taken_on d c))
more_on d Closed n e = absurd cc
more_on d (Reading s left) n e = more_left left n e
more_on d (Writing s bytes blocks full replaces) n e = absurd cc
more_on d (Stopped s) n e = absurd cc
more_on d (Relative s k p) n e = more_record d s k p n (record_at (body_at d s) k) refl e

-- ---- every channel

-- a channel that has something to say is there
is_there : (xs : List Channel) (ch : ℕ) (d : Disk) (n : ℕ) → peek_on d (slice_index_or xs ch Closed) ≡ Some (n, false) → ch < length xs
is_there xs ch d n e = elim (cases_lt ch (length xs)) [
  | inl lt ↦ lt
  | inr past ↦ absurd (let f = subst (λ c. peek_on d c ≡ Some (n, false)) (get_or_past xs ch Closed past) e in cc)
]

more_taken : (ch n : ℕ) (m : Machine) → peek ch m ≡ Some (n, false) → IsMore (peek ch (taken ch m))
more_taken ch n m = by_number (ch == 15) refl
  where
    by_number : (b : Bool) → (ch == 15) ≡ b → (if b then next_shown (drop m.told (status_line m.status)) else peek_on m.disk (channel m ch)) ≡ Some (n, false) → IsMore (peek ch (taken ch m))
    by_number true t e =
        let more = more_line (status_line m.status) m.told n e in
        rw (t, lt-ltb (m.told + 1) (length (status_line m.status)) more.1) more.0
    by_number false t e =
        rw (t, get_or-set_same m.channels ch (taken_on m.disk (channel m ch)) Closed (is_there m.channels ch m.disk n e)) (more_on m.disk (channel m ch) n e)

more_from : (ch : Option ℕ) (n : ℕ) (m : Machine) → peek_from ch m ≡ Some (n, false) → IsMore (peek_from ch (taken_from ch m))
more_from None n m e = absurd cc
more_from (Some ch) n m e = more_taken ch n m e

-- AFTER A BYTE THAT ISN'T THE LAST A DESK HAS ANOTHER.
pub more_said : (d : Desk Machine) (n : ℕ) → desk_says d ≡ Some (n, false) → (x : ℕ × Bool) × (desk_says (desk_step d (Said n false)) ≡ Some x)
more_said d n e = more_from (channel_said d.addressed.role d.addressed.channel) n d.dos e

-- what is said is a byte
pub is_byte : (said : Option (ℕ × Bool)) (n : ℕ) (last : Bool) → IfSome said (λ s. s.0 < 256) → said ≡ Some (n, last) → n < 256
is_byte said n last h e = subst (λ (x : Option (ℕ × Bool)). IfSome x (λ s. s.0 < 256)) e h
