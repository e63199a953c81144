-- The channels stay in order where one of them is set, and the disk with it.
use Rattle.std.proofs.Common.{◌≡◌, ◌≢◌, ℕ, ◌+◌, ◌<◌, ◌≤◌, Bool, true, false, List, [], drop, length, refl, sym, ap, ◌∙◌, subst, inl, inr}
use Rattle.std.specs.Prelude.{Option, Some, None, slice_set}
use Rattle.std.proofs.lemmas.List.{drop-drop, get_or-set_same, get_or-set_other}
use Rattle.std.proofs.lemmas.Bool.{eq-eqb}
use Rattle.std.proofs.lemmas.Bool.Decides.{eqb_tells}
use Rattle.cbm_file.specs.Files.{File, Disk, file_at, bytes_in}
use Rattle.cbm_volume.specs.Holding.{HasBytes}
use Rattle.cbm_volume.specs.Writers.{known}
use Rattle.cbm_machine.specs.Finding.{body_at}
use Rattle.cbm_machine.specs.Machines.{Channel, Closed, Reading, Writing, Stopped, Relative}
use Rattle.cbm_machine.specs.Orderly.{IsReadFrom, IsPlace, IsOrderly, channel_in, still_uses, still_writes}
use Rattle.cbm_machine.specs.Talking.{taken_on}

abbrev slot_of : Channel → ℕ
slot_of (Reading (Some s) left) = s
slot_of _ = 0

abbrev left_of : Channel → List ℕ
left_of (Reading s left) = left
left_of _ = []

abbrev place_slot : Channel → ℕ
place_slot (Relative s k p) = s
place_slot _ = 0

abbrev place_number : Channel → ℕ
place_number (Relative s k p) = k
place_number _ = 0

abbrev place_position : Channel → ℕ
place_position (Relative s k p) = p
place_position _ = 0

-- the place of a channel that is the same one
pub place_as : (d : Disk) (s k p : ℕ) → IsPlace d s k p → (slot j i : ℕ) → Relative s k p ≡ Relative slot j i → IsPlace d slot j i
place_as d s k p is slot j i h =
    subst (λ (x : ℕ). IsPlace d x j i) (ap place_slot h) (subst (λ (y : ℕ). IsPlace d s y i) (ap place_number h) (subst (λ (z : ℕ). IsPlace d s k z) (ap place_position h) is))

-- what a channel reads is there
abbrev pub ReadsWell : Disk → Channel → Type 0
ReadsWell d c = (slot : ℕ) (left : List ℕ) → c ≡ Reading (Some slot) left → IsReadFrom d slot left

-- what is read, and what a place lies in, is there where the file is one with the same bytes
pub read_there : (d d' : Disk) (slot : ℕ) (left : List ℕ) (was : IsReadFrom d slot left) (f : File) → file_at d' slot ≡ Some f → f.closed ≡ was.file.closed → f.body ≡ was.file.body → IsReadFrom d' slot left
read_there d d' slot left was f at shut same = record { file = f; in_slot = at; closed = shut ∙ was.closed; bytes = was.bytes; body = same ∙ was.body; taken = was.taken; rest = was.rest }

pub place_there : (d d' : Disk) (slot n q k p : ℕ) (was : IsPlace d slot n q) (f : File) → file_at d' slot ≡ Some f → f.closed ≡ was.file.closed → f.body ≡ was.file.body → 1 ≤ k → (1 ≤ p) × (p ≤ was.record_length) → IsPlace d' slot k p
place_there d d' slot n q k p was f at shut same number inside = record {
  file = f;
  in_slot = at;
  closed = shut ∙ was.closed;
  record_length = was.record_length;
  records = was.records;
  blocks = was.blocks;
  sides = was.sides;
  body = same ∙ was.body;
  number = number;
  inside = inside;
}

-- ---- one channel is set

-- What it reads is there and its place lies in a record; what the others have open stays; no slot is written here and open there.
pub record FitsIn (d d' : Disk) (protected : Bool) (channels : List Channel) (ch : ℕ) (y : Channel) : Type 0 where
  pub reads : ReadsWell d' y
  pub stays : (k slot : ℕ) → k ≢ ch → still_uses slot (channel_in channels k) ≡ true → known (file_at d' slot) ≡ known (file_at d slot)
  pub alone : (k slot : ℕ) → k ≢ ch → still_writes slot y ≡ true → still_uses slot (channel_in channels k) ≡ false
  pub unwritten : (k slot : ℕ) → k ≢ ch → still_uses slot y ≡ true → still_writes slot (channel_in channels k) ≡ false
  pub place : (slot k p : ℕ) → y ≡ Relative slot k p → IsPlace d' slot k p
  pub writable : (slot : ℕ) (bytes : List ℕ) (blocks : ℕ) (full replaces : Bool) → y ≡ Writing slot bytes blocks full replaces → protected ≡ false

-- a closed file that is known is there
pub known_is : (x y : Option File) (f : File) → known y ≡ known x → x ≡ Some f → f.closed ≡ true → y ≡ Some f
known_is x None f e at closed =
    let z : None ≡ Some f = e ∙ ap known at ∙ rw closed refl in absurd (cc)
known_is x (Some g) f e at closed = by_test g.closed refl
  where
    here : known (Some g) ≡ Some f
    here = e ∙ ap known at ∙ rw closed refl

    by_test : (b : Bool) → g.closed ≡ b → Some g ≡ Some f
    by_test true t = (let z : known (Some g) ≡ Some g = rw t refl in sym z ∙ here)
    by_test false t = absurd (let z : known (Some g) ≡ None = rw t refl in let y : None ≡ Some f = sym z ∙ here in (cc))

module _ (d d' : Disk) (protected : Bool) (channels : List Channel) (ch : ℕ) (y : Channel) (at : ch < length channels) (old : IsOrderly d protected channels) (f : FitsIn d d' protected channels ch y) where
  here : channel_in (slice_set channels ch y) ch ≡ y
  here = get_or-set_same channels ch y Closed at

  there : (k : ℕ) → k ≢ ch → channel_in (slice_set channels ch y) k ≡ channel_in channels k
  there k ne = get_or-set_other channels ch k y Closed ne

  -- what another channel has open stays
  still_there : (k slot : ℕ) (x : Channel) (g : File) → k ≢ ch → channel_in channels k ≡ x → still_uses slot x ≡ true → file_at d slot ≡ Some g → g.closed ≡ true → file_at d' slot ≡ Some g
  still_there k slot x g ne e u at shut = known_is (file_at d slot) (file_at d' slot) g (f.stays k slot ne (ap (still_uses slot) e ∙ u)) at shut

  read_kept : (k slot : ℕ) (left : List ℕ) → k ≢ ch → channel_in channels k ≡ Reading (Some slot) left → IsReadFrom d' slot left
  read_kept k slot left ne e =
      let was : IsReadFrom d slot left = old.reading k slot left e in
      read_there d d' slot left was was.file (still_there k slot (Reading (Some slot) left) was.file ne e (eq-eqb slot slot refl) was.in_slot was.closed) refl refl

  place_kept : (k slot number p : ℕ) → k ≢ ch → channel_in channels k ≡ Relative slot number p → IsPlace d' slot number p
  place_kept k slot number p ne e =
      let was : IsPlace d slot number p = old.relative k slot number p e in
      place_there d d' slot number p number p was was.file (still_there k slot (Relative slot number p) was.file ne e (eq-eqb slot slot refl) was.in_slot was.closed) refl refl was.number was.inside

  pub orderly_set : IsOrderly d' protected (slice_set channels ch y)
  orderly_set = record {
    reading = λ k slot left e. elim (eqb_tells k ch) [
      | inl same ↦ f.reads slot left (sym here ∙ ap (channel_in (slice_set channels ch y)) (sym same.1) ∙ e)
      | inr other ↦ read_kept k slot left other.1 (sym (there k other.1) ∙ e)
    ];
    alone = λ a b slot wa ub. elim (eqb_tells a ch) [
      | inl same ↦ (elim (eqb_tells b ch) [
        | inl also ↦ same.1 ∙ sym also.1
        | inr nb ↦ absurd (let w : still_writes slot y ≡ true = ap (still_writes slot) (sym here ∙ ap (channel_in (slice_set channels ch y)) (sym same.1)) ∙ wa in
            let z = sym (f.alone b slot nb.1 w) ∙ ap (still_uses slot) (sym (there b nb.1)) ∙ ub in (cc))
      ])
      | inr na ↦ (let w : still_writes slot (channel_in channels a) ≡ true = ap (still_writes slot) (sym (there a na.1)) ∙ wa in
          elim (eqb_tells b ch) [
            | inl also ↦ absurd (let u : still_uses slot y ≡ true = ap (still_uses slot) (sym here ∙ ap (channel_in (slice_set channels ch y)) (sym also.1)) ∙ ub in
                let z = sym (f.unwritten a slot na.1 u) ∙ w in (cc))
            | inr nb ↦ old.alone a b slot w (ap (still_uses slot) (sym (there b nb.1)) ∙ ub)
          ])
    ];
    relative = λ k slot number p e. elim (eqb_tells k ch) [
      | inl same ↦ f.place slot number p (sym here ∙ ap (channel_in (slice_set channels ch y)) (sym same.1) ∙ e)
      | inr other ↦ place_kept k slot number p other.1 (sym (there k other.1) ∙ e)
    ];
    writable = λ k slot bytes blocks full replaces e. elim (eqb_tells k ch) [
      | inl same ↦ f.writable slot bytes blocks full replaces (sym here ∙ ap (channel_in (slice_set channels ch y)) (sym same.1) ∙ e)
      | inr other ↦ old.writable k slot bytes blocks full replaces (sym (there k other.1) ∙ e)
    ];
  }

-- ---- which channels fit in

-- the slots of the one are slots of the other
pub record IsLess (y x : Channel) : Type 0 where
  pub has : (slot : ℕ) → still_uses slot y ≡ true → still_uses slot x ≡ true
  pub wrote : (slot : ℕ) → still_writes slot y ≡ true → still_writes slot x ≡ true

-- what has a slot open for writing has it open
pub writes_uses : (x : Channel) (slot : ℕ) → still_writes slot x ≡ true → still_uses slot x ≡ true
writes_uses Closed slot h = absurd (cc)
writes_uses (Reading s left) slot h = absurd (cc)
writes_uses (Writing s bytes blocks full replaces) slot h = h
writes_uses (Stopped s) slot h = absurd (cc)
writes_uses (Relative s k p) slot h = h

pub not_so : (b : Bool) → (b ≡ true → ⊥) → b ≡ false
not_so true h = absurd (h refl)
not_so false h = refl

-- a channel that goes on with its slot, or lets it go
pub less_fits : (d d' : Disk) (protected : Bool) (channels : List Channel) (ch : ℕ) (y : Channel) → IsOrderly d protected channels → IsLess y (channel_in channels ch) → ReadsWell d' y
    → ((k slot : ℕ) → k ≢ ch → still_uses slot (channel_in channels k) ≡ true → known (file_at d' slot) ≡ known (file_at d slot))
    → ((slot k p : ℕ) → y ≡ Relative slot k p → IsPlace d' slot k p)
    → ((slot : ℕ) (bytes : List ℕ) (blocks : ℕ) (full replaces : Bool) → y ≡ Writing slot bytes blocks full replaces → protected ≡ false) → FitsIn d d' protected channels ch y
less_fits d d' protected channels ch y old less reads stays place writable = record {
  reads = reads;
  stays = stays;
  alone = λ k slot ne w. not_so (still_uses slot (channel_in channels k)) (λ u. ne (sym (old.alone ch k slot (less.wrote slot w) u)));
  unwritten = λ k slot ne u. not_so (still_writes slot (channel_in channels k)) (λ w. ne (old.alone k ch slot w (less.has slot u)));
  place = place;
  writable = writable;
}

pub closed_well : (d : Disk) → ReadsWell d Closed
closed_well d slot left e = absurd (cc)

pub nothing_less : (x : Channel) → IsLess Closed x
nothing_less x = record { has = λ slot h. absurd (cc); wrote = λ slot h. absurd (cc) }

pub same_less : (y x : Channel) → y ≡ x → IsLess y x
same_less y x e = record { has = λ slot h. ap (still_uses slot) (sym e) ∙ h; wrote = λ slot h. ap (still_writes slot) (sym e) ∙ h }

-- a channel is closed, and the disk stays where others have it open
pub closed_fits : (d d' : Disk) (protected : Bool) (channels : List Channel) (ch : ℕ) → IsOrderly d protected channels
    → ((k slot : ℕ) → k ≢ ch → still_uses slot (channel_in channels k) ≡ true → known (file_at d' slot) ≡ known (file_at d slot)) → FitsIn d d' protected channels ch Closed
closed_fits d d' protected channels ch old stays =
    less_fits d d' protected channels ch Closed old (nothing_less (channel_in channels ch)) (closed_well d') stays (λ slot k p e. absurd (cc)) (λ slot bytes blocks full replaces e. absurd (cc))

-- ---- reading

-- after a byte that was taken of what is read
one_less : (d : Disk) (s : ℕ) (left : List ℕ) → IsReadFrom d s left → ReadsWell d (Reading (Some s) (drop 1 left))
one_less d s left there slot more h =
    let number : s ≡ slot = ap slot_of h in
    let bytes : drop 1 left ≡ more = ap left_of h in
    subst (λ n. IsReadFrom d n more) number (record {
      file = there.file;
      in_slot = there.in_slot;
      closed = there.closed;
      bytes = there.bytes;
      body = there.body;
      taken = there.taken + 1;
      rest = sym bytes ∙ ap (drop 1) there.rest ∙ drop-drop 1 there.taken there.bytes;
    })

-- a closed file is read from its first byte on
pub reads_file : (d : Disk) (s : ℕ) → HasBytes d s (bytes_in (body_at d s)) → ReadsWell d (Reading (Some s) (bytes_in (body_at d s)))
reads_file d s has slot left e =
    let number : s ≡ slot = ap slot_of e in
    subst (λ n. IsReadFrom d n left) number (record {
      file = has.file;
      in_slot = has.in_slot;
      closed = has.closed;
      bytes = bytes_in (body_at d s);
      body = has.body;
      taken = 0;
      rest = sym (ap left_of e);
    })

-- a byte was taken of a channel that has no records
pub taken_fits : (d : Disk) (protected : Bool) (channels : List Channel) (ch : ℕ) (x : Channel) → channel_in channels ch ≡ x → ((s k p : ℕ) → x ≡ Relative s k p → ⊥) → IsOrderly d protected channels
    → FitsIn d d protected channels ch (taken_on d x)
taken_fits d protected channels ch Closed e plain old = closed_fits d d protected channels ch old (λ k slot ne h. refl)
taken_fits d protected channels ch (Reading None left) e plain old =
    less_fits d d protected channels ch (Reading None (drop 1 left)) old (record { has = λ slot h. absurd (cc); wrote = λ slot h. absurd (cc) }) (λ slot more h. absurd (cc)) (λ k slot ne h. refl) (λ slot k p h. absurd (cc))
    (λ slot bytes blocks full replaces h. absurd (cc))
taken_fits d protected channels ch (Reading (Some s) left) e plain old =
    less_fits d d protected channels ch (Reading (Some s) (drop 1 left)) old (record { has = λ slot h. ap (still_uses slot) e ∙ h; wrote = λ slot h. absurd (cc) }) (one_less d s left (old.reading ch s left e))
    (λ k slot ne h. refl) (λ slot k p h. absurd (cc)) (λ slot bytes blocks full replaces h. absurd (cc))
taken_fits d protected channels ch (Writing s bytes blocks full replaces) e plain old =
    less_fits d d protected channels ch (Writing s bytes blocks full replaces) old (same_less _ _ (sym e)) (λ slot left h. absurd (cc)) (λ k slot ne h. refl) (λ slot k p h. absurd (cc))
    (λ slot xs n f r h. old.writable ch slot xs n f r (e ∙ h))
taken_fits d protected channels ch (Stopped s) e plain old =
    less_fits d d protected channels ch (Stopped s) old (same_less _ _ (sym e)) (λ slot left h. absurd (cc)) (λ k slot ne h. refl) (λ slot k p h. absurd (cc)) (λ slot xs n f r h. absurd (cc))
taken_fits d protected channels ch (Relative s k p) e plain old = absurd (plain s k p refl)

-- no channel is open
pub first_orderly : (d : Disk) (protected : Bool) (channels : List Channel) → ((k : ℕ) → channel_in channels k ≡ Closed) → IsOrderly d protected channels
first_orderly d protected channels closed = record {
  reading = λ k slot left e. absurd (let z = sym (closed k) ∙ e in (cc));
  alone = λ a b slot h g. absurd (let z = ap (still_writes slot) (sym (closed a)) ∙ h in (cc));
  relative = λ k slot number p e. absurd (let z = sym (closed k) ∙ e in (cc));
  writable = λ k slot bytes blocks full replaces e. absurd (let z = sym (closed k) ∙ e in (cc));
}
