-- What COPY answers, by what its parts answer.
use Rattle.std.proofs.Common.{◌≡◌, ◌≢◌, ℕ, ◌≤◌, length, arith, List, Bool, true, false, refl, sym, ap, ◌∙◌, inl, inr, Result, Ok}
use Rattle.std.specs.Prelude.{◌||◌, min, not, nat_lt, IsOkAnd, MatchResult}
use Rattle.std.proofs.lemmas.Bool.{cases_lt, lt-ltb, le-ltb}
use Rattle.cbm_medium.specs.Seen.{Seen}
use Rattle.cbm_medium.specs.declared.fault.Trouble.{Trouble}
use Rattle.cbm_file.specs.declared.file_type.FileType.{FileType}
use Rattle.cbm_file.specs.declared.file_type.FileType.TheVariants.{Del, Rel}
use Rattle.cbm_file.specs.Padding.{before_filler}
use Rattle.cbm_file.specs.Types.{is_same_type}
use Rattle.cbm_file.specs.Files.{Disk, blocks_of, parts}
use Rattle.cbm_file.specs.Changes.{joined, copy_blocks, has_slot, with_copy}
use Rattle.cbm_volume.specs.Copies.{AreCopied, HasNoRoomFor, IsCopyCut}
use Rattle.cbm_volume.specs.Reaches.{Reached}
use Rattle.cbm_volume.specs.Writers.{Use, Idle, HoldsNow}
use Rattle.cbm_volume.proofs.copied.CopySteps.{fewer}

-- the clauses of the parts, over what the medium shows
abbrev pub Totals : Seen → List ℕ → Result ℕ Trouble → Type 0
Totals now sources r = (d : Disk) (uses : ℕ → Use) → HoldsNow now.tracks now.content d uses → AreCopied d sources → IsOkAnd r (λ n. n ≡ min (length (joined d sources)) 4294967295)

abbrev pub Makes : Seen → Seen → FileType → List ℕ → List ℕ → Result (Unit {0}) Trouble → Type 0
Makes old new kind name sources r = (d : Disk) (uses : ℕ → Use) (ch : ℕ) (h : HoldsNow old.tracks old.content d uses) → uses ch ≡ Idle → kind ≢ Del → is_same_type Rel kind ≡ false → AreCopied d sources → has_slot d ≡ true → copy_blocks d sources ≤ d.free
    → MatchResult r (λ x. Reached old.tracks old.content h.layout new.content (with_copy d kind (before_filler name) sources) uses) (IsCopyCut old new old.content h.layout d uses)

-- ---- the room

-- too much as counted is too much
pub no_room : (d : Disk) (sources : List ℕ) (bytes blocks : ℕ) (slot : Bool) → bytes ≡ min (length (joined d sources)) 4294967295 → blocks ≡ d.free → slot ≡ has_slot d → (nat_lt blocks (blocks_of bytes) || not slot) ≡ true → HasNoRoomFor d sources
no_room d sources bytes blocks slot e f s h = elim (cases_lt d.free (copy_blocks d sources)) [
  | inl little ↦ ap (λ (x : Bool). x || not (has_slot d)) (lt-ltb d.free (copy_blocks d sources) little)
  | inr enough ↦ (let l : blocks_of bytes ≤ copy_blocks d sources = fewer bytes (length (joined d sources)) (omega (arith, e)) in
      let n : nat_lt blocks (blocks_of bytes) ≡ false = le-ltb blocks (blocks_of bytes) (omega (arith, l, enough, f)) in
      let g : not slot ≡ true = ap (λ (x : Bool). x || not slot) (sym n) ∙ h in
      by_first (nat_lt d.free (copy_blocks d sources)) (not (has_slot d)) (ap not (sym s) ∙ g))
]
  where
    by_first : (x y : Bool) → y ≡ true → (x || y) ≡ true
    by_first true y e = refl
    by_first false y e = e

-- enough as counted is enough
pub some_room : (d : Disk) (sources : List ℕ) (bytes blocks : ℕ) → bytes ≡ min (length (joined d sources)) 4294967295 → blocks ≡ d.free → blocks_of bytes ≤ blocks → blocks ≤ 65535 → copy_blocks d sources ≤ d.free
some_room d sources bytes blocks e f enough few = elim (cases_lt 4294967295 (length (joined d sources))) [
  | inl long ↦ absurd (let b : bytes ≡ 4294967295 = omega (arith, e, long) in let p : parts bytes 254 ≡ 16909321 = omega (arith, b) in omega (arith, enough, few, p))
  | inr short ↦ (let b : bytes ≡ length (joined d sources) = omega (arith, e, short) in omega (arith, ap blocks_of b, enough, f))
]

-- both can't be
pub room_is_none : (d : Disk) (sources : List ℕ) → has_slot d ≡ true → copy_blocks d sources ≤ d.free → HasNoRoomFor d sources → ⊥
room_is_none d sources slot enough none =
    let n : nat_lt d.free (copy_blocks d sources) ≡ false = le-ltb d.free (copy_blocks d sources) enough in
    let some : (nat_lt d.free (copy_blocks d sources) || not (has_slot d)) ≡ false = rw n (ap not slot) in
    let z = sym some ∙ none in (cc)

-- what was counted, and what the disk has room for
pub room_for : (old : Seen) (d : Disk) (uses : ℕ → Use) (sources : List ℕ) (bytes blocks : ℕ) (slot : Bool) → Totals old sources (Ok bytes) → HoldsNow old.tracks old.content d uses → AreCopied d sources → (blocks ≡ d.free) × (slot ≡ has_slot d)
    → (blocks_of bytes ≤ blocks) × (slot ≡ true) × (blocks ≤ 65535) → (has_slot d ≡ true) × (copy_blocks d sources ≤ d.free)
room_for old d uses sources bytes blocks slot totals h are means enough = (sym means.1 ∙ enough.1, some_room d sources bytes blocks (totals d uses h are) means.0 enough.0 enough.2)
