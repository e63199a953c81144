-- What the call that grows a relative file means: the machine's disk, or what a refused write left.
use Rattle.std.proofs.Common.{◌≡◌, ℕ, ◌+◌, ◌-◌, ◌≤◌, List, Bool, true, false, Option, Some, None, Result, refl, sym, ap, subst, ◌∙◌, arith, inl, inr}
use Rattle.std.specs.Prelude.{MatchOption, nat_lt, ◌||◌, ◌==◌}
use Rattle.std.proofs.lemmas.Bool.{cases_lt, lt-ltb}
use Rattle.std.proofs.lemmas.List.{append-nil}
use Rattle.cbm_medium.specs.Content.{Content}
use Rattle.cbm_medium.specs.Seen.{Seen}
use Rattle.cbm_medium.specs.declared.fault.Trouble.{Trouble}
use Rattle.cbm_file.specs.Files.{Disk, Records}
use Rattle.cbm_file.specs.Records.{blocks_for, sides_for, with_sized_body}
use Rattle.cbm_bam.specs.Map.{geometry_of}
use Rattle.cbm_directory.specs.Entries.{entry_at, first_block, first_side}
use Rattle.cbm_relfile.specs.Records.{Relative}
use Rattle.cbm_volume.specs.Growth.{filled_up, more_blocks, with_growth, IsTooLarge, IsGrowthCut, IsGrowth}
use Rattle.cbm_volume.specs.Growing.{IsGrowthStopped, IsGrownTo, IsPlanned, is_too_large}
use Rattle.cbm_volume.specs.Staying.{LeavesClosed}
use Rattle.cbm_volume.specs.Opens.{IsHindered}
use Rattle.cbm_volume.specs.RecordWrites.{HasRecordsOpen, OfOpen}
use Rattle.cbm_volume.specs.Writers.{Use, HoldsNow}
use Rattle.cbm_volume.proofs.grown.GrowingEnds.{stopped_untouched, grown_untouched}
use Rattle.cbm_volume.proofs.layouts.Staying.{entries_same, leaves_others}
use Rattle.cbm_volume.proofs.grown.GrowingSteps.{Stage, cut_of}
use Rattle.cbm_volume.proofs.relative.LastGrown.{begins}

-- ---- the test

first_false : (x y z : Bool) → (x || y || z) ≡ false → x ≡ false
first_false true y z h = absurd (cc)
first_false false y z h = refl

at_most : (a b : ℕ) → nat_lt a b ≡ false → b ≤ a
at_most a b h = elim (cases_lt a b) [ inl l ↦ absurd (let z = sym (lt-ltb a b l) ∙ h in (cc)) | inr l ↦ l ]

room_for : (free w b s k goal : ℕ) → goal ≡ blocks_for w b k → is_too_large free w b s k ≡ false → goal + sides_for s goal - (b + s) ≤ free
room_for free w b s k goal e h =
    let l : more_blocks w b s k ≤ free = at_most free (more_blocks w b s k) (first_false (nat_lt free (more_blocks w b s k)) (nat_lt 720 (blocks_for w b k)) (nat_lt 65535 k) h) in
    subst (λ (g : ℕ). g + sides_for s g - (b + s) ≤ free) (sym e) (fewer (blocks_for w b k) (omega arith) l)
  where
    fewer : (g : ℕ) → b ≤ g → (g - b) + (sides_for s g - s) ≤ free → g + sides_for s g - (b + s) ≤ free
    fewer g l m = omega (arith, l, m)

-- ---- the machine's disk

same_growth : (d : Disk) (n w b s : ℕ) (rs : List (List ℕ)) (k goal : ℕ) → goal ≡ blocks_for w b k
    → record (with_sized_body d n (goal + sides_for s goal) (Records w (filled_up w goal rs) goal (sides_for s goal))) { free = d.free - (goal + sides_for s goal - (b + s)) } ≡ with_growth d n w b s rs k
same_growth d n w b s rs k goal e =
    (λ i. record (with_sized_body d n (e i + sides_for s (e i)) (Records w (filled_up w (e i) rs) (e i) (sides_for s (e i)))) { free = d.free - (e i + sides_for s (e i) - (b + s)) })
    ∙ (let z : d.free - (blocks_for w b k + sides_for s (blocks_for w b k) - (b + s)) ≡ d.free - more_blocks w b s k = by_number (blocks_for w b k) (omega arith) in
    λ i. record (with_sized_body d n (blocks_for w b k + sides_for s (blocks_for w b k)) (Records w (filled_up w (blocks_for w b k) rs) (blocks_for w b k) (sides_for s (blocks_for w b k)))) { free = z i })
  where
    by_number : (g : ℕ) → b ≤ g → d.free - (g + sides_for s g - (b + s)) ≡ d.free - ((g - b) + (sides_for s g - s))
    by_number g l = omega (arith, l)

-- what the growth to so many blocks says
abbrev pub GrowsBy : Seen → Seen → ℕ → Relative → ℕ → ℕ → ℕ → (Type 0 → (Trouble → Type 0) → Type 0) → Type 0
GrowsBy old new n file b s goal says = (d : Disk) (uses : ℕ → Use) (w : ℕ) (rs : List (List ℕ)) → (o : HasRecordsOpen old.tracks old.content d uses n w b s rs)
    → file ≡ record { first = first_block (entry_at old.content o.holds.layout.directory n); side = first_side (entry_at old.content o.holds.layout.directory n); width = w } → goal + sides_for s goal - (b + s) ≤ d.free
    → says (IsGrownTo old.tracks old.content new.content o.holds.layout d uses n w rs b s goal) (IsGrowthStopped old new old.content o.holds.layout d uses n w rs)

module _ (old new : Seen) (d : Disk) (uses : ℕ → Use) (n w b s : ℕ) (rs : List (List ℕ)) (o : HasRecordsOpen old.tracks old.content d uses n w b s rs) where
  -- nothing has changed
  pub same_untouched : new.content ≡ old.content → LeavesClosed (geometry_of old.tracks old.content) old.content new.content (λ m. m == n) (λ m. m == n)
  same_untouched e = leaves_others (geometry_of old.tracks old.content) old.content new.content o.holds.layout n o.holds.so.stands.sound
      (λ m ne. (λ p h. ap (λ (x : Content). x p) e, λ p h. ap (λ (x : Content). x p) e)) (entries_same o.holds.layout old.content new.content (λ m. m == n) e)

  pub nothing_cut : (t : Trouble) → new.content ≡ old.content → IsHindered old new t → IsGrowthCut old new d uses n w rs t
  nothing_cut t e cause =
      cut_of old new old.content d uses n w o.file rs o.holds.layout old.content o.holds.layout 0 b s d.free t o.in_slot
      (subst (λ (ys : List (List ℕ)). Stage old.tracks old.content o.holds.layout d uses n o.file w old.content o.holds.layout ys b s d.free) (sym (append-nil rs)) (begins old.tracks old.content d uses n w b s rs o)) e cause

  pub stopped_files : (t : Trouble) → IsGrowthStopped old new old.content o.holds.layout d uses n w rs t → LeavesClosed (geometry_of old.tracks old.content) old.content new.content (λ m. m == n) (λ m. m == n)
  stopped_files t k = stopped_untouched old new o.holds.layout d uses n w rs t o.holds.so.stands.sound k

  -- the plan is carried out
  pub grows : (k : ℕ) (file : Relative) (blocks sides goal : ℕ) (says : Type 0 → (Trouble → Type 0) → Type 0) → IsPlanned old.tracks old.content d uses n w b s rs o k file blocks sides goal → GrowsBy old new n file blocks sides goal says
      → says (IsGrownTo old.tracks old.content new.content o.holds.layout d uses n w rs b s goal) (IsGrowthStopped old new old.content o.holds.layout d uses n w rs)
  grows k file blocks sides goal says p h =
      subst (λ (m : ℕ). GrowsBy old new n file b m goal says) p.sides_are (subst (λ (m : ℕ). GrowsBy old new n file m sides goal says) p.blocks_are h) d uses w rs o p.file (room_for d.free w b s k goal p.goal_is p.fits)

  pub grown_means : (k : ℕ) (file : Relative) (blocks sides goal : ℕ) → IsPlanned old.tracks old.content d uses n w b s rs o k file blocks sides goal → IsGrownTo old.tracks old.content new.content o.holds.layout d uses n w rs b s goal
      → HoldsNow old.tracks new.content (with_growth d n w b s rs k) uses
  grown_means k file blocks sides goal p g = subst (λ (x : Disk). HoldsNow old.tracks new.content x uses) (same_growth d n w b s rs k goal p.goal_is) g.holds

  pub grown_files : (goal : ℕ) → IsGrownTo old.tracks old.content new.content o.holds.layout d uses n w rs b s goal → LeavesClosed (geometry_of old.tracks old.content) old.content new.content (λ m. m == n) (λ m. m == n)
  grown_files goal g = grown_untouched old new o.holds.layout d uses n w rs b s goal o.holds.so.stands.sound g

  -- it isn't too large
  pub not_too : (k : ℕ) (file : Relative) (blocks sides goal : ℕ) → IsPlanned old.tracks old.content d uses n w b s rs o k file blocks sides goal → IsTooLarge d w b s k → ⊥
  not_too k file blocks sides goal p h = let z : true ≡ false = sym h ∙ p.fits in (cc)

-- an answer that is none, and one that is some
pub none_says : {P : Type 0} (x : Option P) (A : Type 0) (B : P → Type 0) → x ≡ None → MatchOption x A B → A
none_says {P} x A B e h = subst (λ (y : Option P). MatchOption y A B) e h

pub some_says : {P : Type 0} (x : Option P) (p : P) (A : Type 0) (B : P → Type 0) → x ≡ Some p → MatchOption x A B → B p
some_says {P} x p A B e h = subst (λ (y : Option P). MatchOption y A B) e h

-- ---- the clauses of the growth in a slot, over what the medium shows

abbrev pub SlotGrows : Seen → Seen → ℕ → ℕ → ℕ → Result Bool Trouble → Type 0
SlotGrows old new n k free r = OfOpen old n (λ d uses w b s rs o. free ≡ d.free → IsGrowth r old new d uses n w b s rs k)
