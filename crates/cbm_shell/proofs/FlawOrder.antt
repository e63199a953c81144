-- The list of flaws and what `check` answers: none on a sound disk, else the first is the one that it names.
use Rattle.std.proofs.Common.{◌≡◌, ◌≢◌, ◌⊎◌, ℕ, zero, suc, ◌+◌, ◌≤◌, ◌<◌, List, [], ◌∷◌, ◌++◌, length, Bool, true, false, Option, Some, None, Result, Ok, Err, refl, sym, ap, subst, ◌∙◌, arith, inl, inr}
use Rattle.std.specs.Prelude.{◌==◌, ◌%◌, ◌&&◌, not, nat_lt, if◌then◌else◌, is_some, IsOk, IfOk}
use Rattle.std.proofs.lemmas.Bool.{cases_eq, eq-eqb, ne_eqb, lt-ltb}
use Rattle.cbm_medium.specs.Place.{Place, Has, has, sectors_on, directory_head}
use Rattle.cbm_medium.specs.Content.{Cell, Content, is_header_fault}
use Rattle.cbm_medium.specs.Links.{bytes_at, or_nothing, link}
use Rattle.cbm_medium.proofs.Walks.{has_true, bool_cases}
use Rattle.cbm_bam.specs.Map.{map_of, is_free_in, with_bit, tally, number, at}
use Rattle.cbm_bam.proofs.Counts.{tally_most, number_most, blocks_on_40}
use Rattle.cbm_directory.specs.Entries.{type_byte, is_closed, is_relative, first_block, first_side, first_directory}
use Rattle.cbm_volume.specs.Layouts.{Layout, Sound, IsCellWritable}
use Rattle.cbm_bam.specs.Map.{geometry_of}
use Rattle.cbm_volume.specs.declared.check.unsound.Part.{Part}
use Rattle.cbm_volume.specs.declared.check.unsound.Part.TheVariants.{OfDirectory, OfFile}
use Rattle.cbm_volume.specs.declared.Unsound.{Unsound}
use Rattle.cbm_volume.specs.check.Claims.{reads, wrong_at, fault_at, unclaimed, ClaimsChain, MeetsFault}
use Rattle.cbm_volume.specs.check.Headers.{is_bad_header, comes_before, IsFirstBad}
use Rattle.cbm_volume.specs.check.MapCounts.{is_counted_on, IsMapRight, IsMapFault}
use Rattle.cbm_volume.specs.check.SideLists.{ClaimsEach, MeetsAmong, ClaimsSides, SidesFault, sides_from, are_records}
use Rattle.cbm_volume.specs.check.SlotWalk.{entries_in, ClaimsFile, FileFault, ClaimsEntry, EntryFault, ClaimsEntries, EntriesFault, ClaimsSlots, SlotsFault}
use Rattle.cbm_volume.specs.check.WholeDisk.{only_head, AllWritable, ClaimsDisk, DiskFault}
use Rattle.cbm_volume.proofs.checked.Claiming.{is_right, inside_has, unclaimed_less}
use Rattle.cbm_shell.specs.declared.broken.flaws.found.Whose.{Whose}
use Rattle.cbm_shell.specs.declared.broken.flaws.found.Whose.TheVariants.{Disk, Directory, File}
use Rattle.cbm_shell.specs.declared.broken.flaws.found.DiskFlaw.{DiskFlaw}
use Rattle.cbm_shell.specs.Flaws as flaws
use Rattle.cbm_shell.specs.Flaws.{part_of, flaw_if, flawed, Walked, at_end, cut_off, with_sector, may_go_on, flaws_for, met, flaws_along, chain_from, then_walk, if_whole, records_walk, sides_walk, relative_walk, file_walk, entry_walk, entries_walk, bytes_of, found_at, sector_walk, slots_walk, header_flaw, header_flaws_on, header_flaws, count_flaws, map_flaws, directory_walk, chain_flaws, flaws_of, first_flaw}
use Rattle.cbm_shell.specs.Images.{IsChecked}
use Rattle.cbm_shell.proofs.FlawLemmas.{met_on, met_off, along-end, along-met, among-none, if_whole-on, if_whole-off, relative_is, entries_walk-none, entries_walk-some, slots_walk-none, slots_walk-some}

-- ---- a walk that finds nothing wrong, and a list that begins with a flaw

pub record Clean (w : Walked) (after : Place → Bool) : Type 0 where
  pub claims : w.claimed ≡ after
  pub none : w.flaws ≡ []
  pub whole : w.whole ≡ true

pub record Begins (fs : List DiskFlaw) (u : Unsound) : Type 0 where
  pub flaw : DiskFlaw
  pub rest : List DiskFlaw
  pub is : fs ≡ flaw ∷ rest
  pub what : flaw.what ≡ u

begins_here : (fs gs : List DiskFlaw) (u : Unsound) → fs ≡ gs → Begins gs u → Begins fs u
begins_here fs gs u e b = subst (λ (xs : List DiskFlaw). Begins xs u) (sym e) b

begins_append : (xs ys : List DiskFlaw) (u : Unsound) → Begins xs u → Begins (xs ++ ys) u
begins_append xs ys u b = record { flaw = b.flaw; rest = b.rest ++ ys; is = ap (λ (l : List DiskFlaw). l ++ ys) b.is; what = b.what }

begins_after : (xs ys : List DiskFlaw) (u : Unsound) → xs ≡ [] → Begins ys u → Begins (xs ++ ys) u
begins_after xs ys u e b = begins_here (xs ++ ys) ys u (ap (λ (l : List DiskFlaw). l ++ ys) e) b

begins_with : (f : DiskFlaw) (rest : List DiskFlaw) (u : Unsound) → f.what ≡ u → Begins (f ∷ rest) u
begins_with f rest u e = record { flaw = f; rest = rest; is = refl; what = e }

clean_is : (w v : Walked) (after : Place → Bool) → w ≡ v → Clean v after → Clean w after
clean_is w v after e c = subst (λ (x : Walked). Clean x after) (sym e) c

clean_end : (claimed after : Place → Bool) → after ≡ claimed → Clean (at_end claimed) after
clean_end claimed after e = record { claims = sym e; none = refl; whole = refl }

begins_is : (w v : Walked) (u : Unsound) → w ≡ v → Begins v.flaws u → Begins w.flaws u
begins_is w v u e b = subst (λ (x : Walked). Begins x.flaws u) (sym e) b

-- ---- one walk after another

then_clean : (first : Walked) (next : (Place → Bool) → Walked) (between after : Place → Bool) → Clean first between → Clean (next between) after → Clean (then_walk first next) after
then_clean first next between after c k = record {
  claims = ap (λ (u : Place → Bool). (next u).claimed) c.claims ∙ k.claims;
  none = ap (λ (l : List DiskFlaw). l ++ (next first.claimed).flaws) c.none ∙ ap (λ (u : Place → Bool). (next u).flaws) c.claims ∙ k.none;
  whole = ap (λ (b : Bool). b && (next first.claimed).whole) c.whole ∙ ap (λ (u : Place → Bool). (next u).whole) c.claims ∙ k.whole;
}

then_begins : (first : Walked) (next : (Place → Bool) → Walked) (u : Unsound) → Begins first.flaws u → Begins (then_walk first next).flaws u
then_begins first next u b = begins_append first.flaws (next first.claimed).flaws u b

then_after : (first : Walked) (next : (Place → Bool) → Walked) (between : Place → Bool) (u : Unsound) → Clean first between → Begins (next between).flaws u → Begins (then_walk first next).flaws u
then_after first next between u c b =
    begins_after first.flaws (next first.claimed).flaws u c.none (begins_here (next first.claimed).flaws (next between).flaws u (ap (λ (k : Place → Bool). (next k).flaws) c.claims) b)

whole_clean : (first : Walked) (next : (Place → Bool) → Walked) (between after : Place → Bool) → Clean first between → Clean (next between) after → Clean (if_whole first next) after
whole_clean first next between after c k = clean_is (if_whole first next) (then_walk first next) after (if_whole-on first next c.whole) (then_clean first next between after c k)

whole_begins : (first : Walked) (next : (Place → Bool) → Walked) (u : Unsound) → Begins first.flaws u → Begins (if_whole first next).flaws u
whole_begins first next u b = elim (bool_cases first.whole) [
  | inl on ↦ begins_is (if_whole first next) (then_walk first next) u (if_whole-on first next on) (then_begins first next u b)
  | inr off ↦ begins_is (if_whole first next) first u (if_whole-off first next off) b
]

whole_after : (first : Walked) (next : (Place → Bool) → Walked) (between : Place → Bool) (u : Unsound) → Clean first between → Begins (next between).flaws u → Begins (if_whole first next).flaws u
whole_after first next between u c b = begins_is (if_whole first next) (then_walk first next) u (if_whole-on first next c.whole) (then_after first next between u c b)

-- ---- one sector

told_begins : (w : Option ℕ) (whose : Whose) (before : ℕ) (p : Place) (u : Unsound) → w ≡ Some u.number → u ≡ fault_at u.number p → Begins (flaws_for w (flawed whose before p)) u
told_begins w whose before p u e is =
    begins_here (flaws_for w (flawed whose before p)) (flawed whose before p u.number ∷ []) u (ap (λ (o : Option ℕ). flaws_for o (flawed whose before p)) e)
    (begins_with (flawed whose before p u.number) [] u (sym is))

met_begins : (w : Option ℕ) (whose : Whose) (before : ℕ) (p : Place) (claimed : Place → Bool) (rest : Walked) (u : Unsound) → w ≡ Some u.number → u ≡ fault_at u.number p
    → Begins (met w (flawed whose before p) p claimed rest).flaws u
met_begins w whose before p claimed rest u e is = elim (bool_cases (may_go_on w)) [
  | inl on ↦ begins_is (met w (flawed whose before p) p claimed rest) (with_sector (flaws_for w (flawed whose before p)) p rest) u (met_on w (flawed whose before p) p claimed rest on)
      (begins_append (flaws_for w (flawed whose before p)) rest.flaws u (told_begins w whose before p u e is))
  | inr off ↦ begins_is (met w (flawed whose before p) p claimed rest) (cut_off claimed (flaws_for w (flawed whose before p))) u (met_off w (flawed whose before p) p claimed rest off)
      (told_begins w whose before p u e is)
]

-- a sector with which nothing is wrong
met_none : (w : Option ℕ) (flaw : ℕ → DiskFlaw) (p : Place) (claimed : Place → Bool) (rest : Walked) → w ≡ None → met w flaw p claimed rest ≡ with_sector [] p rest
met_none w flaw p claimed rest e = ap (λ (o : Option ℕ). met o flaw p claimed rest) e

on_track : (part : Part) (tracks : ℕ) (content : Content) (claimed : Place → Bool) (p : Place) → wrong_at part tracks content claimed p ≡ None → p.track ≢ 0
on_track part tracks content claimed p e z = omega (arith, (inside_has part tracks p (is_right part tracks content claimed p e).inside).0, z)

-- ---- chains

short : (part : Part) (tracks : ℕ) (content : Content) (claimed : Place → Bool) (a : Place) (blocks : List Place) (after : Place → Bool) → ClaimsChain part tracks content claimed a blocks after → length blocks ≤ unclaimed part claimed
short part tracks content claimed a [] after h = omega arith
short part tracks content claimed a (b ∷ rest) after h =
    let r = is_right part tracks content claimed b h.1 in
    omega (arith, unclaimed_less part tracks claimed b r.inside r.fresh, short part tracks content (with_bit claimed b true) (link (bytes_at content b)) rest after h.2)

short_fault : (part : Part) (tracks : ℕ) (content : Content) (claimed : Place → Bool) (a : Place) (blocks : List Place) (u : Unsound) → MeetsFault part tracks content claimed a blocks u → length blocks ≤ unclaimed part claimed
short_fault part tracks content claimed a [] u h = omega arith
short_fault part tracks content claimed a (b ∷ rest) u h =
    let r = is_right part tracks content claimed b h.1 in
    omega (arith, unclaimed_less part tracks claimed b r.inside r.fresh, short_fault part tracks content (with_bit claimed b true) (link (bytes_at content b)) rest u h.2)

below : (x y : ℕ) → x ≤ y → y < 768 → x < 768
below x y h l = omega (arith, h, l)

few : (part : Part) (claimed : Place → Bool) → unclaimed part claimed < 768
unfolding unclaimed
few OfDirectory claimed = below (tally (λ p. not (claimed p)) 18 19) 19 (tally_most (λ p. not (claimed p)) 18 19) (omega arith)
few OfFile claimed = below (number 40 (λ p. not (claimed p))) 749 (subst (λ (n : ℕ). number 40 (λ p. not (claimed p)) ≤ n) blocks_on_40 (number_most 40 (λ p. not (claimed p)))) (omega arith)

goes_to : (whose : Whose) (tracks : ℕ) (content : Content) (n m before : ℕ) (claimed : Place → Bool) (b : Place) → n ≡ suc m → wrong_at (part_of whose) tracks content claimed b ≡ None
    → flaws_along whose tracks content n before claimed b ≡ with_sector [] b (flaws_along whose tracks content m (before + 1) (with_bit claimed b true) (link (bytes_at content b)))
goes_to whose tracks content n m before claimed b e none =
    along-met whose tracks content n m before claimed b e (on_track (part_of whose) tracks content claimed b none)
    ∙ met_none (wrong_at (part_of whose) tracks content claimed b) (flawed whose before b) b claimed _ none

-- a chain that is claimed
along_clean : (whose : Whose) (tracks : ℕ) (content : Content) (n before : ℕ) (claimed : Place → Bool) (a : Place) (blocks : List Place) (after : Place → Bool) → ClaimsChain (part_of whose) tracks content claimed a blocks after
    → length blocks < n → Clean (flaws_along whose tracks content n before claimed a) after × ((flaws_along whose tracks content n before claimed a).blocks ≡ blocks)
along_clean whose tracks content zero before claimed a blocks after h l = absurd (omega (arith, l))
along_clean whose tracks content (suc m) before claimed a [] after h l =
    let e = along-end whose tracks content (suc m) m before claimed a refl h.0 in
    (clean_is _ (at_end claimed) after e (clean_end claimed after h.1), ap (λ (w : Walked). w.blocks) e)
along_clean whose tracks content (suc m) before claimed a (b ∷ rest) after h l =
    let e = ap (λ (p : Place). flaws_along whose tracks content (suc m) before claimed p) h.0 ∙ goes_to whose tracks content (suc m) m before claimed b refl h.1 in
    let k = along_clean whose tracks content m (before + 1) (with_bit claimed b true) (link (bytes_at content b)) rest after h.2 (omega (arith, l)) in (
      clean_is _ (with_sector [] b (flaws_along whose tracks content m (before + 1) (with_bit claimed b true) (link (bytes_at content b)))) after e
          (record { claims = k.0.claims; none = k.0.none; whole = k.0.whole }),
      ap (λ (w : Walked). w.blocks) e ∙ ap (λ (l : List Place). b ∷ l) k.1,
    )

-- and one that meets a fault
along_begins : (whose : Whose) (tracks : ℕ) (content : Content) (n before : ℕ) (claimed : Place → Bool) (a : Place) (blocks : List Place) (u : Unsound) → MeetsFault (part_of whose) tracks content claimed a blocks u
    → length blocks < n → Begins (flaws_along whose tracks content n before claimed a).flaws u
along_begins whose tracks content zero before claimed a blocks u h l = absurd (omega (arith, l))
along_begins whose tracks content (suc m) before claimed a [] u h l =
    begins_is _ (met (wrong_at (part_of whose) tracks content claimed a) (flawed whose before a) a claimed (flaws_along whose tracks content m (before + 1) (with_bit claimed a true) (link (bytes_at content a)))) u
    (along-met whose tracks content (suc m) m before claimed a refl h.0)
    (met_begins (wrong_at (part_of whose) tracks content claimed a) whose before a claimed _ u h.1 h.2)
along_begins whose tracks content (suc m) before claimed a (b ∷ rest) u h l =
    let e = ap (λ (p : Place). flaws_along whose tracks content (suc m) before claimed p) h.0 ∙ goes_to whose tracks content (suc m) m before claimed b refl h.1 in
    begins_is _ (with_sector [] b (flaws_along whose tracks content m (before + 1) (with_bit claimed b true) (link (bytes_at content b)))) u e
    (along_begins whose tracks content m (before + 1) (with_bit claimed b true) (link (bytes_at content b)) rest u h.2 (omega (arith, l)))

chain_clean : (whose : Whose) (tracks : ℕ) (content : Content) (claimed : Place → Bool) (a : Place) (blocks : List Place) (after : Place → Bool) → ClaimsChain (part_of whose) tracks content claimed a blocks after
    → Clean (chain_from whose tracks content claimed a) after × ((chain_from whose tracks content claimed a).blocks ≡ blocks)
chain_clean whose tracks content claimed a blocks after h =
    along_clean whose tracks content 768 0 claimed a blocks after h (omega (arith, short (part_of whose) tracks content claimed a blocks after h, few (part_of whose) claimed))

chain_begins : (whose : Whose) (tracks : ℕ) (content : Content) (claimed : Place → Bool) (a : Place) (blocks : List Place) (u : Unsound) → MeetsFault (part_of whose) tracks content claimed a blocks u
    → Begins (chain_from whose tracks content claimed a).flaws u
chain_begins whose tracks content claimed a blocks u h =
    along_begins whose tracks content 768 0 claimed a blocks u h (omega (arith, short_fault (part_of whose) tracks content claimed a blocks u h, few (part_of whose) claimed))

-- ---- side sectors

among_clean : (whose : Whose) (tracks : ℕ) (content : Content) (claimed : Place → Bool) (xs : List Place) (after : Place → Bool) → ClaimsEach (part_of whose) tracks content claimed xs after
    → Clean (flaws.among whose tracks content claimed xs) after
unfolding flaws.among
among_clean whose tracks content claimed [] after h = clean_end claimed after h
among_clean whose tracks content claimed (p ∷ rest) after h =
    let k = among_clean whose tracks content (with_bit claimed p true) rest after h.1 in
    clean_is _ (with_sector [] p (flaws.among whose tracks content (with_bit claimed p true) rest)) after
    (met_none (wrong_at (part_of whose) tracks content claimed p) (flawed whose 0 p) p claimed (flaws.among whose tracks content (with_bit claimed p true) rest) h.0)
    (record { claims = k.claims; none = k.none; whole = k.whole })

among_begins : (whose : Whose) (tracks : ℕ) (content : Content) (claimed : Place → Bool) (xs : List Place) (u : Unsound) → MeetsAmong (part_of whose) tracks content claimed xs u
    → Begins (flaws.among whose tracks content claimed xs).flaws u
unfolding flaws.among
among_begins whose tracks content claimed [] u h = absurd h
among_begins whose tracks content claimed (p ∷ rest) u (inl h) =
    met_begins (wrong_at (part_of whose) tracks content claimed p) whose 0 p claimed (flaws.among whose tracks content (with_bit claimed p true) rest) u h.0 h.1
among_begins whose tracks content claimed (p ∷ rest) u (inr h) =
    begins_is _ (with_sector [] p (flaws.among whose tracks content (with_bit claimed p true) rest)) u
    (met_none (wrong_at (part_of whose) tracks content claimed p) (flawed whose 0 p) p claimed (flaws.among whose tracks content (with_bit claimed p true) rest) h.0)
    (among_begins whose tracks content (with_bit claimed p true) rest u h.1)

records_clean : (slot tracks : ℕ) (content : Content) (e : List ℕ) (claimed : Place → Bool) → are_records tracks content e ≡ true → Clean (records_walk (File slot) tracks content e claimed) claimed
records_clean slot tracks content e claimed r = record {
  claims = refl;
  none = ap (λ (b : Bool). flaw_if (not b) (flawed (File slot) 0 (first_side e) 7)) r;
  whole = refl;
}

sides_clean : (slot tracks : ℕ) (content : Content) (claimed : Place → Bool) (e : List ℕ) (after : Place → Bool) → ClaimsSides tracks content claimed e after → Clean (sides_walk (File slot) tracks content claimed e) after
sides_clean slot tracks content claimed e after h =
    whole_clean (flaws.among (File slot) tracks content claimed (sides_from content (first_side e))) (records_walk (File slot) tracks content e) after after
    (among_clean (File slot) tracks content claimed (sides_from content (first_side e)) after h.0) (records_clean slot tracks content e after h.1)

sides_begins : (slot tracks : ℕ) (content : Content) (claimed : Place → Bool) (e : List ℕ) (u : Unsound) → SidesFault tracks content claimed e u → Begins (sides_walk (File slot) tracks content claimed e).flaws u
sides_begins slot tracks content claimed e u (inl h) =
    whole_begins (flaws.among (File slot) tracks content claimed (sides_from content (first_side e))) (records_walk (File slot) tracks content e) u
    (among_begins (File slot) tracks content claimed (sides_from content (first_side e)) u h)
sides_begins slot tracks content claimed e u (inr (after, (each, wrong, is))) =
    whole_after (flaws.among (File slot) tracks content claimed (sides_from content (first_side e))) (records_walk (File slot) tracks content e) after u
    (among_clean (File slot) tracks content claimed (sides_from content (first_side e)) after each)
    (begins_here (records_walk (File slot) tracks content e after).flaws (flawed (File slot) 0 (first_side e) 7 ∷ []) u
    (ap (λ (b : Bool). flaw_if (not b) (flawed (File slot) 0 (first_side e) 7)) wrong) (begins_with (flawed (File slot) 0 (first_side e) 7) [] u (sym is)))

-- ---- files

file_clean : (closed relative : Bool) (slot tracks : ℕ) (content : Content) (claimed : Place → Bool) (e : List ℕ) (after : Place → Bool) → ClaimsFile closed relative tracks content claimed e after
    → Clean (file_walk closed relative (File slot) tracks content claimed e) after
file_clean false relative slot tracks content claimed e after h = clean_end claimed after h
file_clean true false slot tracks content claimed e after h = (chain_clean (File slot) tracks content claimed (first_block e) h.0 after h.1).0
file_clean true true slot tracks content claimed e after (some, (blocks, (between, (chain, sides)))) =
    clean_is (relative_walk (File slot) tracks content claimed e) (if_whole (chain_from (File slot) tracks content claimed (first_block e)) (λ c. sides_walk (File slot) tracks content c e)) after
    (relative_is (File slot) tracks content claimed e some)
    (whole_clean (chain_from (File slot) tracks content claimed (first_block e)) (λ c. sides_walk (File slot) tracks content c e) between after
    (chain_clean (File slot) tracks content claimed (first_block e) blocks between chain).0 (sides_clean slot tracks content between e after sides))

file_begins : (closed relative : Bool) (slot tracks : ℕ) (content : Content) (claimed : Place → Bool) (e : List ℕ) (u : Unsound) → FileFault closed relative tracks content claimed e u
    → Begins (file_walk closed relative (File slot) tracks content claimed e).flaws u
file_begins false relative slot tracks content claimed e u h = absurd h
file_begins true false slot tracks content claimed e u h = chain_begins (File slot) tracks content claimed (first_block e) h.0 u h.1
file_begins true true slot tracks content claimed e u (inl (zero_track, is)) =
    begins_is (relative_walk (File slot) tracks content claimed e) (cut_off claimed (flawed (File slot) 0 (first_block e) 4 ∷ [])) u
    (ap (λ (b : Bool). if b then cut_off claimed (flawed (File slot) 0 (first_block e) 4 ∷ []) else if_whole (chain_from (File slot) tracks content claimed (first_block e)) (λ c. sides_walk (File slot) tracks content c e))
    (eq-eqb (first_block e).track 0 zero_track))
    (begins_with (flawed (File slot) 0 (first_block e) 4) [] u (sym is))
file_begins true true slot tracks content claimed e u (inr (some, inl (blocks, fault))) =
    begins_is (relative_walk (File slot) tracks content claimed e) (if_whole (chain_from (File slot) tracks content claimed (first_block e)) (λ c. sides_walk (File slot) tracks content c e)) u
    (relative_is (File slot) tracks content claimed e some)
    (whole_begins (chain_from (File slot) tracks content claimed (first_block e)) (λ c. sides_walk (File slot) tracks content c e) u
    (chain_begins (File slot) tracks content claimed (first_block e) blocks u fault))
file_begins true true slot tracks content claimed e u (inr (some, inr (blocks, (between, (chain, sides))))) =
    begins_is (relative_walk (File slot) tracks content claimed e) (if_whole (chain_from (File slot) tracks content claimed (first_block e)) (λ c. sides_walk (File slot) tracks content c e)) u
    (relative_is (File slot) tracks content claimed e some)
    (whole_after (chain_from (File slot) tracks content claimed (first_block e)) (λ c. sides_walk (File slot) tracks content c e) between u
    (chain_clean (File slot) tracks content claimed (first_block e) blocks between chain).0 (sides_begins slot tracks content between e u sides))

-- ---- entries

entry_known : (slot tracks : ℕ) (content : Content) (claimed : Place → Bool) (sector : Place) (e : List ℕ) → type_byte e % 16 < 5
    → entry_walk (File slot) tracks content claimed sector e ≡ file_walk (is_closed e) (is_relative e) (File slot) tracks content claimed e
entry_known slot tracks content claimed sector e l =
    ap (λ (b : Bool). if b then file_walk (is_closed e) (is_relative e) (File slot) tracks content claimed e else cut_off claimed (flawed (File slot) 0 sector 8 ∷ [])) (lt-ltb (type_byte e % 16) 5 l)

small : (n : ℕ) → nat_lt n 5 ≡ true → 5 ≤ n → ⊥
small n t h = (let l : n < 5 = grind arith in omega (arith, l, h))

unknown : (n : ℕ) → 5 ≤ n → nat_lt n 5 ≡ false
unknown n h = elim (bool_cases (nat_lt n 5)) [
  | inl t ↦ absurd (small n t h)
  | inr f ↦ f
]

entry_clean : (slot tracks : ℕ) (content : Content) (claimed : Place → Bool) (sector : Place) (e : List ℕ) (after : Place → Bool) → ClaimsEntry tracks content claimed e after
    → Clean (entry_walk (File slot) tracks content claimed sector e) after
entry_clean slot tracks content claimed sector e after h =
    clean_is (entry_walk (File slot) tracks content claimed sector e) (file_walk (is_closed e) (is_relative e) (File slot) tracks content claimed e) after (entry_known slot tracks content claimed sector e h.0)
    (file_clean (is_closed e) (is_relative e) slot tracks content claimed e after h.1)

entry_begins : (slot tracks : ℕ) (content : Content) (claimed : Place → Bool) (sector : Place) (e : List ℕ) (u : Unsound) → EntryFault tracks content claimed sector e u
    → Begins (entry_walk (File slot) tracks content claimed sector e).flaws u
entry_begins slot tracks content claimed sector e u (inl h) =
    begins_is (entry_walk (File slot) tracks content claimed sector e) (cut_off claimed (flawed (File slot) 0 sector 8 ∷ [])) u
    (ap (λ (b : Bool). if b then file_walk (is_closed e) (is_relative e) (File slot) tracks content claimed e else cut_off claimed (flawed (File slot) 0 sector 8 ∷ [])) (unknown (type_byte e % 16) h.0))
    (begins_with (flawed (File slot) 0 sector 8) [] u (sym h.1))
entry_begins slot tracks content claimed sector e u (inr h) =
    begins_is (entry_walk (File slot) tracks content claimed sector e) (file_walk (is_closed e) (is_relative e) (File slot) tracks content claimed e) u (entry_known slot tracks content claimed sector e h.0)
    (file_begins (is_closed e) (is_relative e) slot tracks content claimed e u h.1)

entries_clean : (slot tracks : ℕ) (content : Content) (claimed : Place → Bool) (sector : Place) (es : List (List ℕ)) (after : Place → Bool) → ClaimsEntries tracks content claimed es after
    → Clean (entries_walk slot tracks content claimed sector es) after
entries_clean slot tracks content claimed sector [] after h = clean_is _ (at_end claimed) after (entries_walk-none slot tracks content claimed sector [] refl) (clean_end claimed after h)
entries_clean slot tracks content claimed sector (e ∷ rest) after (between, (entry, later)) =
    clean_is _ (then_walk (entry_walk (File slot) tracks content claimed sector e) (λ c. entries_walk (slot + 1) tracks content c sector rest)) after
    (entries_walk-some slot tracks content claimed sector e (e ∷ rest) rest refl)
    (then_clean (entry_walk (File slot) tracks content claimed sector e) (λ c. entries_walk (slot + 1) tracks content c sector rest) between after (entry_clean slot tracks content claimed sector e between entry)
    (entries_clean (slot + 1) tracks content between sector rest after later))

entries_begin : (slot tracks : ℕ) (content : Content) (claimed : Place → Bool) (sector : Place) (es : List (List ℕ)) (u : Unsound) → EntriesFault tracks content claimed sector es u
    → Begins (entries_walk slot tracks content claimed sector es).flaws u
entries_begin slot tracks content claimed sector [] u h = absurd h
entries_begin slot tracks content claimed sector (e ∷ rest) u (inl h) =
    begins_is _ (then_walk (entry_walk (File slot) tracks content claimed sector e) (λ c. entries_walk (slot + 1) tracks content c sector rest)) u
    (entries_walk-some slot tracks content claimed sector e (e ∷ rest) rest refl)
    (then_begins (entry_walk (File slot) tracks content claimed sector e) (λ c. entries_walk (slot + 1) tracks content c sector rest) u (entry_begins slot tracks content claimed sector e u h))
entries_begin slot tracks content claimed sector (e ∷ rest) u (inr (between, (entry, later))) =
    begins_is _ (then_walk (entry_walk (File slot) tracks content claimed sector e) (λ c. entries_walk (slot + 1) tracks content c sector rest)) u
    (entries_walk-some slot tracks content claimed sector e (e ∷ rest) rest refl)
    (then_after (entry_walk (File slot) tracks content claimed sector e) (λ c. entries_walk (slot + 1) tracks content c sector rest) between u (entry_clean slot tracks content claimed sector e between entry)
    (entries_begin (slot + 1) tracks content between sector rest u later))

-- ---- the sectors of the directory

cell_read : (cell : Cell) → reads cell ≡ true → bytes_of cell ≡ Some (or_nothing cell)
cell_read (Ok bytes) e = refl
cell_read (Err code) e = absurd (cc)

found : (tracks : ℕ) (content : Content) (claimed : Place → Bool) (p : Place) → wrong_at OfDirectory tracks content claimed p ≡ None → found_at tracks content p ≡ Some (bytes_at content p)
found tracks content claimed p e =
    let r = is_right OfDirectory tracks content claimed p e in
    ap (λ (b : Bool). if b then bytes_of (content p) else None) (has_true tracks p (inside_has OfDirectory tracks p r.inside)) ∙ cell_read (content p) r.reads

sector_is : (slot tracks : ℕ) (content : Content) (seen claimed : Place → Bool) (b : Place) → wrong_at OfDirectory tracks content seen b ≡ None
    → sector_walk slot tracks content claimed b (found_at tracks content b) ≡ entries_walk slot tracks content claimed b (entries_in (bytes_at content b))
sector_is slot tracks content seen claimed b e = ap (λ (o : Option (List ℕ)). sector_walk slot tracks content claimed b o) (found tracks content seen b e)

slots_clean : (slot tracks : ℕ) (content : Content) (seen claimed : Place → Bool) (a : Place) (blocks again : List Place) (x after : Place → Bool) → ClaimsChain OfDirectory tracks content seen a blocks x
    → ClaimsSlots tracks content seen claimed a again after → Clean (slots_walk slot tracks content claimed blocks) after
slots_clean slot tracks content seen claimed a [] [] x after h k = clean_is _ (at_end claimed) after (slots_walk-none slot tracks content claimed [] refl) (clean_end claimed after k.1)
slots_clean slot tracks content seen claimed a [] (b ∷ again) x after h k = absurd (on_track OfDirectory tracks content seen b k.1 (ap (λ (p : Place). p.track) (sym k.0) ∙ h.0))
slots_clean slot tracks content seen claimed a (d ∷ blocks) [] x after h k = absurd (on_track OfDirectory tracks content seen d h.1 (ap (λ (p : Place). p.track) (sym h.0) ∙ k.0))
slots_clean slot tracks content seen claimed a (d ∷ blocks) (b ∷ again) x after h (here, right, (between, (entries, later))) =
    let same : b ≡ d = sym here ∙ h.0 in
    clean_is _ (then_walk (sector_walk slot tracks content claimed d (found_at tracks content d)) (λ c. slots_walk (slot + 8) tracks content c blocks)) after
    (slots_walk-some slot tracks content claimed d (d ∷ blocks) blocks refl)
    (then_clean (sector_walk slot tracks content claimed d (found_at tracks content d)) (λ c. slots_walk (slot + 8) tracks content c blocks) between after
    (clean_is _ (entries_walk slot tracks content claimed d (entries_in (bytes_at content d))) between (sector_is slot tracks content seen claimed d h.1)
    (entries_clean slot tracks content claimed d (entries_in (bytes_at content d)) between (subst (λ (p : Place). ClaimsEntries tracks content claimed (entries_in (bytes_at content p)) between) same entries)))
    (slots_clean (slot + 8) tracks content (with_bit seen d true) between (link (bytes_at content d)) blocks again x after h.2
    (subst (λ (p : Place). ClaimsSlots tracks content (with_bit seen p true) between (link (bytes_at content p)) again after) same later)))

slots_begin : (slot tracks : ℕ) (content : Content) (seen claimed : Place → Bool) (a : Place) (blocks again : List Place) (x : Place → Bool) (u : Unsound) → ClaimsChain OfDirectory tracks content seen a blocks x
    → SlotsFault tracks content seen claimed a again u → Begins (slots_walk slot tracks content claimed blocks).flaws u
slots_begin slot tracks content seen claimed a [] [] x u h (inl k) = absurd (k.0 h.0)
slots_begin slot tracks content seen claimed a [] [] x u h (inr k) = absurd (on_track OfDirectory tracks content seen a k.0 h.0)
slots_begin slot tracks content seen claimed a [] (b ∷ again) x u h k = absurd (on_track OfDirectory tracks content seen b k.1 (ap (λ (p : Place). p.track) (sym k.0) ∙ h.0))
slots_begin slot tracks content seen claimed a (d ∷ blocks) [] x u h (inl k) = absurd (let z = ap is_some (sym k.1 ∙ ap (wrong_at OfDirectory tracks content seen) h.0 ∙ h.1) in cc)
slots_begin slot tracks content seen claimed a (d ∷ blocks) [] x u h (inr k) =
    begins_is _ (then_walk (sector_walk slot tracks content claimed d (found_at tracks content d)) (λ c. slots_walk (slot + 8) tracks content c blocks)) u
    (slots_walk-some slot tracks content claimed d (d ∷ blocks) blocks refl)
    (then_begins (sector_walk slot tracks content claimed d (found_at tracks content d)) (λ c. slots_walk (slot + 8) tracks content c blocks) u
    (begins_is _ (entries_walk slot tracks content claimed d (entries_in (bytes_at content d))) u (sector_is slot tracks content seen claimed d h.1)
    (entries_begin slot tracks content claimed d (entries_in (bytes_at content d)) u (subst (λ (p : Place). EntriesFault tracks content claimed p (entries_in (bytes_at content p)) u) h.0 k.1))))
slots_begin slot tracks content seen claimed a (d ∷ blocks) (b ∷ again) x u h (here, right, (between, (entries, later))) =
    let same : b ≡ d = sym here ∙ h.0 in
    begins_is _ (then_walk (sector_walk slot tracks content claimed d (found_at tracks content d)) (λ c. slots_walk (slot + 8) tracks content c blocks)) u
    (slots_walk-some slot tracks content claimed d (d ∷ blocks) blocks refl)
    (then_after (sector_walk slot tracks content claimed d (found_at tracks content d)) (λ c. slots_walk (slot + 8) tracks content c blocks) between u
    (clean_is _ (entries_walk slot tracks content claimed d (entries_in (bytes_at content d))) between (sector_is slot tracks content seen claimed d h.1)
    (entries_clean slot tracks content claimed d (entries_in (bytes_at content d)) between (subst (λ (p : Place). ClaimsEntries tracks content claimed (entries_in (bytes_at content p)) between) same entries)))
    (slots_begin (slot + 8) tracks content (with_bit seen d true) between (link (bytes_at content d)) blocks again x u h.2
    (subst (λ (p : Place). SlotsFault tracks content (with_bit seen p true) between (link (bytes_at content p)) again u) same later)))

-- ---- headers

header_none : (p : Place) (cell : Cell) → IsCellWritable cell → header_flaw p cell ≡ []
header_none p (Ok bytes) h = refl
header_none p (Err code) h = ap (λ (b : Bool). flaw_if b (flawed Disk 0 p 5)) h

none_on : (content : Content) (t n : ℕ) → ((s : ℕ) → s < n → IsCellWritable (content (at t s))) → header_flaws_on content t n ≡ []
unfolding header_flaws_on
none_on content t zero h = refl
none_on content t (suc n) h =
    ap (λ (l : List DiskFlaw). l ++ header_flaw (at t n) (content (at t n))) (none_on content t n (λ s l. h s (omega (arith, l)))) ∙ header_none (at t n) (content (at t n)) (h n (omega arith))

none_in : (content : Content) (n : ℕ) → ((p : Place) → Has n p → IsCellWritable (content p)) → header_flaws content n ≡ []
unfolding header_flaws
none_in content zero h = refl
none_in content (suc n) h =
    ap (λ (l : List DiskFlaw). l ++ header_flaws_on content (suc n) (sectors_on (suc n))) (none_in content n (λ p k. h p (k.0, omega (arith, k.1), k.2)))
    ∙ none_on content (suc n) (sectors_on (suc n)) (λ s l. h (at (suc n) s) (omega arith, omega arith, l))

begins_on : (content : Content) (t n s : ℕ) → s < n → is_bad_header (content (at t s)) ≡ true → ((r : ℕ) → r < s → IsCellWritable (content (at t r))) → Begins (header_flaws_on content t n) (fault_at 5 (at t s))
unfolding header_flaws_on
begins_on content t zero s l bad first = absurd (omega (arith, l))
begins_on content t (suc n) s l bad first = elim (cases_eq s n) [
  | inl e ↦ subst (λ (k : ℕ). Begins (header_flaws_on content t n ++ header_flaw (at t n) (content (at t n))) (fault_at 5 (at t k))) (sym e)
      (begins_after (header_flaws_on content t n) (header_flaw (at t n) (content (at t n))) (fault_at 5 (at t n)) (none_on content t n (λ r k. first r (omega (arith, k, e))))
      (begins_here (header_flaw (at t n) (content (at t n))) (flawed Disk 0 (at t n) 5 ∷ []) (fault_at 5 (at t n))
      (ap (λ (b : Bool). flaw_if b (flawed Disk 0 (at t n) 5)) (subst (λ (k : ℕ). is_bad_header (content (at t k)) ≡ true) e bad)) (begins_with (flawed Disk 0 (at t n) 5) [] (fault_at 5 (at t n)) refl)))
  | inr ne ↦ begins_append (header_flaws_on content t n) (header_flaw (at t n) (content (at t n))) (fault_at 5 (at t s)) (begins_on content t n s (omega (arith, l, ne)) bad first)
]

begins_in : (content : Content) (n : ℕ) (p : Place) → 0 < p.track → p.track ≤ n → p.sector < sectors_on p.track → is_bad_header (content p) ≡ true
    → ((q : Place) → 0 < q.track → q.sector < sectors_on q.track → q.track < p.track → IsCellWritable (content q)) → ((r : ℕ) → r < p.sector → IsCellWritable (content (at p.track r))) → Begins (header_flaws content n) (fault_at 5 p)
unfolding header_flaws
begins_in content zero p some l s bad above before = absurd (omega (arith, some, l))
begins_in content (suc n) p some l s bad above before = elim (cases_eq p.track (suc n)) [
  | inl e ↦ begins_after (header_flaws content n) (header_flaws_on content (suc n) (sectors_on (suc n))) (fault_at 5 p) (none_in content n (λ q k. above q k.0 k.2 (omega (arith, k.1, e))))
      (subst (λ (t : ℕ). Begins (header_flaws_on content t (sectors_on t)) (fault_at 5 p)) e (begins_on content p.track (sectors_on p.track) p.sector s bad before))
  | inr ne ↦ begins_append (header_flaws content n) (header_flaws_on content (suc n) (sectors_on (suc n))) (fault_at 5 p) (begins_in content n p some (omega (arith, l, ne)) s bad above before)
]

earlier : (q p : Place) → q.track < p.track → comes_before q p ≡ true
earlier q p l = rw (lt-ltb q.track p.track l) refl

earlier_here : (t r s : ℕ) → r < s → comes_before (at t r) (at t s) ≡ true
earlier_here t r s l = grind arith

headers_begin : (tracks : ℕ) (content : Content) (p : Place) → IsFirstBad tracks content p → Begins (header_flaws content tracks) (fault_at 5 p)
headers_begin tracks content p h =
    begins_in content tracks p h.has.0 h.has.1 h.has.2 h.bad (λ q some s l. h.first q (some, omega (arith, l, h.has.1), s) (earlier q p l))
    (λ r l. h.first (at p.track r) (h.has.0, h.has.1, omega (arith, l, h.has.2)) (earlier_here p.track r p.sector l))

-- ---- the map

counts_none : (map : List ℕ) (n : ℕ) → ((t : ℕ) → 0 < t → t ≤ n → is_counted_on t map ≡ true) → count_flaws map n ≡ []
unfolding count_flaws
counts_none map zero h = refl
counts_none map (suc n) h =
    ap (λ (l : List DiskFlaw). l ++ flaw_if (not (is_counted_on (suc n) map)) (flawed Disk 0 (at (suc n) 0) 1)) (counts_none map n (λ t some l. h t some (omega (arith, l))))
    ∙ ap (λ (b : Bool). flaw_if (not b) (flawed Disk 0 (at (suc n) 0) 1)) (h (suc n) (omega arith) (omega arith))

counts_begin : (map : List ℕ) (n t : ℕ) → 0 < t → t ≤ n → is_counted_on t map ≡ false → ((u : ℕ) → 0 < u → u < t → is_counted_on u map ≡ true) → Begins (count_flaws map n) (fault_at 1 (at t 0))
unfolding count_flaws
counts_begin map zero t some l wrong first = absurd (omega (arith, some, l))
counts_begin map (suc n) t some l wrong first = elim (cases_eq t (suc n)) [
  | inl e ↦ begins_after (count_flaws map n) (flaw_if (not (is_counted_on (suc n) map)) (flawed Disk 0 (at (suc n) 0) 1)) (fault_at 1 (at t 0)) (counts_none map n (λ u k m. first u k (omega (arith, m, e))))
      (begins_here (flaw_if (not (is_counted_on (suc n) map)) (flawed Disk 0 (at (suc n) 0) 1)) (flawed Disk 0 (at (suc n) 0) 1 ∷ []) (fault_at 1 (at t 0))
      (ap (λ (b : Bool). flaw_if (not b) (flawed Disk 0 (at (suc n) 0) 1)) (subst (λ (k : ℕ). is_counted_on k map ≡ false) e wrong))
      (begins_with (flawed Disk 0 (at (suc n) 0) 1) [] (fault_at 1 (at t 0)) (ap (λ (k : ℕ). fault_at 1 (at k 0)) (sym e))))
  | inr ne ↦ begins_append (count_flaws map n) (flaw_if (not (is_counted_on (suc n) map)) (flawed Disk 0 (at (suc n) 0) 1)) (fault_at 1 (at t 0)) (counts_begin map n t some (omega (arith, l, ne)) wrong first)
]

map_none : (tracks : ℕ) (cell : Cell) → IsOk cell → is_free_in (or_nothing cell) directory_head ≡ false → ((t : ℕ) → 0 < t → t ≤ tracks → is_counted_on t (or_nothing cell) ≡ true) → map_flaws tracks cell ≡ []
map_none tracks (Ok map) ok own counted =
    ap (λ (b : Bool). flaw_if b (flawed Disk 0 directory_head 2) ++ count_flaws map tracks) own ∙ counts_none map tracks counted
map_none tracks (Err code) ok own counted = absurd (let z = ok in cc)

map_right : (tracks : ℕ) (content : Content) → IsMapRight tracks content → map_flaws tracks (content directory_head) ≡ []
map_right tracks content h = map_none tracks (content directory_head) h.reads h.taken h.counted

map_unread : (tracks : ℕ) (cell : Cell) → reads cell ≡ false → Begins (map_flaws tracks cell) (fault_at 9 directory_head)
map_unread tracks (Ok map) e = absurd (cc)
map_unread tracks (Err code) e = begins_with (flawed Disk 0 directory_head 9) [] (fault_at 9 directory_head) refl

map_own : (tracks : ℕ) (cell : Cell) → IsOk cell → is_free_in (or_nothing cell) directory_head ≡ true → Begins (map_flaws tracks cell) (fault_at 2 directory_head)
map_own tracks (Ok map) ok own =
    begins_append (flaw_if (is_free_in map directory_head) (flawed Disk 0 directory_head 2)) (count_flaws map tracks) (fault_at 2 directory_head)
    (begins_here (flaw_if (is_free_in map directory_head) (flawed Disk 0 directory_head 2)) (flawed Disk 0 directory_head 2 ∷ []) (fault_at 2 directory_head)
    (ap (λ (b : Bool). flaw_if b (flawed Disk 0 directory_head 2)) own) (begins_with (flawed Disk 0 directory_head 2) [] (fault_at 2 directory_head) refl))
map_own tracks (Err code) ok own = absurd (let z = ok in cc)

map_counted : (tracks : ℕ) (cell : Cell) (t : ℕ) → IsOk cell → is_free_in (or_nothing cell) directory_head ≡ false → 0 < t → t ≤ tracks → is_counted_on t (or_nothing cell) ≡ false
    → ((v : ℕ) → 0 < v → v < t → is_counted_on v (or_nothing cell) ≡ true) → Begins (map_flaws tracks cell) (fault_at 1 (at t 0))
map_counted tracks (Ok map) t ok own some l wrong first =
    begins_after (flaw_if (is_free_in map directory_head) (flawed Disk 0 directory_head 2)) (count_flaws map tracks) (fault_at 1 (at t 0))
    (ap (λ (b : Bool). flaw_if b (flawed Disk 0 directory_head 2)) own) (counts_begin map tracks t some l wrong first)
map_counted tracks (Err code) t ok own some l wrong first = absurd (let z = ok in cc)

map_begins : (tracks : ℕ) (content : Content) (u : Unsound) → IsMapFault tracks content u → Begins (map_flaws tracks (content directory_head)) u
map_begins tracks content u (inl h) = subst (λ (v : Unsound). Begins (map_flaws tracks (content directory_head)) v) (sym h.0) (map_unread tracks (content directory_head) h.1)
map_begins tracks content u (inr (inl h)) = subst (λ (v : Unsound). Begins (map_flaws tracks (content directory_head)) v) (sym h.0) (map_own tracks (content directory_head) h.1 h.2)
map_begins tracks content u (inr (inr (right, (t, is, first)))) =
    subst (λ (v : Unsound). Begins (map_flaws tracks (content directory_head)) v) (sym is)
    (map_counted tracks (content directory_head) t right.0 right.1 first.some first.few first.miscounted first.first)

-- ---- the disk

pub sound_none : (tracks : ℕ) (content : Content) → ClaimsDisk tracks content → flaws_of tracks content ≡ []
sound_none tracks content k =
    let d = chain_clean Directory tracks content only_head first_directory k.sectors k.between k.directory in
    let s = slots_clean 0 tracks content only_head k.between first_directory k.sectors k.again k.between k.after k.directory k.slots in
    ap (λ (l : List DiskFlaw). l ++ (map_flaws tracks (content directory_head) ++ chain_flaws tracks content)) (none_in content tracks k.writable)
    ∙ ap (λ (l : List DiskFlaw). l ++ chain_flaws tracks content) (map_right tracks content k.map)
    ∙ ap (λ (l : List DiskFlaw). l ++ (slots_walk 0 tracks content (directory_walk tracks content).claimed (directory_walk tracks content).blocks).flaws) d.0.none
    ∙ ap (λ (c : Place → Bool). (slots_walk 0 tracks content c (directory_walk tracks content).blocks).flaws) d.0.claims
    ∙ ap (λ (bs : List Place). (slots_walk 0 tracks content k.between bs).flaws) d.1 ∙ s.none

chains_after : (tracks : ℕ) (content : Content) (u : Unsound) → AllWritable tracks content → IsMapRight tracks content → Begins (chain_flaws tracks content) u → Begins (flaws_of tracks content) u
chains_after tracks content u w m b =
    begins_after (header_flaws content tracks) (map_flaws tracks (content directory_head) ++ chain_flaws tracks content) u (none_in content tracks w)
    (begins_after (map_flaws tracks (content directory_head)) (chain_flaws tracks content) u (map_right tracks content m) b)

pub fault_first : (tracks : ℕ) (content : Content) (u : Unsound) → DiskFault tracks content u → Begins (flaws_of tracks content) u
fault_first tracks content u (inl (p, bad, is)) =
    begins_append (header_flaws content tracks) (map_flaws tracks (content directory_head) ++ chain_flaws tracks content) u
    (subst (λ (v : Unsound). Begins (header_flaws content tracks) v) (sym is) (headers_begin tracks content p bad))
fault_first tracks content u (inr (inl h)) =
    begins_after (header_flaws content tracks) (map_flaws tracks (content directory_head) ++ chain_flaws tracks content) u (none_in content tracks h.0)
    (begins_append (map_flaws tracks (content directory_head)) (chain_flaws tracks content) u (map_begins tracks content u h.1))
fault_first tracks content u (inr (inr (inl (w, m, (blocks, fault))))) =
    chains_after tracks content u w m
    (begins_append (directory_walk tracks content).flaws _ u (chain_begins Directory tracks content only_head first_directory blocks u fault))
fault_first tracks content u (inr (inr (inr (w, m, f)))) =
    let d = chain_clean Directory tracks content only_head first_directory f.sectors f.between f.directory in
    chains_after tracks content u w m
    (begins_after (directory_walk tracks content).flaws (slots_walk 0 tracks content (directory_walk tracks content).claimed (directory_walk tracks content).blocks).flaws u d.0.none
    (begins_here _ (slots_walk 0 tracks content f.between f.sectors).flaws u
    (ap (λ (c : Place → Bool). (slots_walk 0 tracks content c (directory_walk tracks content).blocks).flaws) d.0.claims ∙ ap (λ (bs : List Place). (slots_walk 0 tracks content f.between bs).flaws) d.1)
    (slots_begin 0 tracks content only_head f.between first_directory f.sectors f.again f.between u f.directory f.fault)))

-- the first of the list is what the check answers
pub first_is : (fs : List DiskFlaw) (u : Unsound) → Begins fs u → first_flaw fs ≡ Err u
first_is fs u b = ap first_flaw b.is ∙ ap (λ (v : Unsound). Err v) b.what

pub all_first : {A E : Type 0} (r : Result A E) (items : A → List DiskFlaw) (tracks : ℕ) (content : Content) (u : Unsound) → IfOk r (λ v. items v ≡ flaws_of (geometry_of tracks content) content)
    → DiskFault (geometry_of tracks content) content u → IfOk r (λ v. IsChecked tracks content (first_flaw (items v)))
all_first (Ok v) items tracks content u h fault =
    subst (λ (x : Result (Unit {0}) Unsound). IsChecked tracks content x) (sym (ap first_flaw h ∙ first_is (flaws_of (geometry_of tracks content) content) u (fault_first (geometry_of tracks content) content u fault))) fault
all_first (Err e) items tracks content u h fault = tt
