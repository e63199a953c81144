-- Walks along the disk, a sector at a time, and the lists of flaws that they make.
use Rattle.std.proofs.Common.{◌≡◌, ◌≢◌, ℕ, suc, ◌+◌, ◌≤◌, ◌<◌, List, [], ◌∷◌, ◌++◌, length, get_or, drop-cons, Bool, true, false, Option, Some, None, Result, Ok, Err, drop, refl, sym, ap, subst, ◌∙◌, arith, append_assoc, append-nil}
use Rattle.std.specs.Prelude.{◌==◌, ◌%◌, ◌&&◌, not, if◌then◌else◌, is_some, IfOk, OnOk}
use Rattle.std.proofs.lemmas.Bool.{eq-eqb, ne_eqb}
use Rattle.std.proofs.lemmas.Nat.Bits.{bit_at-zero}
use Rattle.cbm_medium.specs.Place.{Place, sectors_on, directory_head}
use Rattle.cbm_medium.specs.Content.{Cell, Content}
use Rattle.cbm_medium.specs.Links.{bytes_at, or_nothing, link}
use Rattle.cbm_bam.specs.Map.{map_of, is_free_in, with_bit}
use Rattle.cbm_bam.specs.Marks.{nothing}
use Rattle.cbm_directory.specs.Entries.{first_block, first_side, first_directory}
use Rattle.cbm_volume.specs.check.Claims.{is_inside, reads, wrong_at}
use Rattle.cbm_volume.specs.check.SideLists.{are_records, sides_from}
use Rattle.cbm_volume.specs.check.SlotWalk.{entries_after}
use Rattle.cbm_volume.specs.check.WholeDisk.{only_head}
use Rattle.cbm_volume.proofs.checked.SlotSteps.{entries_next, entries_end}
use Rattle.cbm_directory.specs.Entries.{entry_of}
use Rattle.cbm_shell.specs.declared.broken.flaws.found.Whose.{Whose}
use Rattle.cbm_shell.specs.declared.broken.flaws.found.Whose.TheVariants.{Directory, File}
use Rattle.cbm_shell.specs.declared.broken.flaws.found.DiskFlaw.{DiskFlaw}
use Rattle.cbm_shell.specs.Mapping.{free_by, sectors_of}
use Rattle.cbm_shell.specs.Marking.{with_places}
use Rattle.cbm_shell.proofs.MapLemmas.{among}
use Rattle.cbm_shell.specs.Flaws as flaws
use Rattle.cbm_shell.specs.FlawSteps as steps
use Rattle.cbm_shell.specs.Flaws.{part_of, flaw_if, flawed, sides_walk, relative_walk, entry_walk, entries_walk, sector_walk, slots_walk, found_at, chain_flaws, directory_walk, map_flaws, flaws_of, Walked, at_end, cut_off, may_go_on, flaws_for, met, with_sector, flaws_along, chain_from, then_walk, if_whole, header_flaw, header_flaws_on, header_flaws, count_flaw, count_flaws}
use Rattle.cbm_shell.specs.FlawSteps.{IsStep, HasWalked, IsWalked}
use Rattle.cbm_shell.specs.Users.{is_user, slot_if, users_among}

pub not_true : (b : Bool) → not b ≡ true → b ≡ false
not_true true e = absurd (cc)
not_true false e = refl

pub not_false : (b : Bool) → not b ≡ false → b ≡ true
not_false true e = refl
not_false false e = absurd (cc)

-- ---- one sector

free_bits : (p : Place) → is_free_in [] p ≡ false
unfolding is_free_in
free_bits p = ap (λ (v : ℕ). v == 1) (bit_at-zero (p.sector % 8))

free_map : (cell : Cell) (p : Place) → free_by cell p ≡ is_free_in (or_nothing cell) p
free_map (Ok map) p = refl
free_map (Err code) p = sym (free_bits p)

-- the sector that is next is claimed, and the map may have it as free
step_case : (w : Option ℕ) (free : Bool) (flaw : ℕ → DiskFlaw) (two : DiskFlaw) (content : Content) (p : Place) (claimed new : Place → Bool) (bytes : List ℕ) (before after : List DiskFlaw)
    → w ≡ (if free then Some 2 else None) → two ≡ flaw 2 → content p ≡ Ok bytes → after ≡ before ++ flaw_if free two → new ≡ with_bit claimed p true
    → IsStep w flaw content p claimed new before after (Some bytes)
step_case w true flaw two content p claimed new bytes before after e t r a n =
    subst (λ (o : Option ℕ). IsStep o flaw content p claimed new before after (Some bytes)) (sym e) (record {
      next = ap (λ (cell : Cell). Some (or_nothing cell)) (sym r);
      claims = n;
      adds = a ∙ ap (λ (f : DiskFlaw). before ++ f ∷ []) t;
    })
step_case w false flaw two content p claimed new bytes before after e t r a n =
    subst (λ (o : Option ℕ). IsStep o flaw content p claimed new before after (Some bytes)) (sym e) (record {
      next = ap (λ (cell : Cell). Some (or_nothing cell)) (sym r);
      claims = n;
      adds = a;
    })

wrong_is : (i k r f : Bool) (n : ℕ) → i ≡ true → k ≡ false → r ≡ true → (if not i then Some n else if k then Some 3 else if not r then Some 9 else if f then Some 2 else None) ≡ (if f then Some 2 else None)
wrong_is true false true f n h j l = refl
wrong_is false k r f n h j l = absurd (cc)
wrong_is i true r f n h j l = absurd (cc)
wrong_is i k false f n h j l = absurd (cc)

pub step_on : (whose : Whose) (tracks : ℕ) (content : Content) (claimed new : Place → Bool) (p q : Place) (bytes : List ℕ) (free : Bool) (flaw : ℕ → DiskFlaw) (two : DiskFlaw) (before after : List DiskFlaw)
    → q ≡ p → is_inside (part_of whose) tracks p ≡ true → claimed q ≡ false → content q ≡ Ok bytes → free ≡ free_by (content directory_head) q → two ≡ flaw 2
    → after ≡ before ++ flaw_if free two → new ≡ with_bit claimed q true
    → IsStep (wrong_at (part_of whose) tracks content claimed p) flaw content p claimed new before after (Some bytes)
step_on whose tracks content claimed new p q bytes free flaw two before after e inside fresh read is t a n =
    let here : content p ≡ Ok bytes = ap content (sym e) ∙ read in
    let taken : free ≡ is_free_in (map_of content) p = is ∙ ap (free_by (content directory_head)) e ∙ free_map (content directory_head) p in
    step_case (wrong_at (part_of whose) tracks content claimed p) free flaw two content p claimed new bytes before after
    (wrong_is (is_inside (part_of whose) tracks p) (claimed p) (reads (content p)) (is_free_in (map_of content) p) _ inside (ap claimed (sym e) ∙ fresh) (ap reads here)
    ∙ ap (λ (b : Bool). if b then Some 2 else None) (sym taken))
    t here a (n ∙ ap (λ (x : Place). with_bit claimed x true) e)

-- where no bytes are answered the walk ends there
pub stopped : (w : Option ℕ) (flaw : ℕ → DiskFlaw) (content : Content) (p : Place) (claimed new : Place → Bool) (before after : List DiskFlaw)
    → IsStep w flaw content p claimed new before after None → (may_go_on w ≡ false) × (new ≡ claimed)
stopped w flaw content p claimed new before after s = go (may_go_on w) refl s.next s.claims
  where
    go : (b : Bool) → may_go_on w ≡ b → None ≡ steps.next_bytes b (bytes_at content p) → new ≡ steps.claimed_if b claimed p → (may_go_on w ≡ false) × (new ≡ claimed)
    go true e n c = absurd (let z = ap is_some n in cc)
    go false e n c = (e, c)

-- where they are it goes on
pub went : (w : Option ℕ) (flaw : ℕ → DiskFlaw) (content : Content) (p : Place) (claimed new : Place → Bool) (before after : List DiskFlaw) (bytes : List ℕ)
    → IsStep w flaw content p claimed new before after (Some bytes) → (may_go_on w ≡ true) × (bytes ≡ bytes_at content p) × (new ≡ with_bit claimed p true)
went w flaw content p claimed new before after bytes s = go (may_go_on w) refl s.next s.claims
  where
    same : (xs ys : List ℕ) → Some xs ≡ Some ys → xs ≡ ys
    same xs ys e = cc

    go : (b : Bool) → may_go_on w ≡ b → Some bytes ≡ steps.next_bytes b (bytes_at content p) → new ≡ steps.claimed_if b claimed p
        → (may_go_on w ≡ true) × (bytes ≡ bytes_at content p) × (new ≡ with_bit claimed p true)
    go true e n c = (e, same bytes (bytes_at content p) n, c)
    go false e n c = absurd (let z = ap is_some n in cc)

-- the same, by whether bytes were answered
pub stopped_by : (w : Option ℕ) (flaw : ℕ → DiskFlaw) (content : Content) (p : Place) (claimed new : Place → Bool) (before after : List DiskFlaw) (o : Option (List ℕ))
    → IsStep w flaw content p claimed new before after o → is_some o ≡ false → (may_go_on w ≡ false) × (new ≡ claimed)
stopped_by w flaw content p claimed new before after None s e = stopped w flaw content p claimed new before after s
stopped_by w flaw content p claimed new before after (Some bytes) s e = absurd (cc)

pub went_by : (w : Option ℕ) (flaw : ℕ → DiskFlaw) (content : Content) (p : Place) (claimed new : Place → Bool) (before after : List DiskFlaw) (o : Option (List ℕ))
    → IsStep w flaw content p claimed new before after o → is_some o ≡ true → (may_go_on w ≡ true) × (new ≡ with_bit claimed p true)
went_by w flaw content p claimed new before after None s e = absurd (cc)
went_by w flaw content p claimed new before after (Some bytes) s e = let g = went w flaw content p claimed new before after bytes s in (g.0, g.2)

pub met_on : (w : Option ℕ) (flaw : ℕ → DiskFlaw) (p : Place) (claimed : Place → Bool) (rest : Walked) → may_go_on w ≡ true → met w flaw p claimed rest ≡ with_sector (flaws_for w flaw) p rest
met_on w flaw p claimed rest e = ap (λ (b : Bool). if b then with_sector (flaws_for w flaw) p rest else cut_off claimed (flaws_for w flaw)) e

pub met_off : (w : Option ℕ) (flaw : ℕ → DiskFlaw) (p : Place) (claimed : Place → Bool) (rest : Walked) → may_go_on w ≡ false → met w flaw p claimed rest ≡ cut_off claimed (flaws_for w flaw)
met_off w flaw p claimed rest e = ap (λ (b : Bool). if b then with_sector (flaws_for w flaw) p rest else cut_off claimed (flaws_for w flaw)) e

-- ---- a walk under way: what is left of it makes the whole

pub record Leads (rest whole : Walked) (before now : List DiskFlaw) : Type 0 where
  pub claims : rest.claimed ≡ whole.claimed
  pub adds : now ++ rest.flaws ≡ before ++ whole.flaws
  pub ends : rest.whole ≡ whole.whole

pub begun : (w : Walked) (before : List DiskFlaw) → Leads w w before before
begun w before = record { claims = refl; adds = refl; ends = refl }

-- nothing is left but these flaws
pub over : (rest whole : Walked) (before now after flaws : List DiskFlaw) (claimed : Place → Bool) (b : Bool) → Leads rest whole before now
    → rest ≡ record { blocks = []; claimed = claimed; flaws = flaws; whole = b } → after ≡ now ++ flaws → IsWalked whole claimed before after b
over rest whole before now after flaws claimed b l e a = record {
  claims = sym (ap (λ (w : Walked). w.claimed) e) ∙ l.claims;
  adds = a ∙ sym (ap (λ (w : Walked). now ++ w.flaws) e) ∙ l.adds;
  ends = sym (ap (λ (w : Walked). w.whole) e) ∙ l.ends;
}

-- a sector more
pub one_more : (old rest whole : Walked) (before now after flaws : List DiskFlaw) (p : Place) → Leads old whole before now → old ≡ with_sector flaws p rest → after ≡ now ++ flaws
    → Leads rest whole before after
one_more old rest whole before now after flaws p l e a = record {
  claims = sym (ap (λ (w : Walked). w.claimed) e) ∙ l.claims;
  adds = ap (λ (xs : List DiskFlaw). xs ++ rest.flaws) a ∙ append_assoc now flaws rest.flaws ∙ sym (ap (λ (w : Walked). now ++ w.flaws) e) ∙ l.adds;
  ends = sym (ap (λ (w : Walked). w.whole) e) ∙ l.ends;
}

-- ---- along a chain

pub along-end : (whose : Whose) (tracks : ℕ) (content : Content) (n m before : ℕ) (claimed : Place → Bool) (p : Place) → n ≡ suc m → p.track ≡ 0
    → flaws_along whose tracks content n before claimed p ≡ at_end claimed
unfolding flaws_along
along-end whose tracks content n m before claimed p e z =
    ap (λ (k : ℕ). flaws_along whose tracks content k before claimed p) e
    ∙ ap (λ (b : Bool). if b then at_end claimed else met (wrong_at (part_of whose) tracks content claimed p) (flawed whose before p) p claimed
    (flaws_along whose tracks content m (before + 1) (with_bit claimed p true) (link (bytes_at content p)))) (eq-eqb p.track 0 z)

pub along-met : (whose : Whose) (tracks : ℕ) (content : Content) (n m before : ℕ) (claimed : Place → Bool) (p : Place) → n ≡ suc m → p.track ≢ 0
    → flaws_along whose tracks content n before claimed p ≡ met (wrong_at (part_of whose) tracks content claimed p) (flawed whose before p) p claimed
    (flaws_along whose tracks content m (before + 1) (with_bit claimed p true) (link (bytes_at content p)))
unfolding flaws_along
along-met whose tracks content n m before claimed p e nz =
    ap (λ (k : ℕ). flaws_along whose tracks content k before claimed p) e
    ∙ ap (λ (b : Bool). if b then at_end claimed else met (wrong_at (part_of whose) tracks content claimed p) (flawed whose before p) p claimed
    (flaws_along whose tracks content m (before + 1) (with_bit claimed p true) (link (bytes_at content p)))) (ne_eqb p.track 0 nz)

pub along-none : (whose : Whose) (tracks : ℕ) (content : Content) (n before : ℕ) (claimed : Place → Bool) (p : Place) → n ≡ 0
    → flaws_along whose tracks content n before claimed p ≡ cut_off claimed []
unfolding flaws_along
along-none whose tracks content n before claimed p e = ap (λ (k : ℕ). flaws_along whose tracks content k before claimed p) e

-- the walk goes on to the next sector
pub along-on : (whose : Whose) (tracks : ℕ) (content : Content) (n m before : ℕ) (claimed new : Place → Bool) (p q : Place) (bytes : List ℕ) → n ≡ suc m → p.track ≢ 0
    → may_go_on (wrong_at (part_of whose) tracks content claimed p) ≡ true → bytes ≡ bytes_at content p → new ≡ with_bit claimed p true → q ≡ link bytes
    → flaws_along whose tracks content n before claimed p ≡ with_sector (flaws_for (wrong_at (part_of whose) tracks content claimed p) (flawed whose before p)) p (flaws_along whose tracks content m (before + 1) new q)
along-on whose tracks content n m before claimed new p q bytes e nz g b c l =
    along-met whose tracks content n m before claimed p e nz
    ∙ met_on (wrong_at (part_of whose) tracks content claimed p) (flawed whose before p) p claimed _ g
    ∙ ap (λ (u : Place → Bool). with_sector (flaws_for (wrong_at (part_of whose) tracks content claimed p) (flawed whose before p)) p (flaws_along whose tracks content m (before + 1) u (link (bytes_at content p)))) (sym c)
    ∙ ap (λ (x : Place). with_sector (flaws_for (wrong_at (part_of whose) tracks content claimed p) (flawed whose before p)) p (flaws_along whose tracks content m (before + 1) new x)) (ap link (sym b) ∙ sym l)

-- the walk ends at a sector that isn't claimed
pub along-off : (whose : Whose) (tracks : ℕ) (content : Content) (n m before : ℕ) (claimed new : Place → Bool) (p : Place) → n ≡ suc m → p.track ≢ 0
    → may_go_on (wrong_at (part_of whose) tracks content claimed p) ≡ false → new ≡ claimed
    → flaws_along whose tracks content n before claimed p ≡ cut_off new (flaws_for (wrong_at (part_of whose) tracks content claimed p) (flawed whose before p))
along-off whose tracks content n m before claimed new p e nz g c =
    along-met whose tracks content n m before claimed p e nz
    ∙ met_off (wrong_at (part_of whose) tracks content claimed p) (flawed whose before p) p claimed _ g
    ∙ ap (λ (u : Place → Bool). cut_off u (flaws_for (wrong_at (part_of whose) tracks content claimed p) (flawed whose before p))) (sym c)

-- its sectors so far, and those that are left
pub no_blocks : (blocks all : List Place) (rest : Walked) (claimed : Place → Bool) (flaws : List DiskFlaw) (b : Bool) → blocks ++ rest.blocks ≡ all
    → rest ≡ record { blocks = []; claimed = claimed; flaws = flaws; whole = b } → blocks ≡ all
no_blocks blocks all rest claimed flaws b h e = sym (append-nil blocks) ∙ sym (ap (λ (w : Walked). blocks ++ w.blocks) e) ∙ h

pub more_blocks : (blocks new all : List Place) (old rest : Walked) (flaws : List DiskFlaw) (p : Place) → blocks ++ old.blocks ≡ all → old ≡ with_sector flaws p rest → new ≡ blocks ++ p ∷ []
    → new ++ rest.blocks ≡ all
more_blocks blocks new all old rest flaws p h e n =
    ap (λ (xs : List Place). xs ++ rest.blocks) n ∙ append_assoc blocks (p ∷ []) rest.blocks ∙ sym (ap (λ (w : Walked). blocks ++ w.blocks) e) ∙ h

-- ---- sectors of a list

pub among-none : (whose : Whose) (tracks : ℕ) (content : Content) (claimed : Place → Bool) (xs : List Place) → xs ≡ [] → flaws.among whose tracks content claimed xs ≡ at_end claimed
unfolding flaws.among
among-none whose tracks content claimed xs e = ap (λ (l : List Place). flaws.among whose tracks content claimed l) e

pub among-on : (whose : Whose) (tracks : ℕ) (content : Content) (claimed new : Place → Bool) (p : Place) (xs rest : List Place) → xs ≡ p ∷ rest
    → may_go_on (wrong_at (part_of whose) tracks content claimed p) ≡ true → new ≡ with_bit claimed p true
    → flaws.among whose tracks content claimed xs ≡ with_sector (flaws_for (wrong_at (part_of whose) tracks content claimed p) (flawed whose 0 p)) p (flaws.among whose tracks content new rest)
unfolding flaws.among
among-on whose tracks content claimed new p xs rest e g c =
    ap (λ (l : List Place). flaws.among whose tracks content claimed l) e
    ∙ met_on (wrong_at (part_of whose) tracks content claimed p) (flawed whose 0 p) p claimed _ g
    ∙ ap (λ (u : Place → Bool). with_sector (flaws_for (wrong_at (part_of whose) tracks content claimed p) (flawed whose 0 p)) p (flaws.among whose tracks content u rest)) (sym c)

pub among-off : (whose : Whose) (tracks : ℕ) (content : Content) (claimed new : Place → Bool) (p : Place) (xs rest : List Place) → xs ≡ p ∷ rest
    → may_go_on (wrong_at (part_of whose) tracks content claimed p) ≡ false → new ≡ claimed
    → flaws.among whose tracks content claimed xs ≡ cut_off new (flaws_for (wrong_at (part_of whose) tracks content claimed p) (flawed whose 0 p))
unfolding flaws.among
among-off whose tracks content claimed new p xs rest e g c =
    ap (λ (l : List Place). flaws.among whose tracks content claimed l) e
    ∙ met_off (wrong_at (part_of whose) tracks content claimed p) (flawed whose 0 p) p claimed _ g
    ∙ ap (λ (u : Place → Bool). cut_off u (flaws_for (wrong_at (part_of whose) tracks content claimed p) (flawed whose 0 p))) (sym c)

-- a whole walk that is only these flaws
pub only : (w : Walked) (before after flaws : List DiskFlaw) (claimed : Place → Bool) (b : Bool) → w ≡ record { blocks = []; claimed = claimed; flaws = flaws; whole = b }
    → after ≡ before ++ flaws → IsWalked w claimed before after b
only w before after flaws claimed b e a = over w w before before after flaws claimed b (begun w before) e a

-- a sector before a walk
pub before_walk : {E : Type 0} (r : Result Bool E) (w whole : Walked) (flaws before now after : List DiskFlaw) (p : Place) (claimed : Place → Bool) → whole ≡ with_sector flaws p w → now ≡ before ++ flaws
    → IfOk r (IsWalked w claimed now after) → IfOk r (IsWalked whole claimed before after)
before_walk (Ok b) w whole flaws before now after p claimed e n h = record {
  claims = h.claims ∙ sym (ap (λ (x : Walked). x.claimed) e);
  adds = h.adds ∙ ap (λ (xs : List DiskFlaw). xs ++ w.flaws) n ∙ append_assoc before flaws w.flaws ∙ sym (ap (λ (x : Walked). before ++ x.flaws) e);
  ends = h.ends ∙ sym (ap (λ (x : Walked). x.whole) e);
}
before_walk (Err f) w whole flaws before now after p claimed e n h = tt

-- ---- a walk after another

pub second : (first : Walked) (next : (Place → Bool) → Walked) (claimed after : Place → Bool) (before now later : List DiskFlaw) → HasWalked first claimed before now → HasWalked (next claimed) after now later
    → HasWalked (then_walk first next) after before later
second first next claimed after before now later h k = record {
  claims = k.claims ∙ ap (λ (c : Place → Bool). (next c).claimed) h.claims;
  adds = k.adds ∙ ap (λ (c : Place → Bool). now ++ (next c).flaws) h.claims ∙ ap (λ (xs : List DiskFlaw). xs ++ (next first.claimed).flaws) h.adds
      ∙ append_assoc before first.flaws (next first.claimed).flaws;
}

pub as_walked : (w : Walked) (claimed : Place → Bool) (before after : List DiskFlaw) (b : Bool) → IsWalked w claimed before after b → HasWalked w claimed before after
as_walked w claimed before after b h = record { claims = h.claims; adds = h.adds }

pub if_whole-on : (first : Walked) (next : (Place → Bool) → Walked) → first.whole ≡ true → if_whole first next ≡ then_walk first next
if_whole-on first next e = ap (λ (b : Bool). if b then then_walk first next else first) e

pub if_whole-off : (first : Walked) (next : (Place → Bool) → Walked) → first.whole ≡ false → if_whole first next ≡ first
if_whole-off first next e = ap (λ (b : Bool). if b then then_walk first next else first) e

walks : (w v : Walked) (claimed : Place → Bool) (before after : List DiskFlaw) → w ≡ v → HasWalked v claimed before after → HasWalked w claimed before after
walks w v claimed before after e h = subst (λ (x : Walked). HasWalked x claimed before after) (sym e) h

-- the records, after side sectors that were all met
pub sides_done : {E : Type 0} (r : Result (Unit {0}) E) (whose : Whose) (tracks : ℕ) (content : Content) (old claimed : Place → Bool) (e : List ℕ) (before now after : List DiskFlaw) (whole right : Bool)
    → IsWalked (flaws.among whose tracks content old (sides_from content (first_side e))) claimed before now whole → right ≡ are_records tracks content e
    → OnOk r (after ≡ now ++ flaw_if (whole && not right) (flawed whose 0 (first_side e) 7)) → OnOk r (HasWalked (sides_walk whose tracks content old e) claimed before after)
sides_done (Err f) whose tracks content old claimed e before now after whole right h is a = tt
sides_done (Ok _) whose tracks content old claimed e before now after true right h is a =
    let w = flaws.among whose tracks content old (sides_from content (first_side e)) in
    walks (sides_walk whose tracks content old e) (then_walk w (flaws.records_walk whose tracks content e)) claimed before after (if_whole-on w (flaws.records_walk whose tracks content e) (sym h.ends))
    (second w (flaws.records_walk whose tracks content e) claimed claimed before now after (as_walked w claimed before now true h)
    (record { claims = refl; adds = a ∙ ap (λ (b : Bool). now ++ flaw_if (not b) (flawed whose 0 (first_side e) 7)) is }))
sides_done (Ok _) whose tracks content old claimed e before now after false right h is a =
    let w = flaws.among whose tracks content old (sides_from content (first_side e)) in
    walks (sides_walk whose tracks content old e) w claimed before after (if_whole-off w (flaws.records_walk whose tracks content e) (sym h.ends))
    (record { claims = h.claims; adds = a ∙ append-nil now ∙ h.adds })

pub relative_is : (whose : Whose) (tracks : ℕ) (content : Content) (claimed : Place → Bool) (e : List ℕ) → (first_block e).track ≢ 0
    → relative_walk whose tracks content claimed e ≡ if_whole (chain_from whose tracks content claimed (first_block e)) (λ c. sides_walk whose tracks content c e)
relative_is whose tracks content claimed e nz =
    ap (λ (b : Bool). if b then cut_off claimed (flawed whose 0 (first_block e) 4 ∷ []) else if_whole (chain_from whose tracks content claimed (first_block e)) (λ c. sides_walk whose tracks content c e))
    (ne_eqb (first_block e).track 0 nz)

-- a relative file without a block
pub relative_none : (whose : Whose) (tracks : ℕ) (content : Content) (claimed : Place → Bool) (e : List ℕ) (first : Place) (flaw : DiskFlaw) (before after : List DiskFlaw) → first ≡ first_block e → first.track ≡ 0
    → flaw ≡ flawed whose 0 first 4 → after ≡ before ++ flaw ∷ [] → HasWalked (relative_walk whose tracks content claimed e) claimed before after
relative_none whose tracks content claimed e first flaw before after is z f a =
    walks (relative_walk whose tracks content claimed e) (cut_off claimed (flawed whose 0 (first_block e) 4 ∷ [])) claimed before after
    (ap (λ (b : Bool). if b then cut_off claimed (flawed whose 0 (first_block e) 4 ∷ []) else if_whole (chain_from whose tracks content claimed (first_block e)) (λ c. sides_walk whose tracks content c e))
    (eq-eqb (first_block e).track 0 (sym (ap (λ (p : Place). p.track) is) ∙ z)))
    (record { claims = refl; adds = a ∙ ap (λ (x : DiskFlaw). before ++ x ∷ []) (f ∙ ap (λ (p : Place). flawed whose 0 p 4) is) })

-- one whose chain doesn't come to its end
pub relative_cut : (whose : Whose) (tracks : ℕ) (content : Content) (old claimed : Place → Bool) (e : List ℕ) (first : Place) (before after : List DiskFlaw) (whole : Bool) → first ≡ first_block e → first.track ≢ 0
    → IsWalked (chain_from whose tracks content old first) claimed before after whole → whole ≡ false → HasWalked (relative_walk whose tracks content old e) claimed before after
relative_cut whose tracks content old claimed e first before after whole is nz h w =
    let k : IsWalked (chain_from whose tracks content old (first_block e)) claimed before after whole = subst (λ (p : Place). IsWalked (chain_from whose tracks content old p) claimed before after whole) is h in
    walks (relative_walk whose tracks content old e) (chain_from whose tracks content old (first_block e)) claimed before after
    (relative_is whose tracks content old e (λ z. nz (ap (λ (p : Place). p.track) is ∙ z))
    ∙ if_whole-off (chain_from whose tracks content old (first_block e)) (λ c. sides_walk whose tracks content c e) (sym k.ends ∙ w))
    (as_walked _ claimed before after whole k)

-- and one with its side sectors
pub relative_on : {E : Type 0} (r : Result (Unit {0}) E) (whose : Whose) (tracks : ℕ) (content : Content) (old claimed later : Place → Bool) (e : List ℕ) (first : Place) (before now after : List DiskFlaw) (whole : Bool)
    → first ≡ first_block e → first.track ≢ 0 → IsWalked (chain_from whose tracks content old first) claimed before now whole → whole ≡ true
    → OnOk r (HasWalked (sides_walk whose tracks content claimed e) later now after) → OnOk r (HasWalked (relative_walk whose tracks content old e) later before after)
relative_on (Err f) whose tracks content old claimed later e first before now after whole is nz h w s = tt
relative_on (Ok _) whose tracks content old claimed later e first before now after whole is nz h w s =
    let k : IsWalked (chain_from whose tracks content old (first_block e)) claimed before now whole = subst (λ (p : Place). IsWalked (chain_from whose tracks content old p) claimed before now whole) is h in
    walks (relative_walk whose tracks content old e) (then_walk (chain_from whose tracks content old (first_block e)) (λ c. sides_walk whose tracks content c e)) later before after
    (relative_is whose tracks content old e (λ z. nz (ap (λ (p : Place). p.track) is ∙ z))
    ∙ if_whole-on (chain_from whose tracks content old (first_block e)) (λ c. sides_walk whose tracks content c e) (sym k.ends ∙ w))
    (second (chain_from whose tracks content old (first_block e)) (λ c. sides_walk whose tracks content c e) claimed later before now after (as_walked _ claimed before now whole k) s)

-- ---- entries, one after another: what is left of them makes the whole

pub record Goes (rest whole : Walked) (before now : List DiskFlaw) : Type 0 where
  pub claims : rest.claimed ≡ whole.claimed
  pub adds : now ++ rest.flaws ≡ before ++ whole.flaws

pub going : (rest whole : Walked) (before : List DiskFlaw) → rest ≡ whole → Goes rest whole before before
going rest whole before e = subst (λ (w : Walked). Goes w whole before before) (sym e) (record { claims = refl; adds = refl })

pub gone : (rest whole : Walked) (claimed : Place → Bool) (before now : List DiskFlaw) → Goes rest whole before now → rest ≡ at_end claimed → HasWalked whole claimed before now
gone rest whole claimed before now h e = record {
  claims = sym (ap (λ (w : Walked). w.claimed) e) ∙ h.claims;
  adds = sym (append-nil now) ∙ sym (ap (λ (w : Walked). now ++ w.flaws) e) ∙ h.adds;
}

pub goes_on_by : (old first rest whole : Walked) (next : (Place → Bool) → Walked) (claimed : Place → Bool) (before now later : List DiskFlaw) → Goes old whole before now → old ≡ then_walk first next
    → HasWalked first claimed now later → rest ≡ next claimed → Goes rest whole before later
goes_on_by old first rest whole next claimed before now later h e k r = record {
  claims = ap (λ (w : Walked). w.claimed) r ∙ ap (λ (c : Place → Bool). (next c).claimed) k.claims ∙ sym (ap (λ (w : Walked). w.claimed) e) ∙ h.claims;
  adds = ap (λ (w : Walked). later ++ w.flaws) r ∙ ap (λ (c : Place → Bool). later ++ (next c).flaws) k.claims ∙ ap (λ (xs : List DiskFlaw). xs ++ (next first.claimed).flaws) k.adds
      ∙ append_assoc now first.flaws (next first.claimed).flaws ∙ sym (ap (λ (w : Walked). now ++ w.flaws) e) ∙ h.adds;
}

pub entries_walk-none : (slot tracks : ℕ) (content : Content) (claimed : Place → Bool) (sector : Place) (es : List (List ℕ)) → es ≡ [] → entries_walk slot tracks content claimed sector es ≡ at_end claimed
unfolding entries_walk
entries_walk-none slot tracks content claimed sector es e = ap (λ (l : List (List ℕ)). entries_walk slot tracks content claimed sector l) e

pub entries_walk-some : (slot tracks : ℕ) (content : Content) (claimed : Place → Bool) (sector : Place) (e : List ℕ) (es rest : List (List ℕ)) → es ≡ e ∷ rest
    → entries_walk slot tracks content claimed sector es ≡ then_walk (entry_walk (File slot) tracks content claimed sector e) (λ c. entries_walk (slot + 1) tracks content c sector rest)
unfolding entries_walk
entries_walk-some slot tracks content claimed sector e es rest is = ap (λ (l : List (List ℕ)). entries_walk slot tracks content claimed sector l) is

-- an entry more of the eight of a sector
pub entry_more : (whole : Walked) (slot n tracks : ℕ) (content : Content) (old claimed : Place → Bool) (at : Place) (sector e : List ℕ) (whose : Whose) (before now later : List DiskFlaw)
    → Goes (entries_walk (slot + n) tracks content old at (entries_after n sector)) whole before now → n < 8 → e ≡ entry_of sector n → whose ≡ File (slot + n)
    → HasWalked (entry_walk whose tracks content old at e) claimed now later
    → Goes (entries_walk (slot + (n + 1)) tracks content claimed at (entries_after (n + 1) sector)) whole before later
entry_more whole slot n tracks content old claimed at sector e whose before now later h few is file k =
    goes_on_by (entries_walk (slot + n) tracks content old at (entries_after n sector)) (entry_walk (File (slot + n)) tracks content old at e)
    (entries_walk (slot + (n + 1)) tracks content claimed at (entries_after (n + 1) sector)) whole (λ c. entries_walk (slot + n + 1) tracks content c at (entries_after (n + 1) sector)) claimed before now later h
    (entries_walk-some (slot + n) tracks content old at e (entries_after n sector) (entries_after (n + 1) sector) (entries_next n sector e few is))
    (subst (λ (w : Whose). HasWalked (entry_walk w tracks content old at e) claimed now later) file k)
    (ap (λ (m : ℕ). entries_walk m tracks content claimed at (entries_after (n + 1) sector)) (let z : slot + (n + 1) ≡ slot + n + 1 = omega arith in z))

pub entries_over : (whole : Walked) (slot n tracks : ℕ) (content : Content) (claimed : Place → Bool) (at : Place) (sector : List ℕ) (before now : List DiskFlaw)
    → Goes (entries_walk (slot + n) tracks content claimed at (entries_after n sector)) whole before now → 8 ≤ n → HasWalked whole claimed before now
entries_over whole slot n tracks content claimed at sector before now h all =
    gone (entries_walk (slot + n) tracks content claimed at (entries_after n sector)) whole claimed before now h
    (entries_walk-none (slot + n) tracks content claimed at (entries_after n sector) (entries_end n sector all))

pub slots_walk-none : (slot tracks : ℕ) (content : Content) (claimed : Place → Bool) (bs : List Place) → bs ≡ [] → slots_walk slot tracks content claimed bs ≡ at_end claimed
unfolding slots_walk
slots_walk-none slot tracks content claimed bs e = ap (λ (l : List Place). slots_walk slot tracks content claimed l) e

pub slots_walk-some : (slot tracks : ℕ) (content : Content) (claimed : Place → Bool) (b : Place) (bs rest : List Place) → bs ≡ b ∷ rest
    → slots_walk slot tracks content claimed bs ≡ then_walk (sector_walk slot tracks content claimed b (found_at tracks content b)) (λ c. slots_walk (slot + 8) tracks content c rest)
unfolding slots_walk
slots_walk-some slot tracks content claimed b bs rest is = ap (λ (l : List Place). slots_walk slot tracks content claimed l) is

pub slots_more : (whole : Walked) (slot next tracks : ℕ) (content : Content) (old claimed : Place → Bool) (b : Place) (bs rest : List Place) (before now later : List DiskFlaw)
    → Goes (slots_walk slot tracks content old bs) whole before now → bs ≡ b ∷ rest → HasWalked (sector_walk slot tracks content old b (found_at tracks content b)) claimed now later → next ≡ slot + 8
    → Goes (slots_walk next tracks content claimed rest) whole before later
slots_more whole slot next tracks content old claimed b bs rest before now later h is k n =
    goes_on_by (slots_walk slot tracks content old bs) (sector_walk slot tracks content old b (found_at tracks content b)) (slots_walk next tracks content claimed rest) whole
    (λ c. slots_walk (slot + 8) tracks content c rest) claimed before now later h (slots_walk-some slot tracks content old b bs rest is) k
    (ap (λ (m : ℕ). slots_walk m tracks content claimed rest) n)

pub slots_over : (whole : Walked) (slot tracks : ℕ) (content : Content) (claimed : Place → Bool) (bs : List Place) (before now : List DiskFlaw)
    → Goes (slots_walk slot tracks content claimed bs) whole before now → bs ≡ [] → HasWalked whole claimed before now
slots_over whole slot tracks content claimed bs before now h none =
    gone (slots_walk slot tracks content claimed bs) whole claimed before now h (slots_walk-none slot tracks content claimed bs none)

pub one_place : (xs : List Place) (x : Place) (i : ℕ) → x ≡ get_or xs i x → i < length xs → drop i xs ≡ x ∷ drop (i + 1) xs
one_place xs x i e h =
    let next : suc i ≡ i + 1 = omega arith in
    drop-cons xs i x h ∙ ap (λ y. y ∷ drop (suc i) xs) (sym e) ∙ ap (λ k. x ∷ drop k xs) next

-- the directory, and the files of its slots
pub chains_done : {E : Type 0} (r : Result (Unit {0}) E) (tracks : ℕ) (content : Content) (first : Place) (head claimed later : Place → Bool) (blocks : List Place) (before now after : List DiskFlaw) (whole : Bool)
    → head ≡ only_head → first ≡ first_directory → IsWalked (chain_from Directory tracks content head first) claimed before now whole → blocks ≡ (chain_from Directory tracks content head first).blocks
    → OnOk r (HasWalked (slots_walk 0 tracks content claimed blocks) later now after) → OnOk r (after ≡ before ++ chain_flaws tracks content)
chains_done (Err f) tracks content first head claimed later blocks before now after whole h is k b s = tt
chains_done (Ok _) tracks content first head claimed later blocks before now after whole h is k b s =
    let same : chain_from Directory tracks content head first ≡ directory_walk tracks content =
    ap (λ (u : Place → Bool). chain_from Directory tracks content u first) h ∙ ap (λ (p : Place). chain_from Directory tracks content only_head p) is in
    let claims : claimed ≡ (directory_walk tracks content).claimed = k.claims ∙ ap (λ (w : Walked). w.claimed) same in
    let met : blocks ≡ (directory_walk tracks content).blocks = b ∙ ap (λ (w : Walked). w.blocks) same in
    s.adds ∙ ap (λ (u : Place → Bool). now ++ (slots_walk 0 tracks content u blocks).flaws) claims
    ∙ ap (λ (xs : List Place). now ++ (slots_walk 0 tracks content (directory_walk tracks content).claimed xs).flaws) met
    ∙ ap (λ (xs : List DiskFlaw). xs ++ (slots_walk 0 tracks content (directory_walk tracks content).claimed (directory_walk tracks content).blocks).flaws) (k.adds ∙ ap (λ (w : Walked). before ++ w.flaws) same)
    ∙ append_assoc before (directory_walk tracks content).flaws (slots_walk 0 tracks content (directory_walk tracks content).claimed (directory_walk tracks content).blocks).flaws

-- headers, map, chains
pub all_done : (tracks : ℕ) (content : Content) (g : ℕ) (none one two three : List DiskFlaw) → g ≡ tracks → none ≡ [] → one ≡ none ++ header_flaws content g → two ≡ one ++ map_flaws g (content directory_head)
    → three ≡ two ++ chain_flaws g content → three ≡ flaws_of tracks content
all_done tracks content g none one two three same n a b c =
    c ∙ ap (λ (xs : List DiskFlaw). xs ++ chain_flaws g content) (b ∙ ap (λ (xs : List DiskFlaw). xs ++ map_flaws g (content directory_head)) (a ∙ ap (λ (xs : List DiskFlaw). xs ++ header_flaws content g) n))
    ∙ append_assoc (header_flaws content g) (map_flaws g (content directory_head)) (chain_flaws g content)
    ∙ ap (λ (t : ℕ). flaws_of t content) same

-- ---- lists that grow by a track, a sector or a slot

pub header_flaws_on-none : (xs : List DiskFlaw) (content : Content) (track : ℕ) → xs ≡ xs ++ header_flaws_on content track 0
unfolding header_flaws_on
header_flaws_on-none xs content track = sym (append-nil xs)

header_flaws_on-next : (content : Content) (track n : ℕ) → header_flaws_on content track (n + 1) ≡ header_flaws_on content track n ++ header_flaw (record { track = track; sector = n }) (content (record { track = track; sector = n }))
unfolding header_flaws_on
header_flaws_on-next content track n = ap (header_flaws_on content track) (let e : n + 1 ≡ suc n = omega arith in e)

pub header_flaws_on-more : (xs ys zs : List DiskFlaw) (content : Content) (track n : ℕ) (at : Place) → ys ≡ xs ++ header_flaws_on content track n → zs ≡ ys ++ header_flaw at (content at)
    → at ≡ record { track = track; sector = n } → zs ≡ xs ++ header_flaws_on content track (n + 1)
header_flaws_on-more xs ys zs content track n at before added same =
    added ∙ ap (λ (p : Place). ys ++ header_flaw p (content p)) same
    ∙ ap (λ (l : List DiskFlaw). l ++ header_flaw (record { track = track; sector = n }) (content (record { track = track; sector = n }))) before
    ∙ append_assoc xs (header_flaws_on content track n) (header_flaw (record { track = track; sector = n }) (content (record { track = track; sector = n })))
    ∙ ap (λ (l : List DiskFlaw). xs ++ l) (sym (header_flaws_on-next content track n))

pub header_flaws-none : (xs : List DiskFlaw) (content : Content) → xs ≡ xs ++ header_flaws content 0
unfolding header_flaws
header_flaws-none xs content = sym (append-nil xs)

pub header_flaws-more : (xs ys zs : List DiskFlaw) (content : Content) (n : ℕ) → ys ≡ xs ++ header_flaws content n → zs ≡ ys ++ header_flaws_on content (n + 1) (sectors_on (n + 1))
    → zs ≡ xs ++ header_flaws content (n + 1)
unfolding header_flaws
header_flaws-more xs ys zs content n before added =
    let next : n + 1 ≡ suc n = omega arith in
    added ∙ ap (λ (l : List DiskFlaw). l ++ header_flaws_on content (n + 1) (sectors_on (n + 1))) before
    ∙ append_assoc xs (header_flaws content n) (header_flaws_on content (n + 1) (sectors_on (n + 1)))
    ∙ ap (λ (k : ℕ). xs ++ (header_flaws content n ++ header_flaws_on content k (sectors_on k))) next
    ∙ sym (ap (λ (k : ℕ). xs ++ header_flaws content k) next)

pub count_flaws-none : (xs : List DiskFlaw) (map : List ℕ) → xs ≡ xs ++ count_flaws map 0
unfolding count_flaws
count_flaws-none xs map = sym (append-nil xs)

pub count_flaws-more : (xs ys zs : List DiskFlaw) (map : List ℕ) (n : ℕ) → ys ≡ xs ++ count_flaws map n → zs ≡ ys ++ count_flaw map (n + 1) → zs ≡ xs ++ count_flaws map (n + 1)
unfolding count_flaws
count_flaws-more xs ys zs map n before added =
    let next : n + 1 ≡ suc n = omega arith in
    added ∙ ap (λ (l : List DiskFlaw). l ++ count_flaw map (n + 1)) before
    ∙ append_assoc xs (count_flaws map n) (count_flaw map (n + 1))
    ∙ ap (λ (k : ℕ). xs ++ (count_flaws map n ++ count_flaw map k)) next
    ∙ sym (ap (λ (k : ℕ). xs ++ count_flaws map k) next)

-- ---- the files that use a sector

pub uses : (tracks : ℕ) (content : Content) (e : List ℕ) (used : Place → Bool) (p : Place) (none : Place → Bool) (b : Bool) → none ≡ nothing → used ≡ with_places none (sectors_of tracks content e)
    → b ≡ used p → b ≡ is_user tracks content p e
uses tracks content e used p none b n u h =
    h ∙ ap (λ (f : Place → Bool). f p) (u ∙ ap (λ (f : Place → Bool). with_places f (sectors_of tracks content e)) n ∙ among (sectors_of tracks content e))

pub users-all : (out whole : List ℕ) (tracks : ℕ) (content : Content) (p : Place) (slot : ℕ) (left : List (List ℕ)) → left ≡ [] → out ++ users_among tracks content p slot left ≡ whole → out ≡ whole
unfolding users_among
users-all out whole tracks content p slot left none before = sym (append-nil out) ∙ sym (ap (λ (l : List (List ℕ)). out ++ users_among tracks content p slot l) none) ∙ before

pub users-more : (out new whole : List ℕ) (tracks : ℕ) (content : Content) (p : Place) (slot next : ℕ) (e : List ℕ) (left rest : List (List ℕ)) (b : Bool) → left ≡ e ∷ rest
    → out ++ users_among tracks content p slot left ≡ whole → b ≡ is_user tracks content p e → new ≡ out ++ slot_if b slot → next ≡ slot + 1
    → new ++ users_among tracks content p next rest ≡ whole
unfolding users_among
users-more out new whole tracks content p slot next e left rest b begins before is added n =
    ap (λ (k : ℕ). new ++ users_among tracks content p k rest) n
    ∙ ap (λ (l : List ℕ). l ++ users_among tracks content p (slot + 1) rest) (added ∙ ap (λ (c : Bool). out ++ slot_if c slot) is)
    ∙ append_assoc out (slot_if (is_user tracks content p e) slot) (users_among tracks content p (slot + 1) rest)
    ∙ sym (ap (λ (l : List (List ℕ)). out ++ users_among tracks content p slot l) begins) ∙ before
