-- A file gets a side sector that lists no block: it is claimed and written, put into the list of each of the others, and last into that of
-- the first.
use Rattle.std.proofs.Common.{◌≡◌, ◌≢◌, ℕ, ◌+◌, ◌-◌, ◌<◌, List, [], drop, Ok, sym, ap, subst, ◌∙◌, arith}
use Rattle.cbm_medium.specs.Place.{Place}
use Rattle.cbm_medium.specs.Content.{Content}
use Rattle.cbm_file.specs.Files.{Disk}
use Rattle.cbm_bam.specs.Map.{geometry_of}
use Rattle.cbm_directory.specs.Entries.{first_block, first_side}
use Rattle.cbm_relfile.specs.AddingSides.{IsEmptySide, IsEmptyBegun}
use Rattle.cbm_relfile.specs.Growing.{IsSideLinked}
use Rattle.cbm_relfile.specs.Records.{Relative}
use Rattle.cbm_relfile.specs.SideSectors.{named_in, listed_side}
use Rattle.cbm_relfile.proofs.Listed.{named_none}
use Rattle.cbm_volume.specs.AddingSides.{HasSides, HasEmptySide}
use Rattle.cbm_volume.specs.Growing.{disk_with}
use Rattle.cbm_volume.specs.Layouts.{SideOf, Layout, slot_count, own}
use Rattle.cbm_volume.specs.RecordWrites.{HasRecordsOpen}
use Rattle.cbm_volume.specs.Writers.{Use}
use Rattle.cbm_volume.proofs.grown.SideTurns.{side_waits, side_still_waits, first_linked, side_joined}
use Rattle.cbm_volume.proofs.grown.GrowingSteps.{Stage}
use Rattle.cbm_volume.proofs.grown.GrowingTurns.{FileLies, lies_at, slot_in}
use Rattle.cbm_volume.proofs.layouts.OneSlot.{with_file}
use Rattle.cbm_volume.proofs.layouts.Steps.{IsTaken}
use Rattle.cbm_volume.proofs.relative.Added.{sided}
use Rattle.cbm_volume.proofs.relative.AddedEmpty.{stands_added_empty}

-- the new side sector lists nothing
lists_nothing : (head : List ℕ) (k w : ℕ) (t : Place) (new : List ℕ) → IsEmptySide head k w t new → named_in 120 (drop 16 new) ≡ []
lists_nothing head k w t new h = named_none 119 16 new (h.zeros 16 (omega arith))

module _ (medium : ℕ) (c0 : Content) (d : Disk) (uses : ℕ → Use) (n w b s : ℕ) (rs : List (List ℕ)) (o : HasRecordsOpen medium c0 d uses n w b s rs) (r : Relative) where
  abbrev pub tracks : ℕ
  tracks = geometry_of medium c0

  abbrev pub At : Content → Layout → ℕ → ℕ → Type 0
  At c l s1 free = Stage medium c0 o.holds.layout d uses n o.file w c l rs b s1 free

  pub sides_stage : (c : Content) (s1 : ℕ) → (g : HasSides medium c0 d uses n w b s rs o r c s1) → At c g.layout s1 (d.free - (s1 - s))
  sides_stage c s1 g = record { holds = g.holds; same = g.same; count = g.count; aside = g.aside }

  pub empty_stage : (c : Content) (s1 : ℕ) (t : Place) → (g : HasEmptySide medium c0 d uses n w b s rs o r c s1 t) → At c g.layout s1 (d.free - (s1 + 1 - s))
  empty_stage c s1 t g = record { holds = g.holds; same = g.same; count = g.count; aside = g.aside }

  -- ---- THE NEW SIDE SECTOR IS CLAIMED AND WRITTEN
  pub empty_begun : (c c' : Content) (s1 : ℕ) (t : Place) (head : List ℕ) → HasSides medium c0 d uses n w b s rs o r c s1 → IsEmptyBegun tracks c c' head s1 w t → HasEmptySide medium c0 d uses n w b s rs o r c' s1 t
  empty_begun c c' s1 t head g k =
      let l : Layout = g.layout in
      let less : d.free - (s1 - s) - 1 ≡ d.free - (s1 + 1 - s) = omega (arith, g.more) in
      let wait = side_waits medium c0 d uses n w b s rs o c k.one c' l rs b s1 (d.free - (s1 - s)) t k.side (sides_stage c s1 g) k.claims k.written in
      let at2 : At c' l s1 (d.free - (s1 + 1 - s)) = subst (λ (m : ℕ). At c' l s1 m) less wait.stage in
      record {
        layout = l;
        holds = at2.holds;
        same = at2.same;
        count = at2.count;
        file = g.file ∙ ap (λ (e : List ℕ). record { first = first_block e; side = first_side e; width = w }) (sym wait.entry);
        more = g.more;
        aside = at2.aside;
        side_has = wait.taken.has;
        side_off = wait.taken.off_18;
        side_nobody = wait.taken.nobody;
        side_taken = wait.taken.taken;
        side = k.side;
        side_holds = wait.holds;
        side_number = k.empty.number;
        side_width = k.empty.width;
        side_lists = lists_nothing head s1 w t k.side k.empty;
      }

  empty_taken : (c : Content) (s1 : ℕ) (t : Place) → (g : HasEmptySide medium c0 d uses n w b s rs o r c s1 t) → IsTaken tracks c g.layout t
  empty_taken c s1 t g = record { has = g.side_has; off_18 = g.side_off; nobody = g.side_nobody; taken = g.side_taken }

  -- ---- A SIDE SECTOR BUT THE FIRST GETS IT INTO ITS LIST
  pub empty_copied : (c c' : Content) (s1 i : ℕ) (t : Place) (head : List ℕ) → HasEmptySide medium c0 d uses n w b s rs o r c s1 t → 0 < i → i < s1 → c r.side ≡ Ok head → IsSideLinked c c' (listed_side head i) i s1 t
      → HasEmptySide medium c0 d uses n w b s rs o r c' s1 t
  empty_copied c c' s1 i t head g some few holds k =
      let l : Layout = g.layout in
      let wait = side_still_waits medium c0 d uses n w b s rs o c c' l rs b s1 (d.free - (s1 + 1 - s)) i t head g.side (empty_stage c s1 t g) (empty_taken c s1 t g) g.side_holds (ap (λ (y : Relative). c y.side) (sym g.file) ∙ holds) some few k in
      record {
        layout = with_file l n (l.files n) l.owner;
        holds = wait.stage.holds;
        same = wait.stage.same;
        count = wait.stage.count;
        file = g.file ∙ ap (λ (y : List ℕ). record { first = first_block y; side = first_side y; width = w }) (sym wait.entry);
        more = g.more;
        aside = wait.stage.aside;
        side_has = g.side_has;
        side_off = g.side_off;
        side_nobody = g.side_nobody;
        side_taken = wait.taken.taken;
        side = g.side;
        side_holds = wait.holds;
        side_number = g.side_number;
        side_width = g.side_width;
        side_lists = g.side_lists;
      }

  -- ---- THE FIRST SIDE SECTOR GETS IT INTO ITS LIST: the file has it
  pub empty_added : (c c' : Content) (s1 : ℕ) (t : Place) (head : List ℕ) → HasEmptySide medium c0 d uses n w b s rs o r c s1 t → s1 < 6 → c r.side ≡ Ok head → IsSideLinked c c' (listed_side head 0) 0 s1 t → HasSides medium c0 d uses n w b s rs o r c' (s1 + 1)
  empty_added c c' s1 t head g few holds k =
      let l : Layout = g.layout in
      let free : ℕ = d.free - (s1 + 1 - s) in
      let at0 : At c l s1 free = empty_stage c s1 t g in
      let there : n < slot_count l = slot_in medium c0 d uses n w b s rs o c l rs b s1 free at0 in
      let lies : FileLies tracks c l n w rs b s1 = lies_at medium c0 d uses n w b s rs o c l rs b s1 free at0 in
      let some : t.track ≢ 0 = λ z. (let h = g.side_has in omega (arith, z, h.0)) in
      let link = first_linked medium c0 d uses n w b s rs o c c' l rs b s1 free t head at0 some (ap (λ (y : Relative). c y.side) (sym g.file) ∙ holds) few k in
      let done = side_joined medium c0 d uses n w b s rs o c c' l rs b s1 free t at0 g.side_nobody link (stands_added_empty tracks c c' l (disk_with d n o.file w rs b s1 free) n t g.side link.more at0.holds.stands there (record {
        closed = lies.closed;
        relative = lies.relative;
        taken = empty_taken c s1 t g;
        holds = g.side_holds;
        its_number = g.side_number ∙ lies.sides;
        its_length = g.side_width ∙ lies.width;
        its_list = g.side_lists;
        number = link.number;
        length_kept = link.width;
        list = link.list;
        blocks_kept = link.blocks;
        written = link.write;
      })) in
      record {
        layout = with_file l n (sided (l.files n) t) (own l.owner t (SideOf n));
        holds = done.stage.holds;
        same = done.stage.same;
        count = done.stage.count;
        file = g.file ∙ ap (λ (y : List ℕ). record { first = first_block y; side = first_side y; width = w }) (sym done.entry);
        more = omega (arith, g.more);
        aside = done.stage.aside;
      }
