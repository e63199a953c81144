-- A turn with a new side sector: it is claimed and written, put into the list of each of the others, and last into that of the first.
use Rattle.std.proofs.Common.{◌≡◌, ◌≢◌, ℕ, ◌+◌, ◌-◌, ◌*◌, ◌<◌, List, [], ◌∷◌, length, drop, get_or, Ok, refl, sym, ap, subst, ◌∙◌, arith}
use Rattle.std.proofs.lemmas.List.{get_or-drop, get_or_at}
use Rattle.cbm_medium.specs.Place.{Place, directory_head}
use Rattle.cbm_medium.specs.Content.{Content}
use Rattle.cbm_file.specs.Files.{Disk}
use Rattle.cbm_bam.specs.Map.{geometry_of}
use Rattle.cbm_chain.specs.Data.{chain_bytes}
use Rattle.cbm_directory.specs.Entries.{entry_at, first_block, first_side}
use Rattle.cbm_relfile.specs.Growing.{IsSideLinked, IsNewSide, IsSideBegun}
use Rattle.cbm_relfile.specs.Records.{Relative}
use Rattle.cbm_relfile.specs.SideSectors.{named_in, listed_side}
use Rattle.cbm_volume.specs.Blocks.{Blocks}
use Rattle.cbm_volume.specs.Growth.{filled_up}
use Rattle.cbm_volume.specs.Growing.{disk_with, IsListed, HasGrown, HasLonger, HasSide}
use Rattle.cbm_volume.specs.Layouts.{DataOf, SideOf, Layout, slot_count, own}
use Rattle.cbm_volume.specs.RecordWrites.{HasRecordsOpen}
use Rattle.cbm_volume.specs.Writers.{Use}
use Rattle.cbm_volume.proofs.layouts.Frames.{bytes_kept}
use Rattle.cbm_volume.proofs.grown.GrowingLists.{longer_stage}
use Rattle.cbm_volume.proofs.grown.GrowingSteps.{Stage}
use Rattle.cbm_volume.proofs.grown.GrowingTurns.{FileLies, lies_at, slot_in}
use Rattle.cbm_volume.proofs.layouts.OneSlot.{with_file, blocks_here}
use Rattle.cbm_volume.proofs.layouts.Steps.{IsTaken}
use Rattle.cbm_volume.proofs.grown.SideTurns.{side_waits, side_still_waits, first_linked, side_joined}
use Rattle.cbm_volume.proofs.relative.Added.{Added, sided, stands_added}
use Rattle.cbm_volume.proofs.relative.Named.{named_push}

-- a new side sector lists one block
pub new_lists : (head : List ℕ) (k w : ℕ) (q t : Place) (new : List ℕ) → IsNewSide head k w q t new → q.track ≢ 0 → named_in 120 (drop 16 new) ≡ q ∷ []
new_lists head k w q t new h some = named_push 120 0 [] (drop 16 new) q refl (omega arith) some (λ i l. absurd (omega (arith, l)))
    (get_or-drop 16 new 0 0 ∙ h.track) (get_or-drop 16 new 1 0 ∙ h.sector) (λ l. get_or-drop 16 new 2 0 ∙ h.zeros 18 (omega arith))

module _ (medium : ℕ) (c0 : Content) (d : Disk) (uses : ℕ → Use) (n w b s : ℕ) (rs : List (List ℕ)) (o : HasRecordsOpen medium c0 d uses n w b s rs) where
  abbrev pub tracks : ℕ
  tracks = geometry_of medium c0

  abbrev pub At : Content → Layout → List (List ℕ) → ℕ → ℕ → ℕ → Type 0
  At c l rs1 b1 s1 free = Stage medium c0 o.holds.layout d uses n o.file w c l rs1 b1 s1 free

  pub side_stage : (r : Relative) (c : Content) (b1 s1 : ℕ) (q t : Place) → (g : HasSide medium c0 d uses n w b s rs o r c b1 s1 q t) → At c g.layout (filled_up w (b1 + 1) rs) (b1 + 1) s1 (d.free - (b1 + 1 + (s1 + 1) - (b + s)))
  side_stage r c b1 s1 q t g = record { holds = g.holds; same = g.same; count = g.count; aside = g.aside }

  -- ---- THE NEW SIDE SECTOR IS CLAIMED AND WRITTEN
  pub side_begun : (r : Relative) (c c' : Content) (b1 s1 : ℕ) (q t : Place) (head : List ℕ) → HasLonger medium c0 d uses n w b s rs o r c b1 s1 q → q.track ≢ 0 → IsSideBegun tracks c c' head s1 w q t → HasSide medium c0 d uses n w b s rs o r c' b1 s1 q t
  side_begun r c c' b1 s1 q t head g some k =
      let l : Layout = g.layout in
      let rs2 : List (List ℕ) = filled_up w (b1 + 1) rs in
      let free : ℕ = d.free - (b1 + 1 + s1 - (b + s)) in
      let less : free - 1 ≡ d.free - (b1 + 1 + (s1 + 1) - (b + s)) = omega (arith, g.more.0, g.more.1) in
      let at0 : At c l rs2 (b1 + 1) s1 free = longer_stage medium c0 d uses n w b s rs o r c b1 s1 q g in
      let there : n < slot_count l = slot_in medium c0 d uses n w b s rs o c l rs2 (b1 + 1) s1 free at0 in
      let wait = side_waits medium c0 d uses n w b s rs o c k.one c' l rs2 (b1 + 1) s1 free t k.side at0 k.claims k.written in
      let at2 : At c' l rs2 (b1 + 1) s1 (d.free - (b1 + 1 + (s1 + 1) - (b + s))) = subst (λ (m : ℕ). At c' l rs2 (b1 + 1) s1 m) less wait.stage in
      record {
        layout = l;
        holds = at2.holds;
        same = at2.same;
        count = at2.count;
        file = g.file ∙ ap (λ (e : List ℕ). record { first = first_block e; side = first_side e; width = w }) (sym wait.entry);
        blocks = g.blocks;
        all = g.all;
        number = g.number;
        listed = wait.listed g.blocks g.listed;
        full = ap (λ (ys : List ℕ). length ys) (bytes_kept c c' l.owner (DataOf n) wait.data_kept (l.files n).data_blocks (at0.holds.stands.sound.owned.blocks n there)) ∙ g.full;
        more = g.more;
        aside = at2.aside;
        side_has = wait.taken.has;
        side_off = wait.taken.off_18;
        side_nobody = wait.taken.nobody;
        side_taken = wait.taken.taken;
        side = k.side;
        side_holds = wait.holds;
        side_number = k.is_new.number;
        side_width = k.is_new.width;
        side_lists = new_lists head s1 w q t k.side k.is_new some;
      }

  side_taken : (r : Relative) (c : Content) (b1 s1 : ℕ) (q t : Place) → (g : HasSide medium c0 d uses n w b s rs o r c b1 s1 q t) → IsTaken tracks c g.layout t
  side_taken r c b1 s1 q t g = record { has = g.side_has; off_18 = g.side_off; nobody = g.side_nobody; taken = g.side_taken }

  -- ---- A SIDE SECTOR BUT THE FIRST GETS IT INTO ITS LIST
  pub side_copied : (r : Relative) (c c' : Content) (b1 s1 i : ℕ) (q t : Place) (head : List ℕ) → HasSide medium c0 d uses n w b s rs o r c b1 s1 q t → 0 < i → i < s1 → c r.side ≡ Ok head → IsSideLinked c c' (listed_side head i) i s1 t
      → HasSide medium c0 d uses n w b s rs o r c' b1 s1 q t
  side_copied r c c' b1 s1 i q t head g some few holds k =
      let l : Layout = g.layout in
      let x : Blocks = l.files n in
      let rs2 : List (List ℕ) = filled_up w (b1 + 1) rs in
      let free : ℕ = d.free - (b1 + 1 + (s1 + 1) - (b + s)) in
      let at0 : At c l rs2 (b1 + 1) s1 free = side_stage r c b1 s1 q t g in
      let there : n < slot_count l = slot_in medium c0 d uses n w b s rs o c l rs2 (b1 + 1) s1 free at0 in
      let wait = side_still_waits medium c0 d uses n w b s rs o c c' l rs2 (b1 + 1) s1 free i t head g.side at0 (side_taken r c b1 s1 q t g) g.side_holds (ap (λ (y : Relative). c y.side) (sym g.file) ∙ holds) some few k in
      let here : (with_file l n x l.owner).files n ≡ x = blocks_here l.files n x in
      record {
        layout = with_file l n x l.owner;
        holds = wait.stage.holds;
        same = wait.stage.same;
        count = wait.stage.count;
        file = g.file ∙ ap (λ (y : List ℕ). record { first = first_block y; side = first_side y; width = w }) (sym wait.entry);
        blocks = g.blocks;
        all = ap (λ (y : Blocks). y.data_blocks) here ∙ g.all;
        number = g.number;
        listed = wait.listed g.blocks (subst (λ (y : Blocks). IsListed c y.sides g.blocks) (sym here) g.listed);
        full = ap (λ (y : Blocks). length (chain_bytes c' y.data_blocks)) here ∙ ap (λ (ys : List ℕ). length ys) (bytes_kept c c' l.owner (DataOf n) wait.data_kept x.data_blocks (at0.holds.stands.sound.owned.blocks n there)) ∙ g.full;
        more = g.more;
        aside = wait.stage.aside;
        side_has = g.side_has;
        side_off = g.side_off;
        side_nobody = g.side_nobody;
        side_taken = wait.taken.taken;
        side = g.side;
        side_holds = wait.holds;
        side_number = g.side_number;
        side_width = g.side_width;
        side_lists = g.side_lists;
      }

  -- ---- THE FIRST SIDE SECTOR GETS IT INTO ITS LIST: the file has it
  pub side_added : (r : Relative) (c c' : Content) (b1 s1 : ℕ) (q t : Place) (head : List ℕ) → HasSide medium c0 d uses n w b s rs o r c b1 s1 q t → b1 ≡ 120 * s1 → s1 < 6 → c r.side ≡ Ok head → IsSideLinked c c' (listed_side head 0) 0 s1 t
      → HasGrown medium c0 d uses n w b s rs o r c' (b1 + 1) (s1 + 1) q
  side_added r c c' b1 s1 q t head g whole few holds k =
      let l : Layout = g.layout in
      let x : Blocks = l.files n in
      let e : List ℕ = entry_at c l.directory n in
      let rs2 : List (List ℕ) = filled_up w (b1 + 1) rs in
      let free : ℕ = d.free - (b1 + 1 + (s1 + 1) - (b + s)) in
      let at0 : At c l rs2 (b1 + 1) s1 free = side_stage r c b1 s1 q t g in
      let there : n < slot_count l = slot_in medium c0 d uses n w b s rs o c l rs2 (b1 + 1) s1 free at0 in
      let lies : FileLies tracks c l n w rs2 (b1 + 1) s1 = lies_at medium c0 d uses n w b s rs o c l rs2 (b1 + 1) s1 free at0 in
      let some : t.track ≢ 0 = λ z. (let h = g.side_has in omega (arith, z, h.0)) in
      let link = first_linked medium c0 d uses n w b s rs o c c' l rs2 (b1 + 1) s1 free t head at0 some (ap (λ (y : Relative). c y.side) (sym g.file) ∙ holds) few k in
      let add : Added tracks c' l (disk_with d n o.file w rs2 (b1 + 1) s1 free) n e t = stands_added tracks c c' l (disk_with d n o.file w rs2 (b1 + 1) s1 free) n g.blocks q t g.side link.more at0.holds.stands there (record {
        closed = lies.closed;
        relative = lies.relative;
        blocks = g.all;
        listed = g.listed;
        full = omega (arith, g.number, whole, lies.sides);
        taken = side_taken r c b1 s1 q t g;
        holds = g.side_holds;
        its_number = g.side_number ∙ lies.sides;
        its_length = g.side_width ∙ lies.width;
        its_list = g.side_lists;
        number = link.number;
        length_kept = link.width;
        list = link.list;
        blocks_kept = link.blocks;
        written = link.write;
      }) in
      let done = side_joined medium c0 d uses n w b s rs o c c' l rs2 (b1 + 1) s1 free t at0 g.side_nobody link add.stands in
      let here : (with_file l n (sided x t) (own l.owner t (SideOf n))).files n ≡ sided x t = blocks_here l.files n (sided x t) in
      let index : b1 + 1 - 1 ≡ length g.blocks = omega (arith, g.number) in
      record {
        layout = with_file l n (sided x t) (own l.owner t (SideOf n));
        holds = done.stage.holds;
        same = done.stage.same;
        count = done.stage.count;
        file = g.file ∙ ap (λ (y : List ℕ). record { first = first_block y; side = first_side y; width = w }) (sym done.entry);
        listed = subst (λ (y : Blocks). IsListed c' y.sides y.data_blocks) (sym here) add.listed;
        full = ap (λ (y : Blocks). length (chain_bytes c' y.data_blocks)) here ∙ ap (λ (ys : List ℕ). length ys) done.bytes ∙ g.full;
        last_is = (λ i. get_or (here i).data_blocks (index i) directory_head) ∙ ap (λ (ys : List Place). get_or ys (length g.blocks) directory_head) g.all ∙ get_or_at g.blocks q [] directory_head (length g.blocks) refl;
        more = (omega (arith, g.more.0), omega (arith, g.more.1));
        aside = done.stage.aside;
      }
