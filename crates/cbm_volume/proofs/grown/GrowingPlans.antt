-- What a growth needs is found out: the file of a slot whose records are open, and how far it reaches.
use Rattle.std.proofs.Common.{◌≡◌, ◌≢◌, ◌⊎◌, ℕ, ◌≤◌, List, length, true, false, Ok, sym, ap, subst, ◌∙◌, arith, inl, inr}
use Rattle.cbm_medium.specs.Place.{Place, Has, sector_count}
use Rattle.cbm_medium.specs.Content.{Cell, Content}
use Rattle.cbm_medium.specs.Links.{Chain, or_nothing}
use Rattle.cbm_file.specs.Files.{Disk}
use Rattle.cbm_file.specs.Records.{blocks_for}
use Rattle.cbm_bam.specs.Map.{geometry_of}
use Rattle.cbm_directory.specs.Entries.{entry_at, first_block, first_side, width_of}
use Rattle.cbm_relfile.specs.Records.{Relative}
use Rattle.cbm_relfile.specs.SideSectors.{sides_following, sides_listed}
use Rattle.cbm_relfile.proofs.Counted.{after_all_of}
use Rattle.cbm_volume.specs.Growth.{IsTooLarge}
use Rattle.cbm_volume.specs.Growing.{IsPlanned, is_too_large}
use Rattle.cbm_volume.specs.Layouts.{Layout}
use Rattle.cbm_volume.specs.RecordWrites.{HasRecordsOpen}
use Rattle.cbm_volume.specs.Writers.{Use}
use Rattle.cbm_volume.proofs.grown.GrowingAnswers.{FirstSide, first_reads}
use Rattle.cbm_volume.proofs.grown.GrowingTurns.{FileLies, file_lies}
use Rattle.cbm_volume.proofs.layouts.Lengths.{file_length}
use Rattle.cbm_volume.proofs.layouts.Listing.{geometry_size}
use Rattle.cbm_volume.proofs.records_made.RecordsPut.{IsWrittenAt}
use Rattle.cbm_volume.specs.RecordFaults.{relative_of}

-- what the call that counts blocks and side sectors says, of each chain and each first side sector
abbrev pub CountsBy : ℕ → Content → Relative → (ℕ → ℕ → Type 0) → Type 0
CountsBy geometry c file says = (blocks : List Place) (head : List ℕ) → Chain geometry c file.first blocks → length blocks ≤ sector_count geometry → Has geometry file.side → c file.side ≡ Ok head → says (length blocks) (length (sides_following 0 head))

module _ (medium : ℕ) (c : Content) (d : Disk) (uses : ℕ → Use) (n w b s : ℕ) (rs : List (List ℕ)) (o : HasRecordsOpen medium c d uses n w b s rs) (geometry : ℕ) (file : Relative) (entry : List ℕ)
    (same : geometry ≡ geometry_of medium c) (is : file ≡ relative_of entry) (at : IsWrittenAt (geometry_of medium c) c o.holds.layout d n o.file w b s rs entry) where
  abbrev tracks : ℕ
  tracks = geometry_of medium c

  abbrev l : Layout
  l = o.holds.layout

  abbrev e : List ℕ
  e = entry_at c o.holds.layout.directory n

  lies : FileLies tracks c l n w rs b s
  lies = file_lies tracks c l d n o.file w b s rs o.holds.so.stands at.there o.in_slot o.body

  named : file ≡ relative_of e
  named = is ∙ ap relative_of at.entry_is

  -- THE FILE HAS SO MANY BLOCKS AND SIDE SECTORS
  pub counted : (says : ℕ → ℕ → Type 0) → CountsBy geometry c file says → says b s
  counted says k =
      let first : FirstSide tracks c (first_side e) = first_reads tracks c l n w rs b s lies in
      let sides : length (sides_following 0 first.reads.bytes) ≡ s = ap (λ (ys : List Place). length ys) (after_all_of first.reads.bytes ∙ ap (λ (x : Cell). sides_listed (or_nothing x)) (sym first.reads.is) ∙ sym lies.records.listed) ∙ sym lies.sides in
      let here = subst (λ (m : ℕ). CountsBy m c file says) same k in
      let there = subst (λ (r : Relative). CountsBy tracks c r says) named here in
      let answer = there (l.files n).data_blocks first.reads.bytes lies.chain (file_length tracks c l n (first_block e) (l.files n).data_blocks (geometry_size medium c) o.holds.so.stands.sound lies.chain (o.holds.so.stands.sound.owned.blocks n at.there)) first.has first.reads.is in
      subst (λ (m : ℕ). says b m) sides (subst (λ (m : ℕ). says m (length (sides_following 0 first.reads.bytes))) (sym lies.blocks) answer)

  width_is : file.width ≡ w
  width_is = ap (λ (r : Relative). r.width) named ∙ sym at.width

  -- a record has 1 to 254 bytes, and the file has a block
  pub good_width : (size : ℕ) → size ≡ width_of entry → (size ≡ 0) ⊎ ((size ≢ 0) × (size ≡ 255)) → ⊥
  good_width size z (inl zero) = omega (arith, z, ap width_of at.entry_is, at.some, zero)
  good_width size z (inr (ne, top)) = omega (arith, z, ap width_of at.entry_is, at.most, top)

  same_test : (size blocks sides free k : ℕ) → size ≡ width_of entry → blocks ≡ b → sides ≡ s → free ≡ d.free → is_too_large free size blocks sides k ≡ is_too_large d.free w b s k
  same_test size blocks sides free k z bs ss f = λ i. is_too_large (f i) ((z ∙ ap width_of at.entry_is ∙ sym at.width) i) (bs i) (ss i) k

  pub too_large : (size blocks sides free k : ℕ) → size ≡ width_of entry → (blocks ≡ b) × (sides ≡ s) → free ≡ d.free → is_too_large free size blocks sides k ≡ true → IsTooLarge d w b s k
  too_large size blocks sides free k z (bs, ss) f h = sym (same_test size blocks sides free k z bs ss f) ∙ h

  pub no_block : (blocks sides : ℕ) → (blocks ≡ b) × (sides ≡ s) → blocks ≡ 0 → ⊥
  no_block blocks sides (bs, ss) z = omega (arith, z, bs, lies.blocks, lies.records.some_block)

  pub is_planned : (size blocks sides free k goal : ℕ) → size ≡ width_of entry → (blocks ≡ b) × (sides ≡ s) → free ≡ d.free → (goal ≡ blocks_for size blocks k) × (is_too_large free size blocks sides k ≡ false)
      → IsPlanned medium c d uses n w b s rs o k file blocks sides goal
  is_planned size blocks sides free k goal z (bs, ss) f (g, h) = record {
    file = named ∙ (λ i. record { first = first_block e; side = first_side e; width = sym at.width i });
    blocks_are = bs;
    sides_are = ss;
    goal_is = g ∙ (λ i. blocks_for ((z ∙ ap width_of at.entry_is ∙ sym at.width) i) (bs i) k);
    fits = sym (same_test size blocks sides free k z bs ss f) ∙ h;
  }
