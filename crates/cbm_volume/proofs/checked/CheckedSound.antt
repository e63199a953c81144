-- What `check` claims is a sound disk, and on a sound disk it meets no fault.
use Rattle.std.proofs.Common.{◌≡◌, ◌≢◌, ◌⊎◌, ℕ, ◌≤◌, List, [], ◌∷◌, ◌++◌, Bool, true, false, Option, Some, None, Ok, Err, refl, sym, ap, ◌∙◌, subst, arith, inl, inr}
use Rattle.std.specs.Prelude.{IsOk, Result, IfErr}
use Rattle.cbm_medium.specs.Place.{Place, Has, directory_head}
use Rattle.cbm_medium.specs.Content.{Cell, Content}
use Rattle.cbm_medium.specs.Links.{Chain, bytes_at, link}
use Rattle.cbm_bam.specs.Map.{with_bit, geometry_of}
use Rattle.cbm_directory.specs.Entries.{is_closed, is_relative, first_block, first_side, first_directory}
use Rattle.cbm_directory.specs.Slots.{entries_from, all_entries}
use Rattle.cbm_volume.specs.Blocks.{Blocks, no_blocks, HasRecords}
use Rattle.cbm_volume.specs.Layouts.{Layout, Sound, IsCellWritable}
use Rattle.cbm_volume.specs.check.SlotWalk as checked
use Rattle.cbm_volume.specs.check.Claims.{reads, wrong_at, ClaimsChain, MeetsFault}
use Rattle.cbm_volume.specs.check.SideLists.{ClaimsEach, MeetsAmong, sides_from, are_records, SidesFault}
use Rattle.cbm_volume.specs.check.SlotWalk.{RelativeFault, ClaimsFile, FileFault, ClaimsEntry, EntryFault, ClaimsEntries, EntriesFault, entries_after, entries_in, SlotsFault}
use Rattle.cbm_volume.specs.check.MapCounts.{IsMapRight, IsMapFault}
use Rattle.cbm_volume.specs.check.Headers.{is_bad_header}
use Rattle.cbm_volume.specs.check.WholeDisk.{only_head, ClaimsDisk, ClaimsInto, DiskFault}
use Rattle.cbm_volume.specs.declared.check.unsound.Part.{Part}
use Rattle.cbm_volume.specs.declared.check.unsound.Part.TheVariants.{OfDirectory, OfFile}
use Rattle.cbm_volume.specs.declared.check.unsound.Unsound.{Unsound}
use Rattle.cbm_volume.proofs.checked.Claimed.{head_claimed, ClaimsAs, ClaimsSlot, ClaimsSlots, IsClaimedOnce}
use Rattle.cbm_volume.proofs.checked.ClaimedSound.{is_right, inside_has, claims_chain, claimed_sound}
use Rattle.cbm_volume.proofs.checked.SoundClaimed.{sound_claimed}
use Rattle.cbm_volume.proofs.layouts.Listing.{geometry_size}
use Rattle.cbm_volume.proofs.checked.RecordsChecked.{records_right, records_pass}

some_none : {A : Type 0} (x : A) (o : Option A) → o ≡ Some x → o ≡ None → ⊥
some_none x o h g = let bad = sym h ∙ g in absurd (cc)

on_disk : (part : Part) (tracks : ℕ) (c : Content) (claimed : Place → Bool) (a : Place) → wrong_at part tracks c claimed a ≡ None → a.track ≡ 0 → ⊥
on_disk part tracks c claimed a h z = let has_a = inside_has part tracks a (is_right part tracks c claimed a h).inside in omega (arith, has_a.0, z)

-- ---- chains: one walk from each place

pub chain_same : (part : Part) (tracks : ℕ) (c : Content) (claimed : Place → Bool) (a : Place) (xs ys : List Place) (x y : Place → Bool) → ClaimsChain part tracks c claimed a xs x → ClaimsChain part tracks c claimed a ys y
    → (xs ≡ ys) × (x ≡ y)
chain_same part tracks c claimed a [] [] x y h g = (refl, h.1 ∙ sym g.1)
chain_same part tracks c claimed a [] (b ∷ ys) x y h g = absurd (on_disk part tracks c claimed b g.1 (ap (λ (p : Place). p.track) (sym g.0) ∙ h.0))
chain_same part tracks c claimed a (b ∷ xs) [] x y h g = absurd (on_disk part tracks c claimed b h.1 (ap (λ (p : Place). p.track) (sym h.0) ∙ g.0))
chain_same part tracks c claimed a (b ∷ xs) (d ∷ ys) x y h g =
    let same : d ≡ b = sym g.0 ∙ h.0 in
    let rest = chain_same part tracks c (with_bit claimed b true) (link (bytes_at c b)) xs ys x y h.2
    (subst (λ (p : Place). ClaimsChain part tracks c (with_bit claimed p true) (link (bytes_at c p)) ys y) same g.2) in
    ((λ i. sym same i ∷ rest.0 i), rest.1)

pub chain_clean : (part : Part) (tracks : ℕ) (c : Content) (claimed : Place → Bool) (a : Place) (xs ys : List Place) (after : Place → Bool) (u : Unsound) → ClaimsChain part tracks c claimed a xs after → MeetsFault part tracks c claimed a ys u → ⊥
chain_clean part tracks c claimed a [] [] after u h g = g.0 h.0
chain_clean part tracks c claimed a (b ∷ xs) [] after u h g = some_none u.number (wrong_at part tracks c claimed a) g.1 (ap (wrong_at part tracks c claimed) h.0 ∙ h.1)
chain_clean part tracks c claimed a [] (d ∷ ys) after u h g = on_disk part tracks c claimed d g.1 (ap (λ (p : Place). p.track) (sym g.0) ∙ h.0)
chain_clean part tracks c claimed a (b ∷ xs) (d ∷ ys) after u h g =
    let same : d ≡ b = sym g.0 ∙ h.0 in
    chain_clean part tracks c (with_bit claimed b true) (link (bytes_at c b)) xs ys after u h.2
    (subst (λ (p : Place). MeetsFault part tracks c (with_bit claimed p true) (link (bytes_at c p)) ys u) same g.2)

each_same : (part : Part) (tracks : ℕ) (c : Content) (claimed : Place → Bool) (ps : List Place) (x y : Place → Bool) → ClaimsEach part tracks c claimed ps x → ClaimsEach part tracks c claimed ps y → x ≡ y
each_same part tracks c claimed [] x y h g = h ∙ sym g
each_same part tracks c claimed (p ∷ ps) x y h g = each_same part tracks c (with_bit claimed p true) ps x y h.1 g.1

each_clean : (part : Part) (tracks : ℕ) (c : Content) (claimed : Place → Bool) (ps : List Place) (after : Place → Bool) (u : Unsound) → ClaimsEach part tracks c claimed ps after → MeetsAmong part tracks c claimed ps u → ⊥
each_clean part tracks c claimed [] after u h g = g
each_clean part tracks c claimed (p ∷ ps) after u h (inl g) = some_none u.number (wrong_at part tracks c claimed p) g.0 h.0
each_clean part tracks c claimed (p ∷ ps) after u h (inr g) = each_clean part tracks c (with_bit claimed p true) ps after u h.1 g.1

-- ---- files

file_claimed : (closed relative : Bool) (tracks : ℕ) (c : Content) (claimed : Place → Bool) (e : List ℕ) (after : Place → Bool) → ClaimsFile closed relative tracks c claimed e after
    → (b : Blocks) × ClaimsAs closed relative tracks c claimed e b after
file_claimed false r tracks c claimed e after h = (no_blocks, (refl, h))
file_claimed true false tracks c claimed e after h = (record { data_blocks = h.0; sides = [] }, (h.1, refl))
file_claimed true true tracks c claimed e after h =
    let between : Place → Bool = h.1.1.0 in
    let chain = claims_chain OfFile tracks c claimed (first_block e) h.1.0 between h.1.1.1.0 in (
      record { data_blocks = h.1.0; sides = sides_from c (first_side e) },
      (between, h.1.1.1.0, h.1.1.1.1.0, records_right tracks c between after e h.1.0 h.0 chain h.1.1.1.1.0 h.1.1.1.1.1),
    )

-- the side sectors that the test claims are those of the file
sides_as : (tracks : ℕ) (c : Content) (claimed after : Place → Bool) (e : List ℕ) (b : Blocks) → Chain tracks c (first_block e) b.data_blocks → ClaimsEach OfFile tracks c claimed b.sides after → HasRecords tracks c e b
    → ClaimsEach OfFile tracks c claimed (sides_from c (first_side e)) after × (are_records tracks c e ≡ true) × ((first_block e).track ≢ 0)
sides_as tracks c claimed after e b h k r =
    let x = records_pass tracks c e b h r in
    (subst (λ (ys : List Place). ClaimsEach OfFile tracks c claimed ys after) (sym x.0) k, x.1, x.2)

file_same : (closed relative : Bool) (tracks : ℕ) (c : Content) (claimed : Place → Bool) (e : List ℕ) (b : Blocks) (x y : Place → Bool) → ClaimsAs closed relative tracks c claimed e b x
    → ClaimsFile closed relative tracks c claimed e y → x ≡ y
file_same false r tracks c claimed e b x y h g = h.1 ∙ sym g
file_same true false tracks c claimed e b x y h g = (chain_same OfFile tracks c claimed (first_block e) b.data_blocks g.0 x y h.0 g.1).1
file_same true true tracks c claimed e b x y h g =
    let middle : Place → Bool = h.0 in
    let chain = chain_same OfFile tracks c claimed (first_block e) b.data_blocks g.1.0 middle g.1.1.0 h.1 g.1.1.1.0 in
    let sides = sides_as tracks c middle x e b (claims_chain OfFile tracks c claimed (first_block e) b.data_blocks middle h.1) h.2 h.3 in
    each_same OfFile tracks c middle (sides_from c (first_side e)) x y sides.0
    (subst (λ (m : Place → Bool). ClaimsEach OfFile tracks c m (sides_from c (first_side e)) y) (sym chain.1) g.1.1.1.1.0)

relative_clean : (tracks : ℕ) (c : Content) (claimed : Place → Bool) (e : List ℕ) (b : Blocks) (after : Place → Bool) (u : Unsound) → ClaimsAs true true tracks c claimed e b after
    → RelativeFault tracks c claimed e u → ⊥
relative_clean tracks c claimed e b after u h (inl g) = chain_clean OfFile tracks c claimed (first_block e) b.data_blocks g.0 h.0 u h.1 g.1
relative_clean tracks c claimed e b after u h (inr g) =
    let middle : Place → Bool = h.0 in
    let chain = chain_same OfFile tracks c claimed (first_block e) b.data_blocks g.0 middle g.1.0 h.1 g.1.1.0 in
    let sides = sides_as tracks c middle after e b (claims_chain OfFile tracks c claimed (first_block e) b.data_blocks middle h.1) h.2 h.3 in
    by_fault middle sides.0 sides.1 (subst (λ (m : Place → Bool). SidesFault tracks c m e u) (sym chain.1) g.1.1.1)
  where
    by_fault : (m : Place → Bool) → ClaimsEach OfFile tracks c m (sides_from c (first_side e)) after → are_records tracks c e ≡ true → SidesFault tracks c m e u → ⊥
    by_fault m k t (inl f) = each_clean OfFile tracks c m (sides_from c (first_side e)) after u k f
    by_fault m k t (inr f) = let bad = sym t ∙ f.1.1 in absurd (cc)

file_clean : (closed relative : Bool) (tracks : ℕ) (c : Content) (claimed : Place → Bool) (e : List ℕ) (b : Blocks) (after : Place → Bool) (u : Unsound) → ClaimsAs closed relative tracks c claimed e b after
    → FileFault closed relative tracks c claimed e u → ⊥
file_clean false r tracks c claimed e b after u h g = g
file_clean true false tracks c claimed e b after u h g = chain_clean OfFile tracks c claimed (first_block e) b.data_blocks g.0 after u h.0 g.1
file_clean true true tracks c claimed e b after u h (inl g) = (sides_as tracks c h.0 after e b (claims_chain OfFile tracks c claimed (first_block e) b.data_blocks h.0 h.1) h.2 h.3).2 g.0
file_clean true true tracks c claimed e b after u h (inr g) = relative_clean tracks c claimed e b after u h g.1

-- ---- entries

-- the slots of some entries, and of those after them
slots_join : (tracks : ℕ) (c : Content) (claimed : Place → Bool) (es fs : List (List ℕ)) (bs ds : List Blocks) (middle after : Place → Bool) → ClaimsSlots tracks c claimed es bs middle → ClaimsSlots tracks c middle fs ds after
    → ClaimsSlots tracks c claimed (es ++ fs) (bs ++ ds) after
slots_join tracks c claimed [] fs [] ds middle after h g = subst (λ (m : Place → Bool). ClaimsSlots tracks c m fs ds after) h g
slots_join tracks c claimed [] fs (b ∷ bs) ds middle after h g = absurd h
slots_join tracks c claimed (e ∷ es) fs [] ds middle after h g = absurd h
slots_join tracks c claimed (e ∷ es) fs (b ∷ bs) ds middle after h g = (h.0, h.1, slots_join tracks c h.0 es fs bs ds middle after h.2 g)

entries_claimed : (tracks : ℕ) (c : Content) (claimed : Place → Bool) (es : List (List ℕ)) (after : Place → Bool) → ClaimsEntries tracks c claimed es after → (bs : List Blocks) × ClaimsSlots tracks c claimed es bs after
entries_claimed tracks c claimed [] after h = ([], h)
entries_claimed tracks c claimed (e ∷ es) after h =
    let file = file_claimed (is_closed e) (is_relative e) tracks c claimed e h.0 h.1.0.1 in
    let rest = entries_claimed tracks c h.0 es after h.1.1 in
    (file.0 ∷ rest.0, (h.0, (h.1.0.0, file.1), rest.1))

-- the slots of these entries are the same as those that were claimed, and others follow
pub record Parted (tracks : ℕ) (c : Content) (claimed between : Place → Bool) (fs : List (List ℕ)) (after : Place → Bool) : Type 0 where
  pub blocks : List Blocks
  pub rest : ClaimsSlots tracks c between fs blocks after

entries_parted : (tracks : ℕ) (c : Content) (claimed : Place → Bool) (es fs : List (List ℕ)) (bs : List Blocks) (between after : Place → Bool) → ClaimsSlots tracks c claimed (es ++ fs) bs after
    → ClaimsEntries tracks c claimed es between → Parted tracks c claimed between fs after
entries_parted tracks c claimed [] fs bs between after h g = record { blocks = bs; rest = subst (λ (m : Place → Bool). ClaimsSlots tracks c m fs bs after) (sym g) h }
entries_parted tracks c claimed (e ∷ es) fs [] between after h g = absurd h
entries_parted tracks c claimed (e ∷ es) fs (b ∷ bs) between after h g =
    let same = file_same (is_closed e) (is_relative e) tracks c claimed e b h.0 g.0 h.1.1 g.1.0.1 in
    let rest = entries_parted tracks c h.0 es fs bs between after h.2 (subst (λ (m : Place → Bool). ClaimsEntries tracks c m es between) (sym same) g.1.1) in
    record { blocks = rest.blocks; rest = rest.rest }

entry_clean : (tracks : ℕ) (c : Content) (claimed : Place → Bool) (sector : Place) (e : List ℕ) (b : Blocks) (after : Place → Bool) (u : Unsound) → ClaimsSlot tracks c claimed e b after → EntryFault tracks c claimed sector e u → ⊥
entry_clean tracks c claimed sector e b after u h (inl g) = omega (arith, h.0, g.0)
entry_clean tracks c claimed sector e b after u h (inr g) = file_clean (is_closed e) (is_relative e) tracks c claimed e b after u h.1 g.1

entries_clean : (tracks : ℕ) (c : Content) (claimed : Place → Bool) (sector : Place) (es fs : List (List ℕ)) (bs : List Blocks) (after : Place → Bool) (u : Unsound) → ClaimsSlots tracks c claimed (es ++ fs) bs after
    → EntriesFault tracks c claimed sector es u → ⊥
entries_clean tracks c claimed sector [] fs bs after u h g = g
entries_clean tracks c claimed sector (e ∷ es) fs [] after u h g = h
entries_clean tracks c claimed sector (e ∷ es) fs (b ∷ bs) after u h (inl g) = entry_clean tracks c claimed sector e b h.0 u h.1 g
entries_clean tracks c claimed sector (e ∷ es) fs (b ∷ bs) after u h (inr g) =
    let same = file_same (is_closed e) (is_relative e) tracks c claimed e b h.0 g.0 h.1.1 g.1.0.1 in
    entries_clean tracks c h.0 sector es fs bs after u h.2 (subst (λ (m : Place → Bool). EntriesFault tracks c m sector es u) (sym same) g.1.1)

-- ---- the sectors of the directory

eight : (sector : List ℕ) → entries_in sector ≡ entries_from 8 sector 0
unfolding entries_after
eight sector = refl

slots_claimed : (tracks : ℕ) (c : Content) (met claimed : Place → Bool) (a : Place) (xs : List Place) (after : Place → Bool) → checked.ClaimsSlots tracks c met claimed a xs after
    → (bs : List Blocks) × ClaimsSlots tracks c claimed (all_entries c xs) bs after
slots_claimed tracks c met claimed a [] after h = ([], h.1)
slots_claimed tracks c met claimed a (b ∷ xs) after h =
    let between : Place → Bool = h.2.0 in
    let here = entries_claimed tracks c claimed (entries_in (bytes_at c b)) between h.2.1.0 in
    let rest = slots_claimed tracks c (with_bit met b true) between (link (bytes_at c b)) xs after h.2.1.1 in (
      here.0 ++ rest.0,
      slots_join tracks c claimed (entries_from 8 (bytes_at c b) 0) (all_entries c xs) here.0 rest.0 between after
          (subst (λ (es : List (List ℕ)). ClaimsSlots tracks c claimed es here.0 between) (eight (bytes_at c b)) here.1) rest.1,
    )

-- the sectors are met as the directory's chain has them
again_same : (tracks : ℕ) (c : Content) (met claimed : Place → Bool) (a : Place) (xs ys : List Place) (x after : Place → Bool) → ClaimsChain OfDirectory tracks c met a xs x → checked.ClaimsSlots tracks c met claimed a ys after → ys ≡ xs
again_same tracks c met claimed a [] [] x after h g = refl
again_same tracks c met claimed a [] (d ∷ ys) x after h g = absurd (on_disk OfDirectory tracks c met d g.1 (ap (λ (p : Place). p.track) (sym g.0) ∙ h.0))
again_same tracks c met claimed a (b ∷ xs) [] x after h g = absurd (on_disk OfDirectory tracks c met b h.1 (ap (λ (p : Place). p.track) (sym h.0) ∙ g.0))
again_same tracks c met claimed a (b ∷ xs) (d ∷ ys) x after h g =
    let same : d ≡ b = sym g.0 ∙ h.0 in
    let rest = again_same tracks c (with_bit met b true) g.2.0 (link (bytes_at c b)) xs ys x after h.2
    (subst (λ (p : Place). checked.ClaimsSlots tracks c (with_bit met p true) g.2.0 (link (bytes_at c p)) ys after) same g.2.1.1) in
    λ i. same i ∷ rest i

slots_clean : (tracks : ℕ) (c : Content) (met claimed : Place → Bool) (a : Place) (xs ys : List Place) (bs : List Blocks) (x after : Place → Bool) (u : Unsound) → ClaimsChain OfDirectory tracks c met a xs x
    → ClaimsSlots tracks c claimed (all_entries c xs) bs after → SlotsFault tracks c met claimed a ys u → ⊥
slots_clean tracks c met claimed a [] [] bs x after u h k (inl g) = g.0 h.0
slots_clean tracks c met claimed a [] [] bs x after u h k (inr g) = on_disk OfDirectory tracks c met a g.0 h.0
slots_clean tracks c met claimed a (b ∷ xs) [] bs x after u h k (inl g) = some_none u.number (wrong_at OfDirectory tracks c met a) g.1 (ap (wrong_at OfDirectory tracks c met) h.0 ∙ h.1)
slots_clean tracks c met claimed a (b ∷ xs) [] bs x after u h k (inr g) =
    entries_clean tracks c claimed a (entries_from 8 (bytes_at c b) 0) (all_entries c xs) bs after u k
    (subst (λ (es : List (List ℕ)). EntriesFault tracks c claimed a es u) (ap (λ (p : Place). entries_in (bytes_at c p)) h.0 ∙ eight (bytes_at c b)) g.1)
slots_clean tracks c met claimed a [] (d ∷ ys) bs x after u h k g = on_disk OfDirectory tracks c met d g.1 (ap (λ (p : Place). p.track) (sym g.0) ∙ h.0)
slots_clean tracks c met claimed a (b ∷ xs) (d ∷ ys) bs x after u h k g =
    let same : d ≡ b = sym g.0 ∙ h.0 in
    let between : Place → Bool = g.2.0 in
    let part = entries_parted tracks c claimed (entries_from 8 (bytes_at c b) 0) (all_entries c xs) bs between after k
    (subst (λ (es : List (List ℕ)). ClaimsEntries tracks c claimed es between) (ap (λ (p : Place). entries_in (bytes_at c p)) same ∙ eight (bytes_at c b)) g.2.1.0) in
    slots_clean tracks c (with_bit met b true) between (link (bytes_at c b)) xs ys part.blocks x after u h.2 part.rest
    (subst (λ (p : Place). SlotsFault tracks c (with_bit met p true) between (link (bytes_at c p)) ys u) same g.2.1.1)

-- ---- the disk

-- what was claimed, with the blocks of each file
pub checked_once : (tracks : ℕ) (c : Content) (k : ClaimsDisk tracks c) → (once : IsClaimedOnce tracks c) × (once.after ≡ k.after)
checked_once tracks c k =
    let same = again_same tracks c only_head k.between first_directory k.sectors k.again k.between k.after k.directory k.slots in
    let slots = slots_claimed tracks c only_head k.between first_directory k.again k.after k.slots in (
      record {
        writable = k.writable;
        map = k.map;
        directory = k.sectors;
        files = slots.0;
        middle = k.between;
        after = k.after;
        directory_claimed = k.directory;
        files_claimed = subst (λ (xs : List Place). ClaimsSlots tracks c k.between (all_entries c xs) slots.0 k.after) same slots.1;
      },
      refl,
    )

-- WHAT IS CLAIMED IS A SOUND DISK
pub checked_sound : (tracks : ℕ) (c : Content) → ClaimsDisk tracks c → (l : Layout) × Sound tracks c l
checked_sound tracks c k = claimed_sound tracks c (checked_once tracks c k).0

good_header : (cell : Cell) → IsCellWritable cell → is_bad_header cell ≡ true → ⊥
good_header (Ok bytes) h g = absurd (cc)
good_header (Err code) h g = let bad = sym h ∙ g in absurd (cc)

head_reads : (cell : Cell) → IsOk cell → reads cell ≡ false → ⊥
head_reads (Ok bytes) h g = absurd (cc)
head_reads (Err code) h g = absurd (cc)

map_clean : (tracks : ℕ) (c : Content) (u : Unsound) → IsMapRight tracks c → IsMapFault tracks c u → ⊥
map_clean tracks c u k (inl g) = head_reads (c directory_head) k.reads g.1
map_clean tracks c u k (inr (inl g)) = let bad = sym k.taken ∙ g.2 in absurd (cc)
map_clean tracks c u k (inr (inr g)) = let bad = sym (k.counted g.1.0 g.1.2.some g.1.2.few) ∙ g.1.2.miscounted in absurd (cc)

-- ON A SOUND DISK NO FAULT IS MET
pub sound_clean : (tracks : ℕ) (c : Content) (l : Layout) (u : Unsound) → 18 ≤ tracks → Sound tracks c l → DiskFault tracks c u → ⊥
sound_clean tracks c l u wide s f = by_fault (sound_claimed tracks c l s wide) f
  where
    by_fault : IsClaimedOnce tracks c → DiskFault tracks c u → ⊥
    by_fault k (inl g) = good_header (c g.0) (k.writable g.0 g.1.has) g.1.bad
    by_fault k (inr (inl g)) = map_clean tracks c u k.map g.1
    by_fault k (inr (inr (inl g))) = chain_clean OfDirectory tracks c head_claimed first_directory k.directory g.2.0 k.middle u k.directory_claimed g.2.1
    by_fault k (inr (inr (inr g))) =
        let same = chain_same OfDirectory tracks c head_claimed first_directory k.directory g.2.sectors k.middle g.2.between k.directory_claimed g.2.directory in
        slots_clean tracks c head_claimed k.middle first_directory k.directory g.2.again k.files k.middle k.after u k.directory_claimed k.files_claimed
        (subst (λ (m : Place → Bool). SlotsFault tracks c only_head m first_directory g.2.again u) (sym same.1) g.2.fault)

-- ---- what the check answers

-- each step's success is the whole's
pub claims_into : (tracks g : ℕ) (c : Content) (first : Place) (head met between after : Place → Bool) → g ≡ tracks → first ≡ first_directory → head ≡ only_head → met ≡ only_head → ((p : Place) → Has g p → IsCellWritable (c p)) → IsMapRight g c
    → ((xs : List Place) × ClaimsChain OfDirectory g c head first xs between) → ((xs : List Place) × checked.ClaimsSlots g c met between first xs after) → ClaimsInto tracks c after
claims_into tracks g c first head met between after same at h m writable map chain slots = (
  record {
    writable = subst (λ (n : ℕ). (p : Place) → Has n p → IsCellWritable (c p)) same writable;
    map = subst (λ (n : ℕ). IsMapRight n c) same map;
    sectors = chain.0;
    between = between;
    directory = subst (λ (n : ℕ). ClaimsChain OfDirectory n c only_head first_directory chain.0 between) same
        (subst (λ (p : Place). ClaimsChain OfDirectory g c only_head p chain.0 between) at (subst (λ (x : Place → Bool). ClaimsChain OfDirectory g c x first chain.0 between) h chain.1));
    again = slots.0;
    after = after;
    slots = subst (λ (n : ℕ). checked.ClaimsSlots n c only_head between first_directory slots.0 after) same
        (subst (λ (p : Place). checked.ClaimsSlots g c only_head between p slots.0 after) at (subst (λ (x : Place → Bool). checked.ClaimsSlots g c x between first slots.0 after) m slots.1));
  },
  refl,
)

pub ends_exact : (medium : ℕ) (c : Content) (l : Layout) (r : Result (Unit {0}) Unsound) → IfErr r (DiskFault (geometry_of medium c) c) → Sound (geometry_of medium c) c l → IsOk r
ends_exact medium c l (Ok _) h s = refl
ends_exact medium c l (Err u) h s = absurd (sound_clean (geometry_of medium c) c l u (wide (geometry_size medium c)) s h)
  where
    wide : (geometry_of medium c ≡ 35) ⊎ (geometry_of medium c ≡ 40) → 18 ≤ geometry_of medium c
    wide (inl e) = omega (arith, e)
    wide (inr e) = omega (arith, e)
