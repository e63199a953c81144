-- What a directory shows of its entries is another, and the disk stays sound.
use Rattle.std.proofs.Common.{◌≡◌, ◌⊎◌, ℕ, ◌+◌, ◌*◌, ◌-◌, ◌/◌, ◌%◌, ◌<◌, ◌≤◌, List, ◌++◌, length, take, drop, set, get_or, Bool, true, false, Ok, Err, IsOk, refl, sym, ap, subst, ◌∙◌, arith, inl, inr}
use Rattle.std.proofs.lemmas.List.{length-take, length-drop, drop-drop, get_or-set_other}
use Rattle.cbm_medium.specs.Place.{Place}
use Rattle.cbm_medium.specs.Content.{Cell, Content, IsWhole}
use Rattle.cbm_medium.specs.Links.{or_nothing}
use Rattle.cbm_file.specs.Padding.{padded}
use Rattle.cbm_directory.specs.Entries.{entry_of, entry_at, sector_of, type_byte}
use Rattle.cbm_directory.specs.EntryChanges.{renamed_entry}
use Rattle.cbm_directory.proofs.Written.{mid_below, mid_above}
use Rattle.cbm_volume.specs.Blocks.{Lies, no_blocks}
use Rattle.cbm_volume.specs.Layouts.{Layout, slot_count, Sound}
use Rattle.cbm_bam.specs.Map.{geometry_of}
use Rattle.cbm_volume.proofs.layouts.Listing.{entry_found}
use Rattle.cbm_volume.proofs.layouts.Refusals.{sector_reads}
use Rattle.cbm_volume.proofs.written.Storing.{geometry_elsewhere}
use Rattle.cbm_shell.specs.Locking.{locked_entry}
use Rattle.cbm_shell.specs.Art.{art_entry, dressed_entry, HasEntered, IsDressed}
use Rattle.cbm_shell.specs.Images.{IsSoundDisk}
use Rattle.cbm_shell.proofs.EntryLemmas.{LiesAlike, StaysSound, put_sound, stays_sound}
use Rattle.cbm_shell.proofs.LockLemmas.{locked_alike}
use Rattle.cbm_shell.proofs.SlotLemmas.{after_search}
use Rattle.cbm_shell.proofs.TitleLemmas.{padded_length}

-- ---- thirty bytes

entry_long : (bytes : List ℕ) (k : ℕ) → length bytes ≡ 256 → k < 8 → length (entry_of bytes k) ≡ 30
entry_long bytes k l h = length-take (32 * k + 32 - (32 * k + 2)) (drop (32 * k + 2) bytes) ∙ omega (arith, length-drop (32 * k + 2) bytes)

slot_long : (tracks : ℕ) (c : Content) (l : Layout) (n : ℕ) → ((p : Place) → IsWhole (c p)) → Sound tracks c l → n < slot_count l → length (entry_at c l.directory n) ≡ 30
slot_long tracks c l n whole s room = by_cell (c (sector_of l.directory n)) refl (sector_reads tracks c l.directory n s.directory room) (whole (sector_of l.directory n))
  where
    by_cell : (cell : Cell) → c (sector_of l.directory n) ≡ cell → IsOk cell → IsWhole cell → length (entry_at c l.directory n) ≡ 30
    by_cell (Ok bytes) e ok long = ap (λ (x : Cell). length (entry_of (or_nothing x) (n % 8))) e ∙ entry_long bytes (n % 8) long (omega arith)
    by_cell (Err code) e ok long = absurd (cc)

-- ---- another name, another number of blocks, locked or not

-- all but the sixteen bytes of the name is as it was
named_other : (e name : List ℕ) (i : ℕ) → length e ≡ 30 → length name ≤ 16 → (i < 3) ⊎ (19 ≤ i) → get_or (renamed_entry e name) i 0 ≡ get_or e i 0
named_other e name i l short at = ap (λ (x : List ℕ). get_or (take 3 e ++ (padded name ++ x)) i 0) (sym (drop-drop 16 3 e)) ∙ by_place at
  where
    by_place : (i < 3) ⊎ (19 ≤ i) → get_or (take 3 e ++ (padded name ++ drop 16 (drop 3 e))) i 0 ≡ get_or e i 0
    by_place (inl low) = mid_below 3 16 e (padded name) i (omega arith) (padded_length name short) low
    by_place (inr high) = mid_above 3 16 e (padded name) i (omega arith) (padded_length name short) high

named_alike : (e name : List ℕ) → length e ≡ 30 → length name ≤ 16 → LiesAlike e (renamed_entry e name)
named_alike e name l short =
    let at_0 : get_or (renamed_entry e name) 0 0 ≡ get_or e 0 0 = named_other e name 0 l short (inl (omega arith)) in
    let at_1 : get_or (renamed_entry e name) 1 0 ≡ get_or e 1 0 = named_other e name 1 l short (inl (omega arith)) in
    let at_2 : get_or (renamed_entry e name) 2 0 ≡ get_or e 2 0 = named_other e name 2 l short (inl (omega arith)) in
    let at_19 : get_or (renamed_entry e name) 19 0 ≡ get_or e 19 0 = named_other e name 19 l short (inr (omega arith)) in
    let at_20 : get_or (renamed_entry e name) 20 0 ≡ get_or e 20 0 = named_other e name 20 l short (inr (omega arith)) in
    record {
      kind = ap (λ (n : ℕ). n % 16) at_0;
      closed = ap (λ (n : ℕ). n / 128) at_0;
      begins = λ i. record { track = at_1 i; sector = at_2 i };
      lists = λ i. record { track = at_19 i; sector = at_20 i };
      long = named_other e name 21 l short (inr (omega arith));
    }

counted_alike : (e : List ℕ) (low high : ℕ) → LiesAlike e (set (set e 28 low) 29 high)
counted_alike e low high =
    let before : (i : ℕ) → i < 28 → get_or (set (set e 28 low) 29 high) i 0 ≡ get_or e i 0 = λ i h. get_or-set_other (set e 28 low) 29 i high 0 (omega (arith, h)) ∙ get_or-set_other e 28 i low 0 (omega (arith, h)) in
    let at_0 : get_or (set (set e 28 low) 29 high) 0 0 ≡ get_or e 0 0 = before 0 (omega arith) in
    let at_1 : get_or (set (set e 28 low) 29 high) 1 0 ≡ get_or e 1 0 = before 1 (omega arith) in
    let at_2 : get_or (set (set e 28 low) 29 high) 2 0 ≡ get_or e 2 0 = before 2 (omega arith) in
    let at_19 : get_or (set (set e 28 low) 29 high) 19 0 ≡ get_or e 19 0 = before 19 (omega arith) in
    let at_20 : get_or (set (set e 28 low) 29 high) 20 0 ≡ get_or e 20 0 = before 20 (omega arith) in
    record {
      kind = ap (λ (n : ℕ). n % 16) at_0;
      closed = ap (λ (n : ℕ). n / 128) at_0;
      begins = λ i. record { track = at_1 i; sector = at_2 i };
      lists = λ i. record { track = at_19 i; sector = at_20 i };
      long = before 21 (omega arith);
    }

then_alike : (a b c : List ℕ) → LiesAlike a b → LiesAlike b c → LiesAlike a c
then_alike a b c h k = record { kind = k.kind ∙ h.kind; closed = k.closed ∙ h.closed; begins = k.begins ∙ h.begins; lists = k.lists ∙ h.lists; long = k.long ∙ h.long }

dressed_alike : (name : List ℕ) (blocks : ℕ) (locked : Bool) (e : List ℕ) → length e ≡ 30 → length name ≤ 16 → LiesAlike e (dressed_entry name blocks locked e)
dressed_alike name blocks locked e l short =
    let named : List ℕ = renamed_entry e name in
    then_alike e (locked_entry locked named) (dressed_entry name blocks locked e)
    (then_alike e named (locked_entry locked named) (named_alike e name l short) (locked_alike locked named))
    (counted_alike (locked_entry locked named) (blocks % 256) (blocks / 256))

-- THE ENTRY LOOKS OTHERWISE, and its file lies where it lay
pub dressed_sound : (tracks n : ℕ) (name : List ℕ) (blocks : ℕ) (locked : Bool) (c c2 : Content) (l : Layout) → ((p : Place) → IsWhole (c p)) → length name ≤ 16 → Sound tracks c l
    → IsDressed tracks n name blocks locked c c2 → StaysSound tracks c c2
dressed_sound tracks n name blocks locked c c2 l whole short s h =
    let found = entry_found tracks c l n h.entry s h.there in
    let long : length h.entry ≡ 30 = ap length found.1 ∙ slot_long tracks c l n whole s found.0 in
    stays_sound tracks c c2 l n h.entry (dressed_entry name blocks locked h.entry) s h.there (dressed_alike name blocks locked h.entry long short) h.entered

-- ---- a line of art

-- it is closed, and holds nothing
art_lies : (tracks : ℕ) (c : Content) (name : List ℕ) (blocks : ℕ) (locked : Bool) → (type_byte (art_entry name blocks locked) % 16 < 5) × Lies tracks c (art_entry name blocks locked) no_blocks
art_lies tracks c name blocks true = (omega arith, (refl, refl))
art_lies tracks c name blocks false = (omega arith, (refl, refl))

-- A LINE OF ART STANDS IN THE FIRST EMPTY SLOT, for which the directory may have grown
pub art_sound : (medium : ℕ) (c c2 : Content) (name : List ℕ) (blocks : ℕ) (locked : Bool) → IsSoundDisk medium c → HasEntered (geometry_of medium c) c c2 (art_entry name blocks locked) → IsSoundDisk medium c2
art_sound medium c c2 name blocks locked s h =
    let tracks : ℕ = geometry_of medium c in
    let r = after_search medium c h.grown h.slot s.0 s.1 h.takes in
    let lies = art_lies tracks h.grown name blocks locked in
    let a : StaysSound tracks h.grown c2 = put_sound tracks h.grown c2 r.0 h.slot (art_entry name blocks locked) no_blocks r.1 r.2 lies.0 lies.1 tt tt h.entered in
    let same : geometry_of medium c2 ≡ tracks = geometry_elsewhere medium h.grown c2 a.head ∙ r.3 in
    (a.layout, subst (λ (n : ℕ). Sound n c2 a.layout) (sym same) a.sound)
