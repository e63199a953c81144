-- Slots of the directory that are looked for and written: of a sound disk that can be written, no trouble comes.
use Rattle.std.proofs.Common.{◌≡◌, ℕ, suc, ◌+◌, ◌*◌, ◌%◌, ◌<◌, ◌≤◌, List, [], ◌∷◌, length, Bool, true, false, Some, None, Ok, IsOk, refl, sym, ap, subst, ◌∙◌, arith, inl, inr}
use Rattle.std.specs.Prelude.{◌==◌, if◌then◌else◌, slice_get}
use Rattle.std.proofs.lemmas.Option.{slice_get_within}
use Rattle.cbm_medium.specs.Place.{Place}
use Rattle.cbm_medium.specs.Content.{Cell, Content}
use Rattle.cbm_medium.specs.Links.{or_nothing, bytes_at, link, Chain}
use Rattle.cbm_medium.specs.Seen.{Seen}
use Rattle.cbm_medium.specs.declared.fault.Trouble.{Trouble}
use Rattle.cbm_medium.proofs.Places.{place_decide, written_there, written_elsewhere}
use Rattle.cbm_medium.proofs.Walks.{chain_followed}
use Rattle.cbm_file.specs.Files.{Disk}
use Rattle.cbm_bam.specs.Causes.{HasCause}
use Rattle.cbm_directory.specs.Entries.{Enters, first_directory, sector_of, type_byte}
use Rattle.cbm_directory.specs.Empties.{FindsEmpty, TakesSlot, IsSlotRefused, empty_in}
use Rattle.cbm_bam.specs.Map.{geometry_of}
use Rattle.cbm_directory.specs.Slots.{Listed, Answers, directory_of, listed_in, listed_from, all_entries}
use Rattle.cbm_volume.specs.Layouts.{Directory, OwnedBy, Layout, slot_count, Sound}
use Rattle.cbm_volume.specs.Writers.{Idle, HoldsNow}
use Rattle.cbm_volume.proofs.layouts.Frames.{KeepsLinks, chain_links}
use Rattle.cbm_volume.proofs.opened.HinderedOpens.{slot_hinders}
use Rattle.cbm_volume.proofs.layouts.Lengths.{directory_length}
use Rattle.cbm_volume.proofs.layouts.Listing.{directory_listed, entries_length}
use Rattle.cbm_volume.proofs.layouts.Meaning.{sound_stands}
use Rattle.cbm_volume.proofs.opened.OpenedSlots.{slot_ready}
use Rattle.cbm_volume.proofs.layouts.Refusals.{sector_hindered, sector_reads}
use Rattle.cbm_shell.specs.declared.fault.ShellFault.{ShellFault}
use Rattle.cbm_shell.specs.declared.fault.ShellFault.TheVariants as fault
use Rattle.cbm_shell.specs.Editing.{HasNoSlot, IsUnedited, IsNoEntry, CanBeEdited, IsDirectory}
use Rattle.cbm_shell.proofs.EditLemmas.{hindered_never, whole_directory}

-- ---- an entry that isn't there

pub no_entry : (medium tracks : ℕ) (c : Content) (n : ℕ) (l : Layout) (f : ShellFault) → Sound tracks c l → IsNoEntry tracks c n f → IsUnedited medium c (HasNoSlot tracks c n) f
no_entry medium tracks c n l fault.NotFound s h = h
no_entry medium tracks c n l (fault.Trouble t) s h = absurd (whole_directory tracks c l t s h.1)
no_entry medium tracks c n l fault.Memory s h = absurd h
no_entry medium tracks c n l (fault.Image i) s h = absurd h
no_entry medium tracks c n l (fault.Unsound u) s h = absurd h
no_entry medium tracks c n l (fault.Refused r) s h = absurd h
no_entry medium tracks c n l fault.NotClosed s h = absurd h
no_entry medium tracks c n l fault.Mistaken s h = absurd h

-- the same on the medium of a volume
pub no_entry_at : {M : Type 0} (seen : M → Seen) (volume medium : M) (geometry n : ℕ) (f : ShellFault) → medium ≡ volume → geometry ≡ geometry_of (seen volume).tracks (seen volume).content
    → CanBeEdited (geometry_of (seen volume).tracks (seen volume).content) (seen volume) → IsNoEntry geometry (seen medium).content n f
    → IsUnedited (seen volume).tracks (seen volume).content (HasNoSlot (geometry_of (seen volume).tracks (seen volume).content) (seen volume).content n) f
no_entry_at seen volume medium geometry n f same at can h =
    no_entry (seen volume).tracks (geometry_of (seen volume).tracks (seen volume).content) (seen volume).content n can.layout f can.sound
    (subst (λ k. IsNoEntry k (seen volume).content n f) at (subst (λ m. IsNoEntry geometry (seen m).content n f) same h))

-- ---- an empty slot is looked for

holds_idle : (medium : ℕ) (c : Content) (l : Layout) → Sound (geometry_of medium c) c l → (d : Disk) × HoldsNow medium c d (λ n. Idle)
holds_idle medium c l s =
    let d = sound_stands (geometry_of medium c) c l s in
    (d.0, record { layout = l; so = record { stands = d.1; each = λ n. tt; alone = λ a b n e f. (let z : false ≡ true = e in absurd (cc)) } })

search_never : (old new : Seen) (t : Trouble) → CanBeEdited (geometry_of old.tracks old.content) old → old.failures ≡ 0 → new.failures ≡ 0 → IsSlotRefused (geometry_of old.tracks old.content) old new t → ⊥
search_never old new t can a b refused =
    let h = holds_idle old.tracks old.content can.layout can.sound in
    hindered_never old new t can.free a b (slot_hinders old new t h.0 (λ n. Idle) h.1 refused)

pub search_at : {M : Type 0} (seen : M → Seen) (volume medium after : M) (geometry : ℕ) (t : Trouble) → ((m : M) → (seen m).failures ≡ 0) → medium ≡ volume → geometry ≡ geometry_of (seen volume).tracks (seen volume).content
    → CanBeEdited (geometry_of (seen volume).tracks (seen volume).content) (seen volume) → IsSlotRefused geometry (seen medium) (seen after) t → ⊥
search_at seen volume medium after geometry t steady same at can refused =
    search_never (seen volume) (seen after) t can (steady volume) (steady after)
    (subst (λ k. IsSlotRefused k (seen volume) (seen after) t) at (subst (λ m. IsSlotRefused geometry (seen m) (seen after) t) same refused))

-- the empty slot is one of those that are there
empty_within : (n : ℕ) (entries : List (List ℕ)) (j : ℕ) → empty_in n entries ≡ Some j → j < n + length entries
empty_within n [] j h = absurd (cc)
empty_within n (x ∷ entries) j h = by_test (type_byte x == 0) h (empty_within (n + 1) entries j)
  where
    by_test : (b : Bool) → (if b then Some n else empty_in (n + 1) entries) ≡ Some j → (empty_in (n + 1) entries ≡ Some j → j < n + 1 + length entries) → j < n + suc (length entries)
    by_test true k later = let same : n ≡ j = cc in omega arith
    by_test false k later = omega (arith, later k)

taken_there : (tracks : ℕ) (c : Content) (l : Layout) (n : ℕ) → Sound tracks c l → FindsEmpty (directory_of tracks c) (Ok (Some n)) → n < slot_count l
taken_there tracks c l n s h =
    omega (arith, empty_within 0 (all_entries c l.directory) n (subst (λ (d : Listed). empty_in 0 d.entries ≡ Some n) (directory_listed tracks c l s) h), entries_length c l.directory)

-- the directory after the search: it is as it was, or it has grown; the disk has as many tracks
pub after_search : (medium : ℕ) (c c1 : Content) (n : ℕ) (l : Layout) → Sound (geometry_of medium c) c l → TakesSlot (geometry_of medium c) c c1 (Some n) → (l1 : Layout) × Sound (geometry_of medium c) c1 l1 × (n < slot_count l1) × (geometry_of medium c1 ≡ geometry_of medium c)
after_search medium c c1 n l s takes = by_way takes
  where
    by_way : TakesSlot (geometry_of medium c) c c1 (Some n) → (l1 : Layout) × Sound (geometry_of medium c) c1 l1 × (n < slot_count l1) × (geometry_of medium c1 ≡ geometry_of medium c)
    by_way (inl k) =
        let s1 : Sound (geometry_of medium c) c1 l = subst (λ (x : Content). Sound (geometry_of medium c) x l) (sym k.1) s in
        (l, s1, taken_there (geometry_of medium c) c l n s k.0, ap (λ (x : Content). geometry_of medium x) k.1)
    by_way (inr k) =
        let h = holds_idle medium c l s in
        let r = slot_ready medium c c1 n h.0 (λ m. Idle) h.1 (inr k) in
        (r.reached.layout, r.reached.so.stands.sound, taken_there (geometry_of medium c) c1 r.reached.layout n r.reached.so.stands.sound k.2, r.reached.same)

put_after : (medium : ℕ) (old between after : Seen) (n : ℕ) (t : Trouble) → CanBeEdited (geometry_of medium old.content) old → TakesSlot (geometry_of medium old.content) old.content between.content (Some n)
    → between.protected ≡ old.protected → between.failures ≡ 0 → after.failures ≡ 0
    → ((directory : List Place) → Chain (geometry_of medium old.content) between.content first_directory directory → n < 8 * length directory → HasCause between after (sector_of directory n) t.code) → ⊥
put_after medium old between after n t can takes kept a b cause =
    let r = after_search medium old.content between.content n can.layout can.sound takes in
    hindered_never between after t (kept ∙ can.free) a b
    (sector_hindered between after (sector_of r.0.directory n) t (sector_reads (geometry_of medium old.content) between.content r.0.directory n r.1.directory r.2) (cause r.0.directory r.1.directory r.2))

pub put_after_at : {M : Type 0} (seen : M → Seen) (volume medium between after : M) (geometry n : ℕ) (t : Trouble) → ((m : M) → (seen m).failures ≡ 0) → medium ≡ volume → geometry ≡ geometry_of (seen volume).tracks (seen volume).content
    → CanBeEdited (geometry_of (seen volume).tracks (seen volume).content) (seen volume) → TakesSlot geometry (seen medium).content (seen between).content (Some n) → (seen between).protected ≡ (seen medium).protected
    → ((directory : List Place) → Chain geometry (seen between).content first_directory directory → n < 8 * length directory → HasCause (seen between) (seen after) (sector_of directory n) t.code) → ⊥
put_after_at seen volume medium between after geometry n t steady same at can takes kept cause =
    put_after (seen volume).tracks (seen volume) (seen between) (seen after) n t can
    (subst (λ k. TakesSlot k (seen volume).content (seen between).content (Some n)) at (subst (λ m. TakesSlot geometry (seen m).content (seen between).content (Some n)) same takes))
    (kept ∙ ap (λ m. (seen m).protected) same) (steady between) (steady after)
    (subst (λ k. (directory : List Place) → Chain k (seen between).content first_directory directory → n < 8 * length directory → HasCause (seen between) (seen after) (sector_of directory n) t.code) at cause)

-- ---- a directory whose entries change places, on a disk that needn't be sound in between

pub sound_directory : (tracks : ℕ) (c : Content) (l : Layout) → Sound tracks c l → IsDirectory tracks c l.directory
sound_directory tracks c l s = record { chain = s.directory; short = directory_length tracks c l s }

listed : (tracks : ℕ) (c : Content) (sectors : List Place) → IsDirectory tracks c sectors → directory_of tracks c ≡ record { entries = all_entries c sectors; trouble = None }
unfolding directory_of listed_from
listed tracks c sectors h = ap (listed_in c) (chain_followed tracks c sectors 18 first_directory h.chain h.short)

pub entry_there : (tracks : ℕ) (c : Content) (sectors : List Place) (n : ℕ) (e : List ℕ) → IsDirectory tracks c sectors → Answers (directory_of tracks c) n (Ok (Some e)) → n < 8 * length sectors
entry_there tracks c sectors n e h a =
    omega (arith, slice_get_within (all_entries c sectors) n e (subst (λ (d : Listed). slice_get d.entries n ≡ Some e) (listed tracks c sectors h) a), entries_length c sectors)

-- a slot that isn't there now wasn't there before
pub missed_before : (tracks : ℕ) (c c2 : Content) (sectors : List Place) (n : ℕ) → IsDirectory tracks c sectors → IsDirectory tracks c2 sectors → HasNoSlot tracks c2 n → HasNoSlot tracks c n
missed_before tracks c c2 sectors n h h2 none =
    let past = subst (λ (d : Listed). (length d.entries ≤ n) × (d.trouble ≡ None)) (listed tracks c2 sectors h2) none in
    subst (λ (d : Listed). (length d.entries ≤ n) × (d.trouble ≡ None)) (sym (listed tracks c sectors h)) (omega (arith, past.0, entries_length c sectors, entries_length c2 sectors), refl)

-- no entry, since the directory doesn't break off
pub not_there : (tracks : ℕ) (c : Content) (sectors : List Place) (n : ℕ) (f : ShellFault) → IsDirectory tracks c sectors → IsNoEntry tracks c n f → (f ≡ fault.NotFound) × HasNoSlot tracks c n
not_there tracks c sectors n fault.NotFound h k = (refl, k)
not_there tracks c sectors n (fault.Trouble t) h k = absurd (let z = sym (ap (λ (d : Listed). d.trouble) (listed tracks c sectors h)) ∙ k.1 in (cc))
not_there tracks c sectors n fault.Memory h k = absurd k
not_there tracks c sectors n (fault.Image i) h k = absurd k
not_there tracks c sectors n (fault.Unsound u) h k = absurd k
not_there tracks c sectors n (fault.Refused r) h k = absurd k
not_there tracks c sectors n fault.NotClosed h k = absurd k
not_there tracks c sectors n fault.Mistaken h k = absurd k

-- an entry is written, and the directory goes on
all_owned : (xs : List Place) → OwnedBy (λ p. Directory) Directory xs
all_owned [] = tt
all_owned (x ∷ xs) = (refl, all_owned xs)

pub entered_directory : (tracks : ℕ) (c c2 : Content) (sectors : List Place) (n : ℕ) (entry : List ℕ) → IsDirectory tracks c sectors → Enters c c2 (sector_of sectors n) (n % 8) entry → IsDirectory tracks c2 sectors
entered_directory tracks c c2 sectors n entry h e = record {
  chain = chain_links tracks c c2 (λ p. Directory) Directory keeps first_directory sectors (all_owned sectors) h.chain;
  short = h.short;
}
  where
    there : c2 (sector_of sectors n) ≡ Ok e.sector
    there = ap (λ (x : Content). x (sector_of sectors n)) e.written ∙ written_there c (sector_of sectors n) e.sector

    keeps : KeepsLinks c c2 (λ p. Directory) Directory
    keeps q w ok = elim (place_decide (sector_of sectors n) q) [
      | inl same ↦ subst (λ (x : Place). IsOk (c2 x) × (link (bytes_at c2 x) ≡ link (bytes_at c x))) same
          (subst (λ (x : Cell). IsOk x) (sym there) refl, ap (λ (x : Cell). link (or_nothing x)) there ∙ e.has.link)
      | inr ne ↦ (let z = ap (λ (x : Content). x q) e.written ∙ written_elsewhere c (sector_of sectors n) q e.sector ne in
          (subst (λ (x : Cell). IsOk x) (sym z) ok, ap (λ (x : Cell). link (or_nothing x)) z))
    ]

-- and no trouble comes
pub put_in_directory : (tracks n : ℕ) (old new : Seen) (sectors : List Place) (t : Trouble) → IsDirectory tracks old.content sectors → old.protected ≡ false → n < 8 * length sectors → old.failures ≡ 0 → new.failures ≡ 0
    → ((directory : List Place) → Chain tracks old.content first_directory directory → n < 8 * length directory → HasCause old new (sector_of directory n) t.code) → ⊥
put_in_directory tracks n old new sectors t h free room a b cause =
    hindered_never old new t free a b (sector_hindered old new (sector_of sectors n) t (sector_reads tracks old.content sectors n h.chain room) (cause sectors h.chain room))
