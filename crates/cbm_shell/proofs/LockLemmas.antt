-- Files are locked or freed: a sound disk stays sound.
use Rattle.std.proofs.Common.{◌≡◌, ℕ, zero, suc, ◌<◌, ◌≤◌, List, [], ◌∷◌, length, Bool, true, false, Some, Ok, Err, refl, sym, subst, arith}
use Rattle.std.specs.Prelude.{◌==◌, if◌then◌else◌, MatchBool}
use Rattle.std.proofs.lemmas.Option.{slice_get_within}
use Rattle.cbm_medium.specs.Place.{Place, has}
use Rattle.cbm_medium.specs.Content.{Cell, Content}
use Rattle.cbm_medium.specs.Links.{ended, cut_at, followed_after, follow, link}
use Rattle.cbm_directory.specs.Entries.{EntersLed, first_directory}
use Rattle.cbm_directory.specs.Slots.{Answers, directory_of, listed_from, all_entries}
use Rattle.cbm_volume.specs.Layouts.{Layout, Sound}
use Rattle.cbm_volume.proofs.layouts.Listing.{entries_length}
use Rattle.cbm_shell.specs.Locking.{is_unlike, locked_entry, LocksSlot, LocksSlots, LocksEach, LocksAll}
use Rattle.cbm_shell.proofs.EntryLemmas.{LiesAlike, StaysSound, stays_same, then_sound, stays_sound}

-- the file of the entry lies where it lay
pub locked_alike : (locked : Bool) (e : List ℕ) → LiesAlike e (locked_entry locked e)
locked_alike locked [] = record { kind = refl; closed = refl; begins = refl; lists = refl; long = refl }
locked_alike true (x ∷ rest) = record { kind = omega arith; closed = omega arith; begins = refl; lists = refl; long = refl }
locked_alike false (x ∷ rest) = record { kind = omega arith; closed = omega arith; begins = refl; lists = refl; long = refl }

pub lock_step : (locked : Bool) (tracks : ℕ) (pattern : List ℕ) (n : ℕ) (c c2 : Content) (l : Layout) → Sound tracks c l → LocksSlot locked tracks pattern n c c2 → StaysSound tracks c c2
lock_step locked tracks pattern n c c2 l s h = by_test (is_unlike pattern locked h.entry) h.entered
  where
    by_test : (b : Bool) → MatchBool b (EntersLed tracks c c2 n (locked_entry locked h.entry)) (c2 ≡ c) → StaysSound tracks c c2
    by_test true k = stays_sound tracks c c2 l n h.entry (locked_entry locked h.entry) s h.stands (locked_alike locked h.entry) k
    by_test false k = stays_same tracks c c2 l s k

pub lock_slots : (locked : Bool) (tracks : ℕ) (pattern : List ℕ) (n : ℕ) (c c2 : Content) (l : Layout) → Sound tracks c l → LocksSlots locked tracks pattern n c c2 → StaysSound tracks c c2
unfolding LocksSlots
lock_slots locked tracks pattern zero c c2 l s h = stays_same tracks c c2 l s h
lock_slots locked tracks pattern (suc n) c c2 l s h =
    let a = lock_slots locked tracks pattern n c h.0 l s h.1 in
    then_sound tracks c h.0 c2 a (lock_step locked tracks pattern n h.0 c2 a.layout a.sound h.2)

pub locks_sound : (locked : Bool) (tracks : ℕ) (patterns : List (List ℕ)) (c c2 : Content) (l : Layout) → Sound tracks c l → LocksAll patterns locked tracks c c2 → StaysSound tracks c c2
unfolding LocksAll
locks_sound locked tracks [] c c2 l s h = stays_same tracks c c2 l s h
locks_sound locked tracks (pattern ∷ rest) c c2 l s h =
    let a = lock_slots locked tracks pattern h.1.slots c h.0 l s h.1.each in
    then_sound tracks c h.0 c2 a (locks_sound locked tracks rest h.0 c2 a.layout a.sound h.2)

-- ---- the slots of a directory are few

follow_short : (tracks : ℕ) (content : Content) (n : ℕ) (p : Place) → length (follow tracks content n p).blocks ≤ n
unfolding follow
follow_short tracks content zero p = by_tests (p.track == 0) (has tracks p)
  where
    by_tests : (a b : Bool) → length (if a then ended [] else if b then cut_at 71 p else cut_at 66 p).blocks ≤ 0
    by_tests true b = omega arith
    by_tests false true = omega arith
    by_tests false false = omega arith
follow_short tracks content (suc n) p = by_tests (p.track == 0) (has tracks p) (content p) (λ q. follow_short tracks content n q)
  where
    by_tests : (a b : Bool) (cell : Cell) → ((q : Place) → length (follow tracks content n q).blocks ≤ n) → length (if a then ended [] else if b then followed_after p cell (λ q. follow tracks content n q) else cut_at 66 p).blocks ≤ suc n
    by_tests true b cell rest = omega arith
    by_tests false true (Ok bytes) rest = omega (arith, rest (link bytes))
    by_tests false true (Err code) rest = omega arith
    by_tests false false cell rest = omega arith

pub few_slots : (tracks : ℕ) (content : Content) (n : ℕ) (e : List ℕ) → Answers (directory_of tracks content) n (Ok (Some e)) → n < 144
unfolding directory_of listed_from
few_slots tracks content n e h =
    omega (
      arith,
      slice_get_within (all_entries content (follow tracks content 18 first_directory).blocks) n e h,
      entries_length content (follow tracks content 18 first_directory).blocks,
      follow_short tracks content 18 first_directory,
    )

-- ---- what the loops keep

pub slots_begin : (locked : Bool) (tracks : ℕ) (pattern : List ℕ) (c : Content) → LocksSlots locked tracks pattern 0 c c
unfolding LocksSlots
slots_begin locked tracks pattern c = refl

pub slots_on : (locked : Bool) (tracks : ℕ) (pattern : List ℕ) (n m : ℕ) (c between c2 : Content) → m ≡ suc n → LocksSlots locked tracks pattern n c between → LocksSlot locked tracks pattern n between c2 → LocksSlots locked tracks pattern m c c2
unfolding LocksSlots
slots_on locked tracks pattern n m c between c2 e h k = subst (λ (i : ℕ). LocksSlots locked tracks pattern i c c2) (sym e) (between, h, k)

-- wherever the patterns that are left lead from now, all of them lead from the beginning
abbrev pub Locking : Bool → ℕ → List (List ℕ) → Content → List (List ℕ) → Content → Type 0
Locking locked tracks all old left now = (new : Content) → LocksAll left locked tracks now new → LocksAll all locked tracks old new

pub locking_begin : (locked : Bool) (tracks : ℕ) (all left : List (List ℕ)) (old : Content) → all ≡ left → Locking locked tracks all old left old
locking_begin locked tracks all left old e = λ new h. subst (λ l. LocksAll l locked tracks old new) (sym e) h

pub locking_on : (locked : Bool) (tracks : ℕ) (all left rest : List (List ℕ)) (pattern : List ℕ) (old now next : Content) → Locking locked tracks all old left now → left ≡ pattern ∷ rest → LocksEach locked tracks pattern now next
    → Locking locked tracks all old rest next
unfolding LocksAll
locking_on locked tracks all left rest pattern old now next w e h = λ new r. w new (subst (λ l. LocksAll l locked tracks now new) (sym e) (next, h, r))

pub locking_end : (locked : Bool) (tracks : ℕ) (all left : List (List ℕ)) (old now : Content) → Locking locked tracks all old left now → left ≡ [] → LocksAll all locked tracks old now
unfolding LocksAll
locking_end locked tracks all left old now w e = w now (subst (λ l. LocksAll l locked tracks now now) (sym e) refl)

-- one pattern after another keeps the disk sound
pub each_sound : (locked : Bool) (tracks : ℕ) (pattern : List ℕ) (c c2 : Content) (l : Layout) → Sound tracks c l → LocksEach locked tracks pattern c c2 → StaysSound tracks c c2
each_sound locked tracks pattern c c2 l s h = lock_slots locked tracks pattern h.slots c c2 l s h.each
