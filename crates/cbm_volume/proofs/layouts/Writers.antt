-- Writers keep what they have written, whoever else writes.
use Rattle.std.proofs.Common.{◌≡◌, ◌≢◌, ℕ, ◌≤◌, arith, List, [], ◌∷◌, ◌++◌, Bool, true, false, refl, sym, ap, subst, ◌∙◌, inl, inr}
use Rattle.std.specs.Prelude.{◌==◌}
use Rattle.std.proofs.lemmas.Bool.{cases_eq, eq-eqb, ne_eqb}
use Rattle.cbm_medium.specs.Place.{Place}
use Rattle.cbm_medium.specs.Content.{Content, written}
use Rattle.cbm_file.specs.Files.{Disk}
use Rattle.cbm_bam.specs.Map.{is_free_in, map_of}
use Rattle.cbm_volume.specs.Layouts.{Owner, TheMap, Directory, DataOf, SideOf, Writer, is_loose, OwnedBy, Layout, HasLayout, own}
use Rattle.cbm_medium.proofs.Walks.{followed_chain, chain_followed}
use Rattle.cbm_file.specs.Files.{file_at}
use Rattle.cbm_chain.specs.Reading.{Reading}
use Rattle.cbm_chain.proofs.Parts.{AreKept, part_kept, part_bytes_kept}
use Rattle.cbm_volume.specs.Layouts.{slot_count}
use Rattle.cbm_volume.specs.Writers.{Filling, Use, Idle, Reads, Relates, Writes, IsReading, IsWriting, IsUsed, uses_slot, writes_slot, IsAlone, HoldsAt, with_use}
use Rattle.cbm_medium.proofs.Places.{place_decide}
use Rattle.cbm_volume.proofs.layouts.Frames.{bytes_kept, chain_kept, Keeps, owned_same, write_keeps}
use Rattle.cbm_volume.proofs.layouts.Remaps.{with_owner}
use Rattle.cbm_volume.proofs.layouts.Steps.{IsTaken, own_there, own_elsewhere}

pub owned_kept : (c c' : Content) (owner : Place → Owner) (o : Owner) → Keeps c c' owner o → (xs : List Place) → OwnedBy owner o xs → AreKept c c' xs
owned_kept c c' owner o k [] w = tt
owned_kept c c' owner o k (x ∷ xs) w = (k x w.0, owned_kept c c' owner o k xs w.1)

-- A WRITER IS KEPT where its blocks are, and its slot
pub writing_kept : (tracks : ℕ) (c c' : Content) (l l' : Layout) (d d' : Disk) (ch : ℕ) (w : Filling) (bytes : List ℕ) (blocks : ℕ) → Keeps c c' l.owner (Writer ch)
    → ((p : Place) → l.owner p ≡ Writer ch → l'.owner p ≡ Writer ch) → slot_count l ≤ slot_count l' → file_at d' w.slot ≡ file_at d w.slot
    → IsWriting tracks c l d ch w bytes blocks → IsWriting tracks c' l' d' ch w bytes blocks
writing_kept tracks c c' l l' d d' ch w bytes blocks k own_kept more same h = record {
  places = h.places;
  owned = owned_same l.owner l'.owner (Writer ch) h.places own_kept h.owned;
  wrote = record {
    part = part_kept w.chain.tracks c c' h.places (owned_kept c c' l.owner (Writer ch) k h.places h.owned) h.wrote.part;
    first = h.wrote.first;
    current = h.wrote.current;
    count = h.wrote.count;
    all = h.wrote.all ∙ ap (λ (x : List ℕ). x ++ w.chain.waiting) (sym (part_bytes_kept c c' h.places (owned_kept c c' l.owner (Writer ch) k h.places h.owned)));
    fits = h.wrote.fits;
    none = h.wrote.none;
  };
  number = h.number;
  same_tracks = h.same_tracks;
  there = omega (arith, h.there, more);
  file = h.file;
  in_slot = same ∙ h.in_slot;
  closed = h.closed;
  plain = h.plain;
  begun = h.begun;
}

-- a reader is kept where the blocks of its file are
pub reading_kept : (tracks : ℕ) (c c' : Content) (l l' : Layout) (d d' : Disk) (slot : ℕ) (r : Reading) (left : List ℕ) → Keeps c c' l.owner (DataOf slot) → ((p : Place) → l.owner p ≡ DataOf slot → l'.owner p ≡ DataOf slot)
    → slot_count l ≤ slot_count l' → file_at d' slot ≡ file_at d slot → IsReading tracks c l d slot r left → IsReading tracks c' l' d' slot r left
reading_kept tracks c c' l l' d d' slot r left k own_kept more same h =
    let chain = followed_chain r.tracks c r.left r.next h.blocks h.followed in
    record {
      blocks = h.blocks;
      followed = chain_followed r.tracks c' h.blocks r.left r.next (chain_kept r.tracks c c' l.owner (DataOf slot) k r.next h.blocks h.owned chain.0) chain.1;
      all = h.all ∙ ap (λ (xs : List ℕ). r.bytes ++ xs) (sym (bytes_kept c c' l.owner (DataOf slot) k h.blocks h.owned));
      owned = owned_same l.owner l'.owner (DataOf slot) h.blocks own_kept h.owned;
      there = omega (arith, h.there, more);
      file = h.file;
      in_slot = same ∙ h.in_slot;
    }

-- what a step of the disk keeps: the blocks and the owners of all writers, and of the files and slots that it spares
pub record Spares (c c' : Content) (l l' : Layout) (d d' : Disk) (out changes : ℕ → Bool) : Type 0 where
  pub writers : (ch : ℕ) → out ch ≡ false → Keeps c c' l.owner (Writer ch)
  pub writers_own : (ch : ℕ) (q : Place) → out ch ≡ false → l.owner q ≡ Writer ch → l'.owner q ≡ Writer ch
  pub files : (n : ℕ) → changes n ≡ false → Keeps c c' l.owner (DataOf n)
  pub files_own : (n : ℕ) (q : Place) → changes n ≡ false → l.owner q ≡ DataOf n → l'.owner q ≡ DataOf n
  pub more : slot_count l ≤ slot_count l'
  pub slots : (n : ℕ) → changes n ≡ false → file_at d' n ≡ file_at d n

pub used_kept : (tracks : ℕ) (c c' : Content) (l l' : Layout) (d d' : Disk) (out changes : ℕ → Bool) (ch : ℕ) (u : Use) → Spares c c' l l' d d' out changes → out ch ≡ false → ((n : ℕ) → uses_slot n u ≡ true → changes n ≡ false)
    → IsUsed tracks c l d ch u → IsUsed tracks c' l' d' ch u
used_kept tracks c c' l l' d d' out changes ch Idle s o spared h = tt
used_kept tracks c c' l l' d d' out changes ch (Reads slot r left) s o spared h =
    let f : changes slot ≡ false = spared slot (eq-eqb slot slot refl) in
    reading_kept tracks c c' l l' d d' slot r left (s.files slot f) (λ q. s.files_own slot q f) s.more (s.slots slot f) h
used_kept tracks c c' l l' d d' out changes ch (Relates slot) s o spared h = record {
  there = omega (arith, h.there, s.more);
  file = h.file;
  in_slot = s.slots slot (spared slot (eq-eqb slot slot refl)) ∙ h.in_slot;
  closed = h.closed;
  relative = h.relative;
}
used_kept tracks c c' l l' d d' out changes ch (Writes w bytes blocks) s o spared h =
    writing_kept tracks c c' l l' d d' ch w bytes blocks (s.writers ch o) (λ q. s.writers_own ch q o) s.more (s.slots w.slot (spared w.slot (eq-eqb w.slot w.slot refl))) h

-- ---- a claimed block goes to a writer: nothing is written

pub stands_owned : (tracks : ℕ) (c : Content) (l : Layout) (d : Disk) (p : Place) (ch : ℕ) → HasLayout tracks c l d → IsTaken tracks c l p → HasLayout tracks c (with_owner l (own l.owner p (Writer ch))) d
stands_owned tracks c l d p ch st t =
    let owner : Place → Owner = own l.owner p (Writer ch) in
    let keeps : (q : Place) (o : Owner) → is_loose o ≡ false → l.owner q ≡ o → owner q ≡ o = λ q o k e. own_elsewhere l.owner p q (Writer ch) (λ z. (let y = sym (ap is_loose t.nobody) ∙ ap (λ (x : Place). is_loose (l.owner x)) z ∙ ap is_loose e ∙ k in (cc))) ∙ e in
    record {
      sound = record {
        owned = record {
          map = keeps _ TheMap refl st.sound.owned.map;
          directory = owned_same l.owner owner Directory l.directory (λ q. keeps q Directory refl) st.sound.owned.directory;
          blocks = λ m k. owned_same l.owner owner (DataOf m) (l.files m).data_blocks (λ q. keeps q (DataOf m) refl) (st.sound.owned.blocks m k);
          sides = λ m k. owned_same l.owner owner (SideOf m) (l.files m).sides (λ q. keeps q (SideOf m) refl) (st.sound.owned.sides m k);
          on_18 = λ q e. st.sound.owned.on_18 q (back q Directory (λ z. (cc)) e);
          off_18 = λ q e m. (λ z. (st.sound.owned.off_18 q e m).0 (back q (DataOf m) (λ y. (cc)) z), λ z. (st.sound.owned.off_18 q e m).1 (back q (SideOf m) (λ y. (cc)) z));
        };
        writable = st.sound.writable;
        map_reads = st.sound.map_reads;
        directory = st.sound.directory;
        kinds = st.sound.kinds;
        lies = st.sound.lies;
        free = λ q h e. own_elsewhere l.owner p q (Writer ch) (λ z. (let y = sym t.taken ∙ ap (is_free_in (map_of c)) z ∙ e in (cc))) ∙ st.sound.free q h e;
        counted = st.sound.counted;
      };
      describes = record { title = st.describes.title; mark = st.describes.mark; size = st.describes.size; slots = st.describes.slots; total = st.describes.total; room = st.describes.room; free = st.describes.free };
    }
  where
    back : (q : Place) (o : Owner) → Writer ch ≢ o → own l.owner p (Writer ch) q ≡ o → l.owner q ≡ o
    back q o ne e = elim (place_decide p q) [
      | inl s ↦ absurd (ne (sym (own_there l.owner p (Writer ch)) ∙ ap (own l.owner p (Writer ch)) s ∙ e))
      | inr apart ↦ sym (own_elsewhere l.owner p q (Writer ch) apart) ∙ e
    ]

-- ---- the disk steps, and the channels stay

pub written_keeps : (c c' : Content) (p : Place) (bytes : List ℕ) (owner : Place → Owner) (o : Owner) → c' ≡ written c p bytes → owner p ≢ o → Keeps c c' owner o
written_keeps c c' p bytes owner o e ne q h = ap (λ (x : Content). x q) e ∙ write_keeps c p bytes owner o ne q h

pub keeps_then : (c c' c'' : Content) (owner : Place → Owner) (o : Owner) → Keeps c c' owner o → Keeps c' c'' owner o → Keeps c c'' owner o
keeps_then c c' c'' owner o a b q h = b q h ∙ a q h

pub use_here : (uses : ℕ → Use) (ch : ℕ) (u : Use) → with_use uses ch u ch ≡ u
use_here uses ch u = rw (eq-eqb ch ch refl) refl

pub use_other : (uses : ℕ → Use) (ch m : ℕ) (u : Use) → m ≢ ch → with_use uses ch u m ≡ uses m
use_other uses ch m u ne = rw (ne_eqb m ch ne) refl

-- a channel whose use has at most the slots of the one before
pub record IsLike (old new : Use) : Type 0 where
  pub has : (n : ℕ) → uses_slot n new ≡ true → uses_slot n old ≡ true
  pub writes : (n : ℕ) → writes_slot n new ≡ true → writes_slot n old ≡ true

back_has : (uses : ℕ → Use) (ch : ℕ) (u : Use) → IsLike (uses ch) u → (a n : ℕ) → uses_slot n (with_use uses ch u a) ≡ true → uses_slot n (uses a) ≡ true
back_has uses ch u k a n h = elim (cases_eq a ch) [
  | inl e ↦ subst (λ (i : ℕ). uses_slot n (uses i) ≡ true) (sym e) (k.has n (ap (uses_slot n) (sym (use_here uses ch u)) ∙ ap (λ (i : ℕ). uses_slot n (with_use uses ch u i)) (sym e) ∙ h))
  | inr ne ↦ ap (uses_slot n) (sym (use_other uses ch a u ne)) ∙ h
]

back_writes : (uses : ℕ → Use) (ch : ℕ) (u : Use) → IsLike (uses ch) u → (a n : ℕ) → writes_slot n (with_use uses ch u a) ≡ true → writes_slot n (uses a) ≡ true
back_writes uses ch u k a n h = elim (cases_eq a ch) [
  | inl e ↦ subst (λ (i : ℕ). writes_slot n (uses i) ≡ true) (sym e) (k.writes n (ap (writes_slot n) (sym (use_here uses ch u)) ∙ ap (λ (i : ℕ). writes_slot n (with_use uses ch u i)) (sym e) ∙ h))
  | inr ne ↦ ap (writes_slot n) (sym (use_other uses ch a u ne)) ∙ h
]

-- one channel goes on with its slot, or lets go of it
pub holds_with : (tracks : ℕ) (c : Content) (l : Layout) (d : Disk) (uses : ℕ → Use) (ch : ℕ) (u : Use) → HasLayout tracks c l d → ((m : ℕ) → m ≢ ch → IsUsed tracks c l d m (uses m)) → IsAlone uses
    → IsLike (uses ch) u → IsUsed tracks c l d ch u → HoldsAt tracks c l d (with_use uses ch u)
holds_with tracks c l d uses ch u st each alone k h = record {
  stands = st;
  each = λ m. elim (cases_eq m ch) [
    | inl e ↦ subst (λ (i : ℕ). IsUsed tracks c l d i (with_use uses ch u i)) (sym e) (subst (λ (x : Use). IsUsed tracks c l d ch x) (sym (use_here uses ch u)) h)
    | inr ne ↦ subst (λ (x : Use). IsUsed tracks c l d m x) (sym (use_other uses ch m u ne)) (each m ne)
  ];
  alone = λ a b n wa hb. alone a b n (back_writes uses ch u k a n wa) (back_has uses ch u k b n hb);
}

-- THE DISK STEPS: one channel goes on, and no other notices
pub holds_step : (tracks : ℕ) (c c' : Content) (l l' : Layout) (d d' : Disk) (uses : ℕ → Use) (ch : ℕ) (u : Use) (out changes : ℕ → Bool) → HoldsAt tracks c l d uses → HasLayout tracks c' l' d' → Spares c c' l l' d d' out changes
    → ((m : ℕ) → m ≢ ch → out m ≡ false) → ((m n : ℕ) → m ≢ ch → uses_slot n (uses m) ≡ true → changes n ≡ false) → IsLike (uses ch) u → IsUsed tracks c' l' d' ch u → HoldsAt tracks c' l' d' (with_use uses ch u)
holds_step tracks c c' l l' d d' uses ch u out changes h st s others spared k new =
    holds_with tracks c' l' d' uses ch u st (λ m ne. used_kept tracks c c' l l' d d' out changes m (uses m) s (others m ne) (λ n. spared m n ne) (h.each m)) h.alone k new

pub idle_like : (u : Use) → IsLike u Idle
idle_like u = record { has = λ n h. (cc); writes = λ n h. (cc) }

pub writes_like : (v w : Filling) (xs ys : List ℕ) (m n : ℕ) → w.slot ≡ v.slot → IsLike (Writes v xs m) (Writes w ys n)
writes_like v w xs ys m n e = record { has = λ i h. ap (λ (x : ℕ). x == i) (sym e) ∙ h; writes = λ i h. ap (λ (x : ℕ). x == i) (sym e) ∙ h }
