-- OPEN for writing: a block is claimed, then the empty slot takes the name.
use Rattle.std.proofs.Common.{◌≡◌, ◌≢◌, ℕ, ◌%◌, ◌<◌, ◌≤◌, length, arith, List, [], ◌∷◌, Bool, true, false, refl, sym, ap, subst, ◌∙◌, inl, inr, Option, Some, None}
use Rattle.std.specs.Prelude.{◌==◌}
use Rattle.std.proofs.lemmas.Bool.{cases_eq, ne_eqb}
use Rattle.std.proofs.lemmas.List.{get_or-set_same}
use Rattle.cbm_medium.specs.Place.{Place}
use Rattle.cbm_medium.specs.Content.{Content}
use Rattle.cbm_file.specs.declared.file_type.FileType.TheVariants.{Rel}
use Rattle.cbm_file.specs.Types.{is_same_type}
use Rattle.cbm_file.specs.Files.{File, Disk, file_at, with_slot}
use Rattle.cbm_bam.specs.Map.{Claims}
use Rattle.cbm_chain.specs.Writing.{begun_at}
use Rattle.cbm_directory.specs.Entries.{Enters, type_byte, is_closed, is_relative, sector_of}
use Rattle.cbm_volume.specs.Blocks.{no_blocks, Lies, LiesAs, slot_of}
use Rattle.cbm_volume.specs.Layouts.{Owner, Directory, DataOf, Writer, Layout, slot_count, HasLayout, own}
use Rattle.cbm_volume.specs.Writers.{Filling, Use, Idle, Reads, Relates, Writes, IsWriting, IsUsed, uses_slot, writes_slot, IsAlone, HoldsAt, with_use}
use Rattle.cbm_volume.proofs.layouts.Frames.{Keeps}
use Rattle.cbm_volume.proofs.layouts.Loose.{sector_owned}
use Rattle.cbm_volume.proofs.layouts.OneSlot.{with_file}
use Rattle.cbm_volume.proofs.layouts.Remaps.{with_owner}
use Rattle.cbm_volume.proofs.layouts.Steps.{one_less, Claimed, stands_claim, stands_entry, extends_itself, own_there}
use Rattle.cbm_volume.proofs.layouts.Writers.{Spares, used_kept, stands_owned, use_here, use_other, written_keeps, keeps_then}
use Rattle.cbm_volume.proofs.written.Puts.{spares_owned}
use Rattle.cbm_volume.proofs.written.Closing.{other_slot}
use Rattle.cbm_volume.specs.Opens.{IsUnused}

-- an empty slot is open on no channel
pub empty_unused : (tracks : ℕ) (c : Content) (l : Layout) (d : Disk) (uses : ℕ → Use) (n : ℕ) → HoldsAt tracks c l d uses → file_at d n ≡ None → IsUnused uses n
empty_unused tracks c l d uses n h none m = by_use (uses m) (h.each m)
  where
    by_use : (u : Use) → IsUsed tracks c l d m u → uses_slot n u ≡ false
    by_use Idle k = refl
    by_use (Reads slot r left) k = ne_eqb slot n (λ e. (let z = sym k.in_slot ∙ ap (file_at d) e ∙ none in (cc)))
    by_use (Relates slot) k = ne_eqb slot n (λ e. (let z = sym k.in_slot ∙ ap (file_at d) e ∙ none in (cc)))
    by_use (Writes w bytes blocks) k = ne_eqb w.slot n (λ e. (let z = sym k.in_slot ∙ ap (file_at d) e ∙ none in (cc)))

-- a channel begins to write a slot that no channel has
pub alone_more : (uses : ℕ → Use) (ch n : ℕ) (w : Filling) (bytes : List ℕ) (blocks : ℕ) → IsAlone uses → IsUnused uses n → w.slot ≡ n → uses ch ≡ Idle → IsAlone (with_use uses ch (Writes w bytes blocks))
alone_more uses ch n w bytes blocks alone unused at idle a b i wa hb = elim (cases_eq a ch) [
  | inl ea ↦ elim (cases_eq b ch) [
    | inl eb ↦ ea ∙ sym eb
    | inr nb ↦ absurd (let own_i : w.slot ≡ i = same_slot (ap (writes_slot i) (sym (use_here uses ch (Writes w bytes blocks))) ∙ ap (λ (x : ℕ). writes_slot i (with_use uses ch (Writes w bytes blocks) x)) (sym ea) ∙ wa) in
        let z = sym (unused b) ∙ ap (λ (x : ℕ). uses_slot x (uses b)) (sym at ∙ own_i) ∙ ap (uses_slot i) (sym (use_other uses ch b (Writes w bytes blocks) nb)) ∙ hb in (cc))
  ]
  | inr na ↦ (let wa' : writes_slot i (uses a) ≡ true = ap (writes_slot i) (sym (use_other uses ch a (Writes w bytes blocks) na)) ∙ wa in
      elim (cases_eq b ch) [
        | inl eb ↦ absurd (let own_i : w.slot ≡ i = same_slot (ap (uses_slot i) (sym (use_here uses ch (Writes w bytes blocks))) ∙ ap (λ (x : ℕ). uses_slot i (with_use uses ch (Writes w bytes blocks) x)) (sym eb) ∙ hb) in
            let z = sym (unused a) ∙ ap (λ (x : ℕ). uses_slot x (uses a)) (sym at ∙ own_i) ∙ writes_has (uses a) i wa' in (cc))
        | inr nb ↦ alone a b i wa' (ap (uses_slot i) (sym (use_other uses ch b (Writes w bytes blocks) nb)) ∙ hb)
      ])
]
  where
    same_slot : {x y : ℕ} → (x == y) ≡ true → x ≡ y
    same_slot {x} {y} h = elim (cases_eq x y) [ inl e ↦ e | inr ne ↦ absurd (let z = sym (ne_eqb x y ne) ∙ h in (cc)) ]

    writes_has : (u : Use) (i : ℕ) → writes_slot i u ≡ true → uses_slot i u ≡ true
    writes_has Idle i h = absurd (cc)
    writes_has (Reads s r left) i h = absurd (cc)
    writes_has (Relates s) i h = h
    writes_has (Writes w x k) i h = h

-- THE SLOT HAS THE NAME, and the channel one block of its own with nothing in it
pub begun_over : (tracks : ℕ) (c c1 c2 : Content) (l : Layout) (d : Disk) (uses : ℕ → Use) (ch n : ℕ) (q : Place) (body : List ℕ) (f : File) → 18 ≤ tracks → HoldsAt tracks c l d uses → uses ch ≡ Idle → n < slot_count l → n < length d.slots
    → file_at d n ≡ None → Claims tracks c c1 q → Enters c1 c2 (sector_of l.directory n) (n % 8) body → type_byte body % 16 < 5 → is_closed body ≡ false → slot_of c1 body no_blocks ≡ Some f → f.closed ≡ false → is_same_type Rel f.kind ≡ false
    → HoldsAt tracks c2 (with_file (with_owner l (own l.owner q (Writer ch))) n no_blocks (own l.owner q (Writer ch))) (with_slot (one_less d) n (Some f))
    (with_use uses ch (Writes (record { slot = n; replaces = false; chain = begun_at tracks q }) [] 1))
begun_over tracks c c1 c2 l d uses ch n q body f few h idle k room none claims enters kind unclosed file closed plain =
    let l1 : Layout = with_owner l (own l.owner q (Writer ch)) in
    let l2 : Layout = with_file l1 n no_blocks (own l.owner q (Writer ch)) in
    let d2 : Disk = with_slot (one_less d) n (Some f) in
    let w : Filling = record { slot = n; replaces = false; chain = begun_at tracks q } in
    let unused : IsUnused uses n = empty_unused tracks c l d uses n h none in
    let claimed : Claimed tracks c c1 l d q = stands_claim tracks c c1 l d q h.stands few claims in
    let owned : HasLayout tracks c1 l1 (one_less d) = stands_owned tracks c1 l (one_less d) q ch claimed.stands claimed.taken in
    let lies : Lies tracks c1 body no_blocks = subst (λ (x : Bool). LiesAs x (is_relative body) tracks c1 body no_blocks) (sym unclosed) refl in
    let stands : HasLayout tracks c2 l2 d2 = subst (λ (x : Option File). HasLayout tracks c2 l2 (with_slot (one_less d) n x)) file
    (stands_entry tracks c1 c2 l1 (one_less d) n (sector_of l.directory n) body no_blocks l1.owner owned k refl enters kind lies (extends_itself l1 n owned.sound.owned) tt tt owned.sound.free) in
    let before : Spares c c1 l l1 d (one_less d) (λ x. false) (λ m. false) = spares_owned tracks c c1 l d q ch h.stands claims claimed.taken.nobody in
    let after : (o : Owner) → Directory ≢ o → Keeps c1 c2 l.owner o = λ o ne. written_keeps c1 c2 (sector_of l.directory n) enters.sector l.owner o enters.written (λ y. ne (sym (sector_owned l h.stands.sound.owned n k) ∙ y)) in
    let s : Spares c c2 l l2 d d2 (λ x. false) (λ m. m == n) = record {
      writers = λ x o. keeps_then c c1 c2 l.owner (Writer x) (before.writers x refl) (after (Writer x) (λ z. (cc)));
      writers_own = λ x p o. before.writers_own x p refl;
      files = λ m o. keeps_then c c1 c2 l.owner (DataOf m) (before.files m refl) (after (DataOf m) (λ z. (cc)));
      files_own = λ m p o. before.files_own m p refl;
      more = omega arith;
      slots = λ m o. other_slot (one_less d) n m (Some f) o;
    } in
    let mine : IsWriting tracks c2 l2 d2 ch w [] 1 = record {
      places = q ∷ [];
      owned = (own_there l.owner q (Writer ch), tt);
      wrote = record { part = (claims.has, claims.off_18); first = refl; current = refl; count = refl; all = refl; fits = omega arith; none = λ z. refl };
      number = refl;
      same_tracks = refl;
      there = k;
      file = f;
      in_slot = get_or-set_same d.slots n (Some f) None room;
      closed = closed;
      plain = plain;
      begun = λ z. absurd (cc);
    } in
    record {
      stands = stands;
      each = λ m. elim (cases_eq m ch) [
        | inl e ↦ subst (λ (i : ℕ). IsUsed tracks c2 l2 d2 i (with_use uses ch (Writes w [] 1) i)) (sym e) (subst (λ (x : Use). IsUsed tracks c2 l2 d2 ch x) (sym (use_here uses ch (Writes w [] 1))) mine)
        | inr ne ↦ subst (λ (x : Use). IsUsed tracks c2 l2 d2 m x) (sym (use_other uses ch m (Writes w [] 1) ne))
            (used_kept tracks c c2 l l2 d d2 (λ x. false) (λ i. i == n) m (uses m) s refl (λ i g. ne_eqb i n (λ z. (let y = sym (unused m) ∙ ap (λ (j : ℕ). uses_slot j (uses m)) (sym z) ∙ g in (cc)))) (h.each m))
      ];
      alone = alone_more uses ch n w [] 1 h.alone unused refl idle;
    }
