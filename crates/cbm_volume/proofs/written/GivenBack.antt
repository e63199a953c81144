-- Blocks of a channel are given back: of a chain that is given up, or of a file that was replaced.
use Rattle.std.proofs.Common.{◌≡◌, ◌≢◌, ℕ, ◌+◌, ◌≤◌, List, [], ◌∷◌, length, Bool, true, false, refl, sym, ap, subst, ◌∙◌, arith, inl, inr}
use Rattle.cbm_medium.specs.Place.{Place, directory_head}
use Rattle.cbm_medium.specs.Content.{Content}
use Rattle.cbm_medium.specs.Links.{IsApart}
use Rattle.cbm_file.specs.Files.{Disk}
use Rattle.cbm_bam.specs.Map.{is_free_in, free_in, tally, with_freed, map_of, Remaps}
use Rattle.cbm_bam.proofs.Counts.{AreTaken, tally_same, free_released}
use Rattle.cbm_chain.specs.Writing.{Part}
use Rattle.cbm_volume.specs.Layouts.{Owner, TheMap, Directory, DataOf, SideOf, Writer, is_loose, OwnedBy, Layout, IsOwned, Sound, Describes, HasLayout}
use Rattle.cbm_volume.proofs.layouts.Frames.{owned_same}
use Rattle.cbm_volume.proofs.layouts.Remaps.{with_map, with_counts, with_owner, sound_remap, describes_remap}
use Rattle.cbm_volume.proofs.layouts.Releases.{disowned, disowned_keeps, disowned_was, freed_nobody, freed_other, owned_taken}

-- the blocks of a writer are taken in the map
pub part_taken : (tracks : ℕ) (c c0 : Content) (l : Layout) (ch : ℕ) (xs : List Place) → Sound tracks c l → Part tracks c0 xs → OwnedBy l.owner (Writer ch) xs → AreTaken tracks (is_free_in (map_of c)) xs
part_taken tracks c c0 l ch [] s h w = tt
part_taken tracks c c0 l ch (b ∷ []) s h w = (h.0, h.1, owned_taken tracks c l b s h.0 (λ e. (let z = sym w.0 ∙ e in (cc))), tt)
part_taken tracks c c0 l ch (b ∷ b' ∷ rest) s h w = (h.0, h.1, freed_other (is_free_in (map_of c)) b (b' ∷ rest) h.2 ∙ owned_taken tracks c l b s h.0 (λ e. (let z = sym w.0 ∙ e in (cc))), part_taken tracks c c0 l ch (b' ∷ rest) s h.5 w.1)

-- BLOCKS THAT ARE NO PART OF THE DISK ARE GIVEN BACK
pub stands_given_back : (tracks : ℕ) (c c' : Content) (l : Layout) (d : Disk) (o : Owner) (xs : List Place) → HasLayout tracks c l d → 18 ≤ tracks → is_loose o ≡ true → OwnedBy l.owner o xs → AreTaken tracks (is_free_in (map_of c)) xs
    → Remaps tracks c c' (with_freed (is_free_in (map_of c)) xs) → HasLayout tracks c' (with_owner l (disowned l.owner xs)) (record d { free = d.free + length xs })
stands_given_back tracks c c' l d o xs st few loose own_xs t r =
    let owner : Place → Owner = disowned l.owner xs in
    let free : Place → Bool = with_freed (is_free_in (map_of c)) xs in
    let apart : (p : Owner) → is_loose p ≡ false → o ≢ p = λ p f e. (let z = sym loose ∙ ap is_loose e ∙ f in (cc)) in
    let keeps : (p : Owner) → is_loose p ≡ false → (q : Place) → l.owner q ≡ p → owner q ≡ p = λ p f q. disowned_keeps l.owner p o xs q (apart p f) own_xs in
    let w : IsOwned (with_owner l owner) = record {
      map = keeps TheMap refl directory_head st.sound.owned.map;
      directory = owned_same l.owner owner Directory l.directory (keeps Directory refl) st.sound.owned.directory;
      blocks = λ m k. owned_same l.owner owner (DataOf m) (l.files m).data_blocks (keeps (DataOf m) refl) (st.sound.owned.blocks m k);
      sides = λ m k. owned_same l.owner owner (SideOf m) (l.files m).sides (keeps (SideOf m) refl) (st.sound.owned.sides m k);
      on_18 = λ p e. elim (disowned_was l.owner xs p) [ inl a ↦ absurd (let z = sym a ∙ e in (cc)) | inr b ↦ st.sound.owned.on_18 p (sym b ∙ e) ];
      off_18 = λ p t18 m. elim (disowned_was l.owner xs p) [
        | inl a ↦ (λ e. (let z = sym a ∙ e in (cc)), λ e. (let z = sym a ∙ e in (cc)))
        | inr b ↦ (λ e. (st.sound.owned.off_18 p t18 m).0 (sym b ∙ e), λ e. (st.sound.owned.off_18 p t18 m).1 (sym b ∙ e))
      ];
    } in
    let room : tally (is_free_in r.map) 18 19 ≡ tally (is_free_in (map_of c)) 18 19 =
    tally_same (is_free_in r.map) (is_free_in (map_of c)) 18 19 (λ i j. r.mapped.bits (record { track = 18; sector = i }) (omega arith, few, j) ∙ freed_other (is_free_in (map_of c)) (record { track = 18; sector = i }) xs (off_apart (record { track = 18; sector = i }) refl xs t)) in
    let more : free_in tracks r.map ≡ free_in tracks (map_of c) + length xs = free_released tracks (map_of c) r.map xs st.sound.counted r.mapped t in
    let d' : with_counts tracks d r.map ≡ record d { free = d.free + length xs } = λ i. record d { room = (room ∙ sym st.describes.room) i; free = (more ∙ ap (λ (x : ℕ). x + length xs) (sym st.describes.free)) i } in
    record {
      sound = subst (λ (x : Content). Sound tracks x (with_owner l owner)) (sym r.written) (sound_remap tracks c l r.map free owner st.sound r.mapped w (λ q h e. freed_nobody (is_free_in (map_of c)) l.owner xs q (st.sound.free q h) e));
      describes = subst (λ (x : Content). Describes tracks x (with_owner l owner) (record d { free = d.free + length xs })) (sym r.written)
          (subst (λ (x : Disk). Describes tracks (with_map c r.map) (with_owner l owner) x) d' (describes_remap tracks c l d r.map free owner st.sound st.describes r.mapped));
    }
  where
    off_apart : (p : Place) → p.track ≡ 18 → (ys : List Place) → AreTaken tracks (is_free_in (map_of c)) ys → IsApart p ys
    off_apart p e [] h = tt
    off_apart p e (y ∷ ys) h = (λ z. h.1 (ap (λ (x : Place). x.track) (sym z) ∙ e), off_apart p e ys h.3)
