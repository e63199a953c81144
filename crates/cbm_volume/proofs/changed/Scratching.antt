-- A slot is cleared, and the blocks of its file are given back: no channel notices.
use Rattle.std.proofs.Common.{◌≡◌, ◌≢◌, ℕ, ◌+◌, ◌%◌, ◌<◌, ◌≤◌, length, arith, List, true, false, refl, sym, ap, ◌∙◌, None}
use Rattle.std.specs.Prelude.{◌==◌}
use Rattle.std.proofs.lemmas.Bool.{eq-eqb, ne_eqb}
use Rattle.cbm_medium.specs.Place.{Place, directory_head}
use Rattle.cbm_medium.specs.Content.{Content}
use Rattle.cbm_file.specs.Files.{Disk, with_slot}
use Rattle.cbm_bam.specs.Map.{is_free_in, with_freed, map_of, Remaps}
use Rattle.cbm_bam.proofs.Counts.{AreTaken}
use Rattle.cbm_directory.specs.Entries.{Enters, type_byte, sector_of}
use Rattle.cbm_volume.specs.Blocks.{no_blocks}
use Rattle.cbm_volume.specs.Layouts.{Owner, TheMap, Directory, DataOf, Writer, OwnedBy, Layout, slot_count}
use Rattle.cbm_volume.specs.Writers.{Use, uses_slot, HoldsAt}
use Rattle.cbm_volume.specs.Opens.{IsUnused}
use Rattle.cbm_volume.proofs.layouts.Frames.{Keeps}
use Rattle.cbm_volume.proofs.layouts.Loose.{sector_owned}
use Rattle.cbm_volume.proofs.layouts.OneSlot.{with_file, blocks_here}
use Rattle.cbm_volume.proofs.layouts.Remaps.{with_owner}
use Rattle.cbm_volume.proofs.layouts.Releases.{disowned, disowned_keeps, stands_release}
use Rattle.cbm_volume.proofs.layouts.Writers.{written_keeps}
use Rattle.cbm_volume.proofs.written.Closing.{other_slot}
use Rattle.cbm_volume.proofs.written.Replaced.{holds_all}
use Rattle.cbm_volume.proofs.relative.Scratched.{gathered, gathered_keeps, stands_cleared}

spared_by : (uses : ℕ → Use) (n : ℕ) → IsUnused uses n → (m i : ℕ) → uses_slot i (uses m) ≡ true → (i == n) ≡ false
spared_by uses n unused m i h = ne_eqb i n (λ e. (let z = sym (unused m) ∙ ap (λ (k : ℕ). uses_slot k (uses m)) (sym e) ∙ h in (cc)))

-- the entry is cleared
pub cleared_over : (tracks : ℕ) (c c' : Content) (l : Layout) (d : Disk) (uses : ℕ → Use) (n : ℕ) (body : List ℕ) → HoldsAt tracks c l d uses → n < slot_count l → IsUnused uses n
    → Enters c c' (sector_of l.directory n) (n % 8) body → type_byte body ≡ 0 → HoldsAt tracks c' (with_file l n no_blocks (gathered l n)) (with_slot d n None) uses
cleared_over tracks c c' l d uses n body h k unused enters z =
    let keeps : (o : Owner) → Directory ≢ o → Keeps c c' l.owner o = λ o ne. written_keeps c c' (sector_of l.directory n) enters.sector l.owner o enters.written (λ y. ne (sym (sector_owned l h.stands.sound.owned n k) ∙ y)) in
    holds_all tracks c c' l (with_file l n no_blocks (gathered l n)) d (with_slot d n None) uses (λ m. m == n) h (stands_cleared tracks c c' l d n (sector_of l.directory n) body h.stands k refl enters z)
    (record {
      writers = λ x f. keeps (Writer x) (λ y. (cc));
      writers_own = λ x q f e. gathered_keeps tracks c l n (Writer x) q h.stands.sound k (λ y. (cc)) e;
      files = λ m f. keeps (DataOf m) (λ y. (cc));
      files_own = λ m q f e. gathered_keeps tracks c l n (DataOf m) q h.stands.sound k (λ y. (cc)) e;
      more = omega arith;
      slots = λ m f. other_slot d n m None f;
    }) (spared_by uses n unused)

-- and its blocks are given back
pub scratched_over : (tracks : ℕ) (c c' : Content) (l : Layout) (owner : Place → Owner) (d : Disk) (uses : ℕ → Use) (n : ℕ) (xs : List Place) → 18 ≤ tracks → HoldsAt tracks c (with_file l n no_blocks owner) d uses → IsUnused uses n
    → OwnedBy owner (DataOf n) xs → AreTaken tracks (is_free_in (map_of c)) xs → Remaps tracks c c' (with_freed (is_free_in (map_of c)) xs)
    → HoldsAt tracks c' (with_owner (with_file l n no_blocks owner) (disowned owner xs)) (record d { free = d.free + length xs }) uses
scratched_over tracks c c' l owner d uses n xs few h unused held taken r =
    let l1 : Layout = with_file l n no_blocks owner in
    let keeps : (o : Owner) → TheMap ≢ o → Keeps c c' owner o = λ o ne. written_keeps c c' directory_head r.map owner o r.written (λ e. ne (sym h.stands.sound.owned.map ∙ e)) in
    let owned : (o : Owner) (q : Place) → DataOf n ≢ o → owner q ≡ o → disowned owner xs q ≡ o = λ o q ne. disowned_keeps owner o (DataOf n) xs q ne held in
    holds_all tracks c c' l1 (with_owner l1 (disowned owner xs)) d (record d { free = d.free + length xs }) uses (λ m. m == n) h
    (stands_release tracks c c' l1 d n xs h.stands few (blocks_here l.files n no_blocks) held taken r)
    (record {
      writers = λ x f. keeps (Writer x) (λ z. (cc));
      writers_own = λ x q f. owned (Writer x) q (λ z. (cc));
      files = λ m f. keeps (DataOf m) (λ z. (cc));
      files_own = λ m q f. owned (DataOf m) q (λ y. (let g : m ≡ n = cc in let t = sym (eq-eqb m n g) ∙ f in (cc)));
      more = omega arith;
      slots = λ m f. refl;
    }) (spared_by uses n unused)
