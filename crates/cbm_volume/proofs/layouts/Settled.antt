-- A content settles where its disk lies, and which disk it means; only the owners of lost blocks are open.
use Rattle.std.proofs.Common.{◌≡◌, ℕ, ◌*◌, ◌<◌, List, length, get_or, Bool, true, false, refl, sym, ap, subst, ◌∙◌, arith, Option, None}
use Rattle.std.proofs.lemmas.List.{same_lists, get_or_default}
use Rattle.cbm_medium.specs.Place.{Place}
use Rattle.cbm_medium.specs.Content.{Content}
use Rattle.cbm_medium.specs.Links.{AllSame}
use Rattle.cbm_file.specs.Files.{Disk, File}
use Rattle.cbm_directory.specs.Entries.{first_block, is_closed, is_relative, entry_at, first_directory}
use Rattle.cbm_volume.specs.Blocks.{Blocks, LiesAs, slot_of}
use Rattle.cbm_volume.specs.Layouts.{Layout, slot_count, Sound, HasLayout, Untouched, DataOf, SideOf}
use Rattle.cbm_volume.proofs.layouts.Chained.{chains_one, chain_settled}
use Rattle.cbm_volume.proofs.layouts.Untouched.{KeepsFiles, all_same}

same_blocks : (a b : Blocks) → a.data_blocks ≡ b.data_blocks → a.sides ≡ b.sides → a ≡ b
same_blocks a b e f = λ i. record { data_blocks = e i; sides = f i }

-- a file of one entry lies in the same blocks, on disks of however many tracks
pub lies_settled : (cl r : Bool) (tracks tracks' : ℕ) (c : Content) (e : List ℕ) (a b : Blocks) → LiesAs cl r tracks c e a → LiesAs cl r tracks' c e b → a ≡ b
lies_settled false r tracks tracks' c e a b h k = h ∙ sym k
lies_settled true false tracks tracks' c e a b h k = same_blocks a b (chains_one tracks tracks' c (first_block e) a.data_blocks b.data_blocks h.0 k.0) (h.1 ∙ sym k.1)
lies_settled true true tracks tracks' c e a b h k = same_blocks a b (chains_one tracks tracks' c (first_block e) a.data_blocks b.data_blocks h.0 k.0) (h.1.listed ∙ sym k.1.listed)

pub same_directory : (tracks : ℕ) (c : Content) (l k : Layout) → Sound tracks c l → Sound tracks c k → l.directory ≡ k.directory
same_directory tracks c l k s t = chain_settled tracks c first_directory l.directory k.directory s.directory t.directory

-- THE FILES LIE WHERE THEY LIE, in each layout of one content
pub same_files : (tracks : ℕ) (c : Content) (l k : Layout) (n : ℕ) → Sound tracks c l → Sound tracks c k → n < slot_count l → l.files n ≡ k.files n
same_files tracks c l k n s t h =
    let e : entry_at c l.directory n ≡ entry_at c k.directory n = ap (λ (x : List Place). entry_at c x n) (same_directory tracks c l k s t) in
    let h' : n < slot_count k = omega (arith, h, ap length (same_directory tracks c l k s t)) in
    lies_settled (is_closed (entry_at c l.directory n)) (is_relative (entry_at c l.directory n)) tracks tracks c (entry_at c l.directory n) (l.files n) (k.files n) (s.lies n h)
    (subst (λ (x : List ℕ). LiesAs (is_closed x) (is_relative x) tracks c x (k.files n)) (sym e) (t.lies n h'))

-- UNTOUCHED, from one layout for all: what a writer writes to is nobody's in the layout that knows the writer
pub untouched_in : (tracks : ℕ) (c c' : Content) (k : Layout) (but : ℕ → Bool) → Sound tracks c k → KeepsFiles k c c' → Untouched tracks c c' but
untouched_in tracks c c' k but t keeps l s m h b =
    let h' : m < slot_count k = omega (arith, h, ap length (same_directory tracks c l k s t)) in
    subst (λ (x : Blocks). AllSame c c' x.data_blocks × AllSame c c' x.sides) (sym (same_files tracks c l k m s t h))
    (all_same c c' k (DataOf m) (k.files m).data_blocks keeps refl (t.owned.blocks m h'), all_same c c' k (SideOf m) (k.files m).sides keeps refl (t.owned.sides m h'))

-- ONE CONTENT MEANS ONE DISK
pub disk_settled : (tracks : ℕ) (c : Content) (l k : Layout) (d d' : Disk) → HasLayout tracks c l d → HasLayout tracks c k d' → d ≡ d'
disk_settled tracks c l k d d' s t =
    let n : length d.slots ≡ length d'.slots = s.describes.size ∙ ap (λ (x : List Place). 8 * length x) (same_directory tracks c l k s.sound t.sound) ∙ sym t.describes.size in
    let slots : d.slots ≡ d'.slots = same_lists d.slots d'.slots n (λ i x h. at_default i x h n) in
    λ i. record {
      title = (s.describes.title ∙ sym t.describes.title) i;
      mark = (s.describes.mark ∙ sym t.describes.mark) i;
      slots = slots i;
      total = (s.describes.total ∙ sym t.describes.total) i;
      room = (s.describes.room ∙ sym t.describes.room) i;
      free = (s.describes.free ∙ sym t.describes.free) i;
    }
  where
    at_default : (i : ℕ) (x : Option File) → i < length d.slots → length d.slots ≡ length d'.slots → get_or d.slots i x ≡ get_or d'.slots i x
    at_default i x h n =
        let a : i < slot_count l = omega (arith, s.describes.size) in
        let b : i < slot_count k = omega (arith, t.describes.size) in
        get_or_default d.slots i x None h ∙ s.describes.slots i a
        ∙ ap (λ (y : List Place). slot_of c (entry_at c y i) (l.files i)) (same_directory tracks c l k s.sound t.sound)
        ∙ ap (λ (y : Blocks). slot_of c (entry_at c k.directory i) y) (same_files tracks c l k i s.sound t.sound a)
        ∙ sym (t.describes.slots i b) ∙ get_or_default d'.slots i None x (omega arith)
