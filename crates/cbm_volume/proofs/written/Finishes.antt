-- A writer's blocks become a file's.
use Rattle.std.proofs.Common.{◌≡◌, ◌≢◌, ◌⊎◌, ℕ, ◌%◌, ◌<◌, List, [], ◌∷◌, Bool, true, false, IsOk, refl, sym, ap, subst, ◌∙◌, inl, inr}
use Rattle.cbm_medium.specs.Place.{Place}
use Rattle.cbm_medium.specs.Content.{Content}
use Rattle.cbm_medium.specs.Links.{bytes_at, link, Chain}
use Rattle.cbm_file.specs.Files.{Disk, with_slot}
use Rattle.cbm_directory.specs.Entries.{type_byte, first_block, is_closed, is_relative, sector_of, Enters}
use Rattle.cbm_volume.specs.Blocks.{Blocks, no_blocks, Lies, LiesAs, slot_of}
use Rattle.cbm_volume.specs.Layouts.{Owner, Nobody, DataOf, SideOf, Writer, is_loose, OwnedBy, Layout, IsOwned, slot_count, HasLayout, Extends, own}
use Rattle.cbm_chain.specs.Writing.{Part, last_of}
use Rattle.cbm_chain.proofs.Parts.{part_chain}
use Rattle.cbm_medium.proofs.Places.{place_decide}
use Rattle.cbm_volume.proofs.layouts.OneSlot.{with_file}
use Rattle.cbm_volume.proofs.layouts.Steps.{stands_entry, own_there, own_elsewhere}

-- the owners when these sectors are another's
abbrev pub own_all : (Place → Owner) → List Place → Owner → Place → Owner
own_all owner [] o = owner
own_all owner (x ∷ xs) o = own (own_all owner xs o) x o

pub own_all_was : (owner : Place → Owner) (xs : List Place) (o : Owner) (q : Place) → (own_all owner xs o q ≡ o) ⊎ (own_all owner xs o q ≡ owner q)
own_all_was owner [] o q = inr refl
own_all_was owner (x ∷ xs) o q = elim (place_decide x q) [
  | inl e ↦ inl (ap (own_all owner (x ∷ xs) o) (sym e) ∙ own_there (own_all owner xs o) x o)
  | inr ne ↦ (elim (own_all_was owner xs o q) [ inl a ↦ inl (own_elsewhere (own_all owner xs o) x q o ne ∙ a) | inr b ↦ inr (own_elsewhere (own_all owner xs o) x q o ne ∙ b) ])
]

pub own_all_keeps : (owner : Place → Owner) (from o p : Owner) (xs : List Place) (q : Place) → OwnedBy owner from xs → from ≢ p → owner q ≡ p → own_all owner xs o q ≡ p
own_all_keeps owner from o p [] q w ne e = e
own_all_keeps owner from o p (x ∷ xs) q w ne e = own_elsewhere (own_all owner xs o) x q o (λ z. ne (sym w.0 ∙ ap owner z ∙ e)) ∙ own_all_keeps owner from o p xs q w.1 ne e

own_all_mono : (owner : Place → Owner) (x : Place) (o : Owner) (ys : List Place) → OwnedBy owner o ys → OwnedBy (own owner x o) o ys
own_all_mono owner x o [] h = tt
own_all_mono owner x o (y ∷ ys) h = (elim (place_decide x y) [ inl e ↦ ap (own owner x o) (sym e) ∙ own_there owner x o | inr ne ↦ own_elsewhere owner x y o ne ∙ h.0 ], own_all_mono owner x o ys h.1)

pub own_all_there : (owner : Place → Owner) (xs : List Place) (o : Owner) → OwnedBy (own_all owner xs o) o xs
own_all_there owner [] o = tt
own_all_there owner (x ∷ xs) o = (own_there (own_all owner xs o) x o, own_all_mono (own_all owner xs o) x o xs (own_all_there owner xs o))

-- off track 18
abbrev pub AllOff : List Place → Type 0
AllOff [] = Unit {0}
AllOff (x ∷ xs) = (x.track ≢ 18) × AllOff xs

pub part_off : (tracks : ℕ) (c : Content) (xs : List Place) → Part tracks c xs → AllOff xs
part_off tracks c [] h = tt
part_off tracks c (b ∷ []) h = (h.1, tt)
part_off tracks c (b ∷ b' ∷ rest) h = (h.1, part_off tracks c (b' ∷ rest) h.5)

pub all_off_18 : (owner : Place → Owner) (xs : List Place) (o p : Owner) (q : Place) → AllOff xs → q.track ≡ 18 → own_all owner xs o q ≡ p → owner q ≡ p
all_off_18 owner [] o p q h t e = e
all_off_18 owner (x ∷ xs) o p q h t e = all_off_18 owner xs o p q h.1 t (sym (own_elsewhere (own_all owner xs o) x q o (λ z. h.0 (ap (λ (y : Place). y.track) z ∙ t))) ∙ e)

pub extends_all : (l : Layout) (ch n : ℕ) (xs : List Place) → IsOwned l → OwnedBy l.owner (Writer ch) xs → AllOff xs → Extends l n (own_all l.owner xs (DataOf n))
extends_all l ch n xs w h off = record {
  keeps = λ q o k e. own_all_keeps l.owner (Writer ch) (DataOf n) o xs q h (λ z. (let y = ap is_loose z ∙ k.part in (cc))) e;
  on_18 = λ q e. elim (own_all_was l.owner xs (DataOf n) q) [ inl a ↦ absurd (let z = sym a ∙ e in (cc)) | inr b ↦ w.on_18 q (sym b ∙ e) ];
  off_18 = λ q t m. (λ e. (w.off_18 q t m).0 (all_off_18 l.owner xs (DataOf n) (DataOf m) q off t e), λ e. (w.off_18 q t m).1 (all_off_18 l.owner xs (DataOf n) (SideOf m) q off t e));
}

-- THE ENTRY IS CLOSED over the blocks of a writer, however many
pub stands_finish : (tracks : ℕ) (c c' : Content) (l : Layout) (d : Disk) (n ch : ℕ) (s first : Place) (more : List Place) (body : List ℕ) → HasLayout tracks c l d → n < slot_count l → s ≡ sector_of l.directory n
    → OwnedBy l.owner (Writer ch) (first ∷ more) → Part tracks c (first ∷ more) → IsOk (c (last_of first more)) → (link (bytes_at c (last_of first more))).track ≡ 0
    → Enters c c' s (n % 8) body → type_byte body % 16 < 5 → is_closed body ≡ true → is_relative body ≡ false → first_block body ≡ first
    → HasLayout tracks c' (with_file l n (record { data_blocks = first ∷ more; sides = [] }) (own_all l.owner (first ∷ more) (DataOf n)))
    (with_slot d n (slot_of c body (record { data_blocks = first ∷ more; sides = [] })))
stands_finish tracks c c' l d n ch s first more body st k at w part ok z e t cl rel fb =
    let entry : List ℕ = body in
    let b : Blocks = record { data_blocks = first ∷ more; sides = [] } in
    let chain : Chain tracks c (first_block entry) (first ∷ more) = subst (λ (x : Place). Chain tracks c x (first ∷ more)) (sym fb) (part_chain tracks c first more part ok z) in
    let lies : Lies tracks c entry b = subst (λ (x : Bool). LiesAs x (is_relative entry) tracks c entry b) (sym cl) (subst (λ (x : Bool). LiesAs true x tracks c entry b) (sym rel) (chain, refl)) in
    stands_entry tracks c c' l d n s body b (own_all l.owner (first ∷ more) (DataOf n)) st k at e t lies
    (extends_all l ch n (first ∷ more) st.sound.owned w (part_off tracks c (first ∷ more) part)) (own_all_there l.owner (first ∷ more) (DataOf n)) tt
    (λ q h f. own_all_keeps l.owner (Writer ch) (DataOf n) Nobody (first ∷ more) q w (λ y. (cc)) (st.sound.free q h f))

-- ---- an append: the blocks of a file go to a writer, and its entry is opened

pub extends_back : (l : Layout) (ch n : ℕ) (xs : List Place) → IsOwned l → OwnedBy l.owner (DataOf n) xs → Extends l n (own_all l.owner xs (Writer ch))
extends_back l ch n xs w h = record {
  keeps = λ q o k e. own_all_keeps l.owner (DataOf n) (Writer ch) o xs q h (λ z. k.not_data (sym z)) e;
  on_18 = λ q e. elim (own_all_was l.owner xs (Writer ch) q) [ inl a ↦ absurd (let z = sym a ∙ e in (cc)) | inr b ↦ w.on_18 q (sym b ∙ e) ];
  off_18 = λ q t m. elim (own_all_was l.owner xs (Writer ch) q) [
    | inl a ↦ (λ e. (let z = sym a ∙ e in (cc)), λ e. (let z = sym a ∙ e in (cc)))
    | inr b ↦ (λ e. (w.off_18 q t m).0 (sym b ∙ e), λ e. (w.off_18 q t m).1 (sym b ∙ e))
  ];
}

pub stands_reopen : (tracks : ℕ) (c c' : Content) (l : Layout) (d : Disk) (n ch : ℕ) (s : Place) (body : List ℕ) → HasLayout tracks c l d → n < slot_count l → s ≡ sector_of l.directory n
    → Enters c c' s (n % 8) body → type_byte body % 16 < 5 → is_closed body ≡ false
    → HasLayout tracks c' (with_file l n no_blocks (own_all l.owner (l.files n).data_blocks (Writer ch))) (with_slot d n (slot_of c body no_blocks))
stands_reopen tracks c c' l d n ch s body st k at e t cl =
    let xs : List Place = (l.files n).data_blocks in
    stands_entry tracks c c' l d n s body no_blocks (own_all l.owner xs (Writer ch)) st k at e t
    (subst (λ (x : Bool). LiesAs x (is_relative body) tracks c body no_blocks) (sym cl) refl)
    (extends_back l ch n xs st.sound.owned (st.sound.owned.blocks n k)) tt tt
    (λ q h f. own_all_keeps l.owner (DataOf n) (Writer ch) Nobody xs q (st.sound.owned.blocks n k) (λ y. (cc)) (st.sound.free q h f))

-- ---- the last of the blocks that one owns is its own

pub last_owned : (owner : Place → Owner) (o : Owner) (b : Place) (rest : List Place) → OwnedBy owner o (b ∷ rest) → owner (last_of b rest) ≡ o
last_owned owner o b [] h = h.0
last_owned owner o b (x ∷ xs) h = last_owned owner o x xs h.1
