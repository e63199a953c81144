-- Blocks of GEOS put into a set, and whether one of a list is in a set.
use Rattle.std.proofs.Common.{◌≡◌, ℕ, zero, suc, ◌+◌, ◌*◌, ◌≤◌, List, [], ◌∷◌, ◌++◌, length, take, inl, inr, Bool, true, false, Ok, Err, refl, sym, ap, ◌∙◌, arith, append-nil}
use Rattle.std.specs.Prelude.{◌||◌, if◌then◌else◌}
use Rattle.cbm_medium.specs.Place.{Place, Has, has, directory_head}
use Rattle.cbm_medium.specs.Content.{Cell, Content}
use Rattle.cbm_medium.specs.Links.{place_in}
use Rattle.cbm_medium.proofs.Walks.{true_has, has_true, bool_cases}
use Rattle.cbm_bam.specs.Marks.{nothing}
use Rattle.cbm_directory.specs.Entries.{first_block, first_side}
use Rattle.cbm_shell.specs.Mapping.{chain_of, is_among}
use Rattle.cbm_shell.specs.Marking.{with_places}
use Rattle.cbm_shell.specs.Geos.{is_geos, has_geos_records, chains_in, chains_by, records_of, records_by, blocks_by, geos_blocks, in_geos, is_geos_map, border_by, border_in}
use Rattle.cbm_shell.specs.Freeing.{is_any}
use Rattle.cbm_shell.proofs.MapLemmas.{with-append, among}

-- ---- the chains that a block lists

pub chains-none : (used : Place → Bool) (tracks : ℕ) (content : Content) (block : List ℕ) → used ≡ with_places used (chains_in tracks content block 0)
unfolding with_places chains_in
chains-none used tracks content block = refl

chains-next : (tracks : ℕ) (content : Content) (block : List ℕ) (n : ℕ)
    → chains_in tracks content block (n + 1) ≡ chains_in tracks content block n ++ chain_of tracks content (place_in block (2 * n + 2))
unfolding chains_in
chains-next tracks content block n = ap (chains_in tracks content block) (let e : n + 1 ≡ suc n = omega arith in e)

pub chains-more : (used old new : Place → Bool) (tracks : ℕ) (content : Content) (block : List ℕ) (n : ℕ) (p : Place)
    → old ≡ with_places used (chains_in tracks content block n) → new ≡ with_places old (chain_of tracks content p) → p ≡ place_in block (2 * n + 2)
    → new ≡ with_places used (chains_in tracks content block (n + 1))
chains-more used old new tracks content block n p before added at =
    added ∙ ap (λ q. with_places old (chain_of tracks content q)) at
    ∙ ap (λ u. with_places u (chain_of tracks content (place_in block (2 * n + 2)))) before
    ∙ sym (with-append used (chains_in tracks content block n) (chain_of tracks content (place_in block (2 * n + 2))))
    ∙ ap (with_places used) (sym (chains-next tracks content block n))

-- ---- what isn't there

pub nothing_more : (used : Place → Bool) (xs : List Place) → xs ≡ [] → used ≡ with_places used xs
unfolding with_places
nothing_more used xs e = sym (ap (with_places used) e)

pub records_off : (tracks : ℕ) (content : Content) (p : Place) → (Has tracks p → ⊥) → records_of tracks content p ≡ []
records_off tracks content p none = elim (bool_cases (has tracks p)) [
  | inl there ↦ absurd (none (true_has tracks p there))
  | inr off ↦ ap (λ (b : Bool). if b then chains_by tracks content (content p) else []) off
]

pub records_read : (tracks : ℕ) (content : Content) (p : Place) (cell : Cell) → Has tracks p → content p ≡ cell → records_of tracks content p ≡ chains_by tracks content cell
records_read tracks content p cell h e =
    ap (λ (b : Bool). if b then chains_by tracks content (content p) else []) (has_true tracks p h) ∙ ap (chains_by tracks content) e

pub no_geos : (tracks : ℕ) (content : Content) (e : List ℕ) → is_geos e ≡ false → geos_blocks tracks content e ≡ []
no_geos tracks content e is = ap (λ b. blocks_by b tracks content e) is

-- ---- the info block, and the records

pub geos_plain : (used new : Place → Bool) (tracks : ℕ) (content : Content) (e : List ℕ) → is_geos e ≡ true → has_geos_records e ≡ false
    → new ≡ with_places used (chain_of tracks content (first_side e)) → new ≡ with_places used (geos_blocks tracks content e)
geos_plain used new tracks content e is plain added =
    added ∙ ap (with_places used) (sym (append-nil (chain_of tracks content (first_side e)))
    ∙ sym (ap (λ b. chain_of tracks content (first_side e) ++ records_by b tracks content (first_block e)) plain)
    ∙ sym (ap (λ b. blocks_by b tracks content e) is))

pub geos_listed : (used info new : Place → Bool) (tracks : ℕ) (content : Content) (e : List ℕ) → is_geos e ≡ true → has_geos_records e ≡ true
    → info ≡ with_places used (chain_of tracks content (first_side e)) → new ≡ with_places info (records_of tracks content (first_block e))
    → new ≡ with_places used (geos_blocks tracks content e)
geos_listed used info new tracks content e is listed first added =
    added ∙ ap (λ u. with_places u (records_of tracks content (first_block e))) first
    ∙ sym (with-append used (chain_of tracks content (first_side e)) (records_of tracks content (first_block e)))
    ∙ ap (with_places used) (sym (ap (λ b. chain_of tracks content (first_side e) ++ records_by b tracks content (first_block e)) listed)
    ∙ sym (ap (λ b. blocks_by b tracks content e) is))

-- ---- the files of a directory

pub geos-more : (used new whole : Place → Bool) (tracks : ℕ) (content : Content) (e : List ℕ) (rest left : List (List ℕ)) → left ≡ e ∷ rest
    → with_places used (in_geos tracks content left) ≡ whole → new ≡ with_places used (geos_blocks tracks content e)
    → with_places new (in_geos tracks content rest) ≡ whole
unfolding in_geos
geos-more used new whole tracks content e rest left begins before is =
    ap (λ u. with_places u (in_geos tracks content rest)) is ∙ sym (with-append used (geos_blocks tracks content e) (in_geos tracks content rest))
    ∙ sym (ap (λ l. with_places used (in_geos tracks content l)) begins) ∙ before

pub geos-all : (used whole : Place → Bool) (tracks : ℕ) (content : Content) (left : List (List ℕ)) → left ≡ []
    → with_places used (in_geos tracks content left) ≡ whole → used ≡ whole
unfolding in_geos with_places
geos-all used whole tracks content left none before = sym (ap (λ l. with_places used (in_geos tracks content l)) none) ∙ before

-- ---- the border block

pub border_off : (tracks : ℕ) (content : Content) (code : ℕ) → content directory_head ≡ Err code → border_in tracks content (content directory_head) ≡ []
border_off tracks content code e = ap (border_in tracks content) e

pub border_read : (tracks : ℕ) (content : Content) (map : List ℕ) (b : Bool) → content directory_head ≡ Ok map → is_geos_map map ≡ b
    → border_in tracks content (content directory_head) ≡ border_by b tracks content map
border_read tracks content map b e is = ap (border_in tracks content) e ∙ ap (λ c. border_by c tracks content map) is

-- both together, of an empty set
pub all_geos : (none border files : Place → Bool) (a b : List Place) → none ≡ nothing → border ≡ with_places none a → files ≡ with_places border b
    → files ≡ is_among (a ++ b)
all_geos none border files a b e f g =
    g ∙ ap (λ u. with_places u b) (f ∙ ap (λ u. with_places u a) e) ∙ sym (with-append nothing a b) ∙ among (a ++ b)

pub one_geos : (none files : Place → Bool) (a : List Place) → none ≡ nothing → files ≡ with_places none a → files ≡ is_among a
one_geos none files a e f = f ∙ ap (λ u. with_places u a) e ∙ among a

-- ---- one of them in a set

pub any_here : (held : Place → Bool) (p : Place) (rest left : List Place) → left ≡ p ∷ rest → held p ≡ true → is_any held left ≡ true
unfolding is_any
any_here held p rest left begins is = ap (is_any held) begins ∙ ap (λ b. b || is_any held rest) is

pub any_later : (held : Place → Bool) (whole : Bool) (p : Place) (rest left : List Place) → left ≡ p ∷ rest → held p ≡ false → is_any held left ≡ whole → is_any held rest ≡ whole
unfolding is_any
any_later held whole p rest left begins is before = sym (ap (is_any held) begins ∙ ap (λ b. b || is_any held rest) is) ∙ before

pub any_none : (held : Place → Bool) (left : List Place) → length left ≡ 0 → is_any held left ≡ false
unfolding is_any
any_none held [] e = refl
any_none held (p ∷ rest) e = absurd (omega arith)

-- ---- the first of the first

pub take_twice : (m n : ℕ) (xs : List ℕ) → m ≤ n → take m (take n xs) ≡ take m xs
take_twice zero n xs h = refl
take_twice (suc m) zero xs h = absurd (omega arith)
take_twice (suc m) (suc n) [] h = refl
take_twice (suc m) (suc n) (x ∷ xs) h = ap (λ l. x ∷ l) (take_twice m n xs (omega arith))
