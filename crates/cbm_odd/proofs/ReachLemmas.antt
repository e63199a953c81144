-- The sectors that odd entries lead to, an entry at a time.
use Rattle.std.proofs.Common.{◌≡◌, ℕ, List, [], ◌∷◌, ◌++◌, Bool, true, false, sym, ap, ◌∙◌, append-nil}
use Rattle.std.specs.Prelude.{if◌then◌else◌}
use Rattle.cbm_medium.specs.Place.{Place}
use Rattle.cbm_medium.specs.Content.{Content}
use Rattle.cbm_directory.specs.Entries.{is_relative, first_block, first_side}
use Rattle.cbm_bam.specs.Marks.{nothing}
use Rattle.cbm_shell.specs.Mapping.{chain_of, is_among}
use Rattle.cbm_shell.specs.Marking.{with_places}
use Rattle.cbm_shell.proofs.MapLemmas.{with-append, among}
use Rattle.cbm_odd.specs.declared.odd.Odd.{Odd}
use Rattle.cbm_odd.specs.Held.{reach_of, reached_by}

-- no side sectors
pub reach_plain : (used new : Place → Bool) (tracks : ℕ) (content : Content) (e : List ℕ) → is_relative e ≡ false
    → new ≡ with_places used (chain_of tracks content (first_block e)) → new ≡ with_places used (reach_of tracks content e)
reach_plain used new tracks content e plain is =
    is ∙ sym (ap (λ l. with_places used l) (append-nil (chain_of tracks content (first_block e))))
    ∙ sym (ap (λ (b : Bool). with_places used (chain_of tracks content (first_block e) ++ (if b then chain_of tracks content (first_side e) else []))) plain)

-- side sectors
pub reach_sides : (used blocks new : Place → Bool) (tracks : ℕ) (content : Content) (e : List ℕ) → is_relative e ≡ true
    → blocks ≡ with_places used (chain_of tracks content (first_block e)) → new ≡ with_places blocks (chain_of tracks content (first_side e))
    → new ≡ with_places used (reach_of tracks content e)
reach_sides used blocks new tracks content e relative is more =
    more ∙ ap (λ u. with_places u (chain_of tracks content (first_side e))) is
    ∙ sym (with-append used (chain_of tracks content (first_block e)) (chain_of tracks content (first_side e)))
    ∙ sym (ap (λ (b : Bool). with_places used (chain_of tracks content (first_block e) ++ (if b then chain_of tracks content (first_side e) else []))) relative)

pub reach_more : (used new whole : Place → Bool) (tracks : ℕ) (content : Content) (odd : Odd) (rest left : List Odd) → left ≡ odd ∷ rest
    → with_places used (reached_by tracks content left) ≡ whole → new ≡ with_places used (reach_of tracks content odd.entry)
    → with_places new (reached_by tracks content rest) ≡ whole
unfolding reached_by
reach_more used new whole tracks content odd rest left begins before is =
    ap (λ u. with_places u (reached_by tracks content rest)) is ∙ sym (with-append used (reach_of tracks content odd.entry) (reached_by tracks content rest))
    ∙ sym (ap (λ l. with_places used (reached_by tracks content l)) begins) ∙ before

pub reach_all : (used whole : Place → Bool) (tracks : ℕ) (content : Content) (left : List Odd) → left ≡ []
    → with_places used (reached_by tracks content left) ≡ whole → used ≡ whole
unfolding reached_by with_places
reach_all used whole tracks content left none before = sym (ap (λ l. with_places used (reached_by tracks content l)) none) ∙ before

-- from no sector on
pub reach_from : (none used : Place → Bool) (tracks : ℕ) (content : Content) (odds : List Odd) → none ≡ nothing → used ≡ with_places none (reached_by tracks content odds)
    → used ≡ is_among (reached_by tracks content odds)
reach_from none used tracks content odds n is = is ∙ ap (λ u. with_places u (reached_by tracks content odds)) n ∙ among (reached_by tracks content odds)
