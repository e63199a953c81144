-- A chain whose blocks are all free, and the sectors that are taken with it.
use Rattle.std.proofs.Common.{◌≡◌, ◌≢◌, ℕ, suc, List, [], ◌++◌, Bool, true, false, Ok, sym, ap, ◌∙◌, arith}
use Rattle.std.specs.Prelude.{◌&&◌}
use Rattle.cbm_medium.specs.Place.{Place, Has, sector_count, directory_head}
use Rattle.cbm_medium.specs.Content.{Content}
use Rattle.cbm_medium.specs.Links.{link, follow}
use Rattle.cbm_medium.proofs.Walks.{follow_next}
use Rattle.cbm_bam.specs.Marks.{nothing}
use Rattle.cbm_shell.specs.Mapping.{chain_of, free_by, is_among}
use Rattle.cbm_shell.specs.Marking.{with_places}
use Rattle.cbm_shell.specs.Undeleting.{all_blocks_free}
use Rattle.cbm_shell.proofs.MapLemmas.{with-append, among}

pub free_begins : (tracks : ℕ) (content : Content) (n : ℕ) (a : Place) → n ≡ sector_count tracks → all_blocks_free content (follow tracks content n a).blocks ≡ all_blocks_free content (chain_of tracks content a)
unfolding chain_of
free_begins tracks content n a e = ap (λ k. all_blocks_free content (follow tracks content k a).blocks) e

-- nothing is left of the chain
pub free_over : (content : Content) (rest : List Place) (whole : Bool) → all_blocks_free content rest ≡ whole → rest ≡ [] → true ≡ whole
unfolding all_blocks_free
free_over content rest whole h none = sym (ap (all_blocks_free content) none) ∙ h

free_next : (tracks : ℕ) (content : Content) (m n : ℕ) (p : Place) (bytes : List ℕ) → Has tracks p → content p ≡ Ok bytes → m ≡ suc n
    → all_blocks_free content (follow tracks content m p).blocks ≡ (free_by (content directory_head) p && all_blocks_free content (follow tracks content n (link bytes)).blocks)
unfolding all_blocks_free
free_next tracks content m n p bytes h reads less =
    let going : p.track ≢ 0 = λ e. omega (arith, h.0, e) in
    ap (λ f. all_blocks_free content f.blocks) (follow_next tracks content m n p bytes going h less reads)

-- a block that isn't free
pub free_not : (tracks : ℕ) (content : Content) (m n : ℕ) (p : Place) (bytes : List ℕ) (whole : Bool) → all_blocks_free content (follow tracks content m p).blocks ≡ whole → Has tracks p → content p ≡ Ok bytes → m ≡ suc n
    → free_by (content directory_head) p ≡ false → false ≡ whole
free_not tracks content m n p bytes whole e h reads less taken =
    sym (ap (λ (b : Bool). b && all_blocks_free content (follow tracks content n (link bytes)).blocks) taken) ∙ sym (free_next tracks content m n p bytes h reads less) ∙ e

-- and one that is
pub free_more : (tracks : ℕ) (content : Content) (m n : ℕ) (p : Place) (bytes : List ℕ) (whole : Bool) → all_blocks_free content (follow tracks content m p).blocks ≡ whole → Has tracks p → content p ≡ Ok bytes → m ≡ suc n
    → free_by (content directory_head) p ≡ true → all_blocks_free content (follow tracks content n (link bytes)).blocks ≡ whole
free_more tracks content m n p bytes whole e h reads less free =
    sym (ap (λ (b : Bool). b && all_blocks_free content (follow tracks content n (link bytes)).blocks) free) ∙ sym (free_next tracks content m n p bytes h reads less) ∙ e

-- a set of sectors, and more of them
pub joined : (f g : Place → Bool) (xs ys : List Place) → f ≡ is_among xs → g ≡ with_places f ys → g ≡ is_among (xs ++ ys)
joined f g xs ys e h =
    h ∙ ap (λ u. with_places u ys) (e ∙ sym (among xs)) ∙ sym (with-append nothing xs ys) ∙ among (xs ++ ys)
