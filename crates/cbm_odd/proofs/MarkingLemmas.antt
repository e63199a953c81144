-- Sectors that the BAM has as free, and sets of sectors, one after another.
use Rattle.std.proofs.Common.{◌≡◌, ℕ, List, [], ◌∷◌, ◌++◌, Bool, true, sym, ap, ◌∙◌, append_assoc, append-nil}
use Rattle.cbm_medium.specs.Place.{Place}
use Rattle.cbm_medium.specs.Content.{Cell, Content}
use Rattle.cbm_bam.specs.Map.{with_bit}
use Rattle.cbm_bam.specs.Marks.{nothing}
use Rattle.cbm_shell.specs.Mapping.{free_by, is_among}
use Rattle.cbm_shell.specs.Marking.{with_places}
use Rattle.cbm_shell.specs.Passing.{place_if, places_in}
use Rattle.cbm_shell.proofs.MapLemmas.{among}
use Rattle.cbm_odd.specs.Marking.{free_among, is_taken_now}

pub free-all : (out whole : List Place) (head : Cell) (left : List Place) → left ≡ [] → out ++ free_among head left ≡ whole → out ≡ whole
unfolding free_among
free-all out whole head left none before = sym (append-nil out) ∙ sym (ap (λ (l : List Place). out ++ free_among head l) none) ∙ before

pub free-more : (out new whole : List Place) (head : Cell) (p : Place) (left rest : List Place) (b : Bool) → left ≡ p ∷ rest → out ++ free_among head left ≡ whole
    → b ≡ free_by head p → new ≡ out ++ place_if b p → new ++ free_among head rest ≡ whole
unfolding free_among
free-more out new whole head p left rest b begins before is added =
    ap (λ (l : List Place). l ++ free_among head rest) (added ∙ ap (λ (c : Bool). out ++ place_if c p) is)
    ∙ append_assoc out (place_if (free_by head p) p) (free_among head rest)
    ∙ sym (ap (λ (l : List Place). out ++ free_among head l) begins) ∙ before

pub set-start : (none : Place → Bool) (all left : List Place) → none ≡ nothing → left ≡ all → with_places none left ≡ is_among all
set-start none all left n e = ap (λ (u : Place → Bool). with_places u left) n ∙ ap (λ (l : List Place). with_places nothing l) e ∙ among all

pub set-more : (used new whole : Place → Bool) (p : Place) (left rest : List Place) → left ≡ p ∷ rest → with_places used left ≡ whole → new ≡ with_bit used p true
    → with_places new rest ≡ whole
unfolding with_places
set-more used new whole p left rest begins before is = ap (λ (u : Place → Bool). with_places u rest) is ∙ sym (ap (λ (l : List Place). with_places used l) begins) ∙ before

pub set-all : (used whole : Place → Bool) (left : List Place) → left ≡ [] → with_places used left ≡ whole → used ≡ whole
unfolding with_places
set-all used whole left none before = sym (ap (λ (l : List Place). with_places used l) none) ∙ before

-- of two sets that are these sectors
pub taken-by : {A : Type 0} (set : A → Place → Bool) (s : A) (tracks : ℕ) (content : Content) (head : Cell) (first other : Place → Bool) (more less taken : List Place)
    → first ≡ is_among more → other ≡ is_among less → taken ≡ places_in (is_taken_now head first other) tracks → set s ≡ is_among taken
    → set s ≡ is_among (places_in (is_taken_now head (is_among more) (is_among less)) tracks)
taken-by set s tracks content head first other more less taken a b t is =
    is ∙ ap is_among t ∙ ap (λ (f : Place → Bool). is_among (places_in (is_taken_now head f other) tracks)) a
    ∙ ap (λ (f : Place → Bool). is_among (places_in (is_taken_now head (is_among more) f) tracks)) b
