-- The odd entries of a directory, an entry at a time.
use Rattle.std.proofs.Common.{◌≡◌, ℕ, ◌+◌, List, [], ◌∷◌, ◌++◌, Bool, sym, ap, ◌∙◌, append_assoc, append-nil}
use Rattle.cbm_shell.specs.declared.broken.flaws.found.DiskFlaw.{DiskFlaw}
use Rattle.cbm_odd.specs.declared.odd.Odd.{Odd}
use Rattle.cbm_odd.specs.Odd.{is_slot_flawed, odd_if, odds_among, is_odd_slot, unless_odd, others_among}

pub odds-all : (out whole : List Odd) (flaws : List DiskFlaw) (slot : ℕ) (left : List (List ℕ)) → left ≡ [] → out ++ odds_among flaws slot left ≡ whole → out ≡ whole
unfolding odds_among
odds-all out whole flaws slot left none before = sym (append-nil out) ∙ sym (ap (λ (l : List (List ℕ)). out ++ odds_among flaws slot l) none) ∙ before

pub odds-more : (out new whole : List Odd) (flaws : List DiskFlaw) (slot next : ℕ) (e : List ℕ) (left rest : List (List ℕ)) (b : Bool) → left ≡ e ∷ rest
    → out ++ odds_among flaws slot left ≡ whole → b ≡ is_slot_flawed flaws slot → new ≡ out ++ odd_if b slot e → next ≡ slot + 1
    → new ++ odds_among flaws next rest ≡ whole
unfolding odds_among
odds-more out new whole flaws slot next e left rest b begins before is added n =
    ap (λ (k : ℕ). new ++ odds_among flaws k rest) n
    ∙ ap (λ (l : List Odd). l ++ odds_among flaws (slot + 1) rest) (added ∙ ap (λ (c : Bool). out ++ odd_if c slot e) is)
    ∙ append_assoc out (odd_if (is_slot_flawed flaws slot) slot e) (odds_among flaws (slot + 1) rest)
    ∙ sym (ap (λ (l : List (List ℕ)). out ++ odds_among flaws slot l) begins) ∙ before

-- those that aren't odd
pub others-all : (out whole : List (List ℕ)) (odds : List Odd) (slot : ℕ) (left : List (List ℕ)) → left ≡ [] → out ++ others_among odds slot left ≡ whole → out ≡ whole
unfolding others_among
others-all out whole odds slot left none before = sym (append-nil out) ∙ sym (ap (λ (l : List (List ℕ)). out ++ others_among odds slot l) none) ∙ before

pub others-more : (out new whole : List (List ℕ)) (odds : List Odd) (slot next : ℕ) (e : List ℕ) (left rest : List (List ℕ)) (b : Bool) → left ≡ e ∷ rest
    → out ++ others_among odds slot left ≡ whole → b ≡ is_odd_slot odds slot → new ≡ out ++ unless_odd b e → next ≡ slot + 1
    → new ++ others_among odds next rest ≡ whole
unfolding others_among
others-more out new whole odds slot next e left rest b begins before is added n =
    ap (λ (k : ℕ). new ++ others_among odds k rest) n
    ∙ ap (λ (l : List (List ℕ)). l ++ others_among odds (slot + 1) rest) (added ∙ ap (λ (c : Bool). out ++ unless_odd c e) is)
    ∙ append_assoc out (unless_odd (is_odd_slot odds slot) e) (others_among odds (slot + 1) rest)
    ∙ sym (ap (λ (l : List (List ℕ)). out ++ others_among odds slot l) begins) ∙ before
