-- Links, a code or a line at a time.
use Rattle.std.proofs.Common.{◌≡◌, ◌≢◌, ℕ, ◌+◌, ◌*◌, List, [], ◌∷◌, length, Bool, true, false, ap, sym, ◌∙◌, refl, arith}
use Rattle.std.specs.Prelude.{◌==◌, ◌&&◌, if◌then◌else◌}
use Rattle.cbm_basic.specs.Links.{is_end, links_hold, number_holds, text_holds}

-- a code that doesn't end the text
pub holds-more : (at link code : ℕ) (rest afterwards : List ℕ) → rest ≡ code ∷ afterwards → code ≢ 0 → text_holds at link rest ≡ text_holds (at + 1) link afterwards
unfolding text_holds
holds-more at link code rest afterwards r o =
    let other : code == 0 ≡ false = grind (arith, o) in
    ap (text_holds at link) r ∙ ap (λ (b : Bool). if b then (link == at + 1) && links_hold (at + 1) afterwards else text_holds (at + 1) link afterwards) other

-- the 0 of a text
pub holds-zero : (at link code : ℕ) (rest afterwards : List ℕ) → rest ≡ code ∷ afterwards → code ≡ 0 → text_holds at link rest ≡ (link == at + 1) && links_hold (at + 1) afterwards
unfolding text_holds
holds-zero at link code rest afterwards r z =
    let zero : code == 0 ≡ true = grind (arith, z) in
    ap (text_holds at link) r ∙ ap (λ (b : Bool). if b then (link == at + 1) && links_hold (at + 1) afterwards else text_holds (at + 1) link afterwards) zero

-- no 0 ends the text
pub holds-none : (at link : ℕ) (rest : List ℕ) → length rest ≡ 0 → text_holds at link rest ≡ false
unfolding text_holds
holds-none at link [] n = refl
holds-none at link (x ∷ rest) n = absurd (omega arith)

-- a line whose link goes on, up to its text
pub line-holds : (at low high first second : ℕ) (bytes a b c rest : List ℕ) → bytes ≡ low ∷ a → a ≡ high ∷ b → b ≡ first ∷ c → c ≡ second ∷ rest
    → is_end bytes ≡ false → links_hold at bytes ≡ text_holds (at + 4) (low + 256 * high) rest
unfolding links_hold number_holds
line-holds at low high first second bytes a b c rest e f g h n =
    let all : bytes ≡ low ∷ high ∷ first ∷ second ∷ rest = e ∙ ap (λ t. low ∷ t) (f ∙ ap (λ t. high ∷ t) (g ∙ ap (λ t. first ∷ t) h)) in
    ap (links_hold at) all
    ∙ ap (λ (b : Bool). if b then true else text_holds (at + 4) (low + 256 * high) rest) (sym (ap is_end all) ∙ n)

-- a line that breaks off before its number
pub line-short : (at low high : ℕ) (bytes a b : List ℕ) → bytes ≡ low ∷ a → a ≡ high ∷ b → length b ≡ 0 → is_end bytes ≡ false → links_hold at bytes ≡ false
unfolding links_hold number_holds
line-short at low high bytes a [] e f l n =
    let all : bytes ≡ low ∷ high ∷ [] = e ∙ ap (λ t. low ∷ t) f in
    ap (links_hold at) all ∙ ap (λ (b : Bool). if b then true else false) (sym (ap is_end all) ∙ n)
line-short at low high bytes a (x ∷ b) e f l n = absurd (omega arith)

-- a line that breaks off within its number
pub line-cut : (at low high first : ℕ) (bytes a b c : List ℕ) → bytes ≡ low ∷ a → a ≡ high ∷ b → b ≡ first ∷ c → length c ≡ 0
    → is_end bytes ≡ false → links_hold at bytes ≡ false
unfolding links_hold number_holds
line-cut at low high first bytes a b [] e f g l n =
    let all : bytes ≡ low ∷ high ∷ first ∷ [] = e ∙ ap (λ t. low ∷ t) (f ∙ ap (λ t. high ∷ t) g) in
    ap (links_hold at) all ∙ ap (λ (b : Bool). if b then true else false) (sym (ap is_end all) ∙ n)
line-cut at low high first bytes a b (x ∷ c) e f g l n = absurd (omega arith)

-- a link that leads to where the next line begins
pub link-holds : (link next : ℕ) (holds : Bool) → next ≡ link → (link == next) && holds ≡ holds
link-holds link next holds e =
    let same : link == next ≡ true = grind (arith, e) in ap (λ (b : Bool). b && holds) same

-- a link that leads elsewhere
pub link-fails : (link next : ℕ) (holds : Bool) → next ≢ link → (link == next) && holds ≡ false
link-fails link next holds e =
    let other : link == next ≡ false = grind (arith, e) in ap (λ (b : Bool). b && holds) other

-- the program's end
pub end-holds : (at : ℕ) (bytes : List ℕ) → is_end bytes ≡ true → links_hold at bytes ≡ true
unfolding links_hold
end-holds at (low ∷ high ∷ rest) e = ap (λ (b : Bool). if b then true else number_holds at (low + 256 * high) rest) e
end-holds at (low ∷ []) e = absurd (grind (e, arith))
end-holds at [] e = absurd (grind (e, arith))
