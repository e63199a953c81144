-- How many blocks a chain has, and how many side sectors a first one lists.
use Rattle.std.proofs.Common.{◌≡◌, ◌≢◌, ℕ, ◌+◌, ◌-◌, ◌*◌, ◌<◌, ◌≤◌, List, [], ◌∷◌, length, drop, get_or, Ok, IsOk, refl, sym, ap, subst, ◌∙◌, arith}
use Rattle.cbm_medium.specs.Place.{Place, Has}
use Rattle.cbm_medium.specs.Content.{Cell, Content}
use Rattle.cbm_medium.specs.Links.{bytes_at, or_nothing, link, Chain}
use Rattle.cbm_relfile.specs.SideSectors.{named_in, sides_listed, sides_following}
use Rattle.cbm_relfile.proofs.Listed.{at_bytes, list_none, list_some}

-- what is left of a chain after so many of its blocks
pub record Walked (tracks : ℕ) (c : Content) (p : Place) (blocks : List Place) (passed : ℕ) : Type 0 where
  pub rest : List Place
  pub chain : Chain tracks c p rest
  pub count : passed + length rest ≡ length blocks

pub walked_none : (tracks : ℕ) (c : Content) (p : Place) (blocks : List Place) → Chain tracks c p blocks → Walked tracks c p blocks 0
walked_none tracks c p blocks h = record { rest = blocks; chain = h; count = omega arith }

-- the chain ends here
pub walked_end : (tracks : ℕ) (c : Content) (p : Place) (blocks : List Place) (passed : ℕ) → Walked tracks c p blocks passed → p.track ≡ 0 → passed ≡ length blocks
walked_end tracks c p blocks passed h z = by_rest h.rest h.chain h.count
  where
    by_rest : (xs : List Place) → Chain tracks c p xs → passed + length xs ≡ length blocks → passed ≡ length blocks
    by_rest [] k e = omega (arith, e)
    by_rest (x ∷ xs) k e = absurd (let t = ap (λ (q : Place). q.track) k.0 in omega (arith, t, z, k.1.0))

-- or goes on
pub record GoesOn (tracks : ℕ) (c : Content) (p : Place) (blocks : List Place) (passed : ℕ) : Type 0 where
  pub has : Has tracks p
  pub reads : IsOk (c p)
  pub next : Walked tracks c (link (bytes_at c p)) blocks (passed + 1)

pub walked_on : (tracks : ℕ) (c : Content) (p : Place) (blocks : List Place) (passed : ℕ) → Walked tracks c p blocks passed → p.track ≢ 0 → GoesOn tracks c p blocks passed
walked_on tracks c p blocks passed h ne = by_rest h.rest h.chain h.count
  where
    by_rest : (xs : List Place) → Chain tracks c p xs → passed + length xs ≡ length blocks → GoesOn tracks c p blocks passed
    by_rest [] k e = absurd (ne k)
    by_rest (x ∷ xs) k e = record {
      has = subst (λ (q : Place). Has tracks q) (sym k.0) k.1;
      reads = subst (λ (q : Place). IsOk (c q)) (sym k.0) k.2;
      next = record { rest = xs; chain = subst (λ (q : Place). Chain tracks c (link (bytes_at c q)) xs) (sym k.0) k.3; count = omega (arith, e) };
    }

pub walked_more : (tracks : ℕ) (c : Content) (p next : Place) (blocks : List Place) (passed : ℕ) (bytes : List ℕ) → Walked tracks c p blocks passed → p.track ≢ 0 → c p ≡ Ok bytes → next ≡ link bytes → Walked tracks c next blocks (passed + 1)
walked_more tracks c p next blocks passed bytes h ne holds is =
    subst (λ (q : Place). Walked tracks c q blocks (passed + 1)) (ap (λ (x : Cell). link (or_nothing x)) holds ∙ sym is) (walked_on tracks c p blocks passed h ne).next

pub walked_all : (tracks : ℕ) (c : Content) (p : Place) (blocks : List Place) (passed most : ℕ) → Walked tracks c p blocks passed → length blocks ≤ most → most ≤ passed → most ≡ length blocks
walked_all tracks c p blocks passed most h l e = omega (arith, h.count, l, e)

-- ---- side sectors

sides_none : (n : ℕ) (head : List ℕ) → n < 6 → get_or head (4 + 2 * n) 0 ≡ 0 → sides_following n head ≡ []
unfolding sides_following
sides_none n head l e = list_none 6 4 n head l e

pub after_none_left : (n : ℕ) (head : List ℕ) → n + length (sides_following n head) ≡ length (sides_following 0 head) → n < 6 → get_or head (4 + 2 * n) 0 ≡ 0 → n ≡ length (sides_following 0 head)
after_none_left n head h l e = omega (arith, h, ap (λ (ys : List Place). length ys) (sides_none n head l e))

sides_some : (n : ℕ) (head : List ℕ) → n < 6 → get_or head (4 + 2 * n) 0 ≢ 0 → sides_following n head ≡ at_bytes head (4 + 2 * n) ∷ sides_following (n + 1) head
unfolding sides_following
sides_some n head l ne = list_some 6 4 n head l ne

pub after_some_more : (n : ℕ) (head : List ℕ) → n + length (sides_following n head) ≡ length (sides_following 0 head) → n < 6 → get_or head (4 + 2 * n) 0 ≢ 0 → n + 1 + length (sides_following (n + 1) head) ≡ length (sides_following 0 head)
after_some_more n head h l ne = omega (arith, h, ap (λ (ys : List Place). length ys) (sides_some n head l ne))

sides_end : (n : ℕ) (head : List ℕ) → 6 ≤ n → sides_following n head ≡ []
unfolding sides_following
sides_end n head l = let end : 6 - n ≡ 0 = omega (arith, l) in ap (λ (m : ℕ). named_in m (drop (4 + 2 * n) head)) end

pub after_the_end : (n : ℕ) (head : List ℕ) → n + length (sides_following n head) ≡ length (sides_following 0 head) → 6 ≤ n → n ≡ length (sides_following 0 head)
after_the_end n head h l = omega (arith, h, ap (λ (ys : List Place). length ys) (sides_end n head l))

pub after_all_of : (head : List ℕ) → sides_following 0 head ≡ sides_listed head
unfolding sides_following
after_all_of head = refl
