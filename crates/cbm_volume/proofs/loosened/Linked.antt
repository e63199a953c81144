-- A walk along links meets all sectors to which they lead.
use Rattle.std.proofs.Common.{◌≡◌, ◌≢◌, ◌⊎◌, ℕ, suc, ◌≤◌, List, [], ◌∷◌, length, Bool, true, false, IsOk, refl, sym, ap, subst, ◌∙◌, arith, inl, inr}
use Rattle.std.specs.Prelude.{if◌then◌else◌}
use Rattle.cbm_medium.specs.Place.{Place, Has, is_place}
use Rattle.cbm_medium.specs.Content.{Content}
use Rattle.cbm_medium.specs.Links.{bytes_at, link, Chain, IsApart, follow, ended}
use Rattle.cbm_medium.proofs.Places.{not_itself, same_place}
use Rattle.cbm_medium.proofs.Walks.{followed_chain}
use Rattle.cbm_bam.specs.Map.{with_bit}
use Rattle.cbm_chain.specs.Writing.{State, Part, Wrote, place_or_none}
use Rattle.cbm_volume.specs.Loose.{AreLinked, IsOffLinks, IsOnLinks}

-- where no sector is, no links lead on
pub off_nothing : (tracks : ℕ) (c : Content) (a p : Place) → (Has tracks a → ⊥) → (blocks : List Place) → AreLinked tracks c a blocks → IsApart p blocks
off_nothing tracks c a p none [] h = tt
off_nothing tracks c a p none (b ∷ []) h = absurd (none (subst (λ (q : Place). Has tracks q) (sym h.0) h.1))
off_nothing tracks c a p none (b ∷ b' ∷ rest) h = absurd (none (subst (λ (q : Place). Has tracks q) (sym h.0) h.1))

-- a sector that doesn't read is the last
pub off_unread : (tracks : ℕ) (c : Content) (a p : Place) → p ≢ a → (IsOk (c a) → ⊥) → (blocks : List Place) → AreLinked tracks c a blocks → IsApart p blocks
off_unread tracks c a p ne un [] h = tt
off_unread tracks c a p ne un (b ∷ []) h = (λ e. ne (e ∙ sym h.0), tt)
off_unread tracks c a p ne un (b ∷ b' ∷ rest) h = absurd (un (subst (λ (q : Place). IsOk (c q)) (sym h.0) h.2))

-- one sector on
pub off_step : (tracks : ℕ) (c : Content) (n : ℕ) (a p q : Place) → p ≢ a → q ≡ link (bytes_at c a) → IsOffLinks tracks c n q p → (blocks : List Place) → AreLinked tracks c a blocks → length blocks ≤ suc n → IsApart p blocks
off_step tracks c n a p q ne to off [] h few = tt
off_step tracks c n a p q ne to off (b ∷ []) h few = (λ e. ne (e ∙ sym h.0), tt)
off_step tracks c n a p q ne to off (b ∷ b' ∷ rest) h few = (
  λ e. ne (e ∙ sym h.0),
  off (b' ∷ rest) (subst (λ (x : Place). AreLinked tracks c x (b' ∷ rest)) (ap (λ (x : Place). link (bytes_at c x)) (sym h.0) ∙ sym to) h.3) (omega (arith, few)),
)

-- no sector is left
pub off_end : (tracks : ℕ) (c : Content) (a p : Place) (n : ℕ) → n ≡ 0 → (blocks : List Place) → AreLinked tracks c a blocks → length blocks ≤ n → IsApart p blocks
off_end tracks c a p n z [] h few = tt
off_end tracks c a p n z (b ∷ rest) h few = absurd (omega (arith, few, z))

-- the sector of a link is on its links, and so is what is on those from the sector that it names
pub on_here : (tracks : ℕ) (c : Content) (n : ℕ) (a : Place) → Has tracks a → 1 ≤ n → IsOnLinks tracks c n a a
on_here tracks c n a has some = (a ∷ [], (refl, has), some, λ apart. apart.0 refl)

pub on_step : (tracks : ℕ) (c : Content) (n : ℕ) (a p q : Place) → Has tracks a → IsOk (c a) → q ≡ link (bytes_at c a) → IsOnLinks tracks c n q p → IsOnLinks tracks c (suc n) a p
on_step tracks c n a p q has ok to ([], h, few, on) = absurd (on tt)
on_step tracks c n a p q has ok to (b ∷ rest, h, few, on) =
    (a ∷ b ∷ rest, (refl, has, ok, subst (λ (x : Place). AreLinked tracks c x (b ∷ rest)) to h), omega (arith, few), λ apart. on apart.1)

-- what is in the set with one sector more is that one, or was in the set
pub marked_more : (marked : Place → Bool) (p q : Place) → with_bit marked p true q ≡ true → (p ≡ q) ⊎ (marked q ≡ true)
marked_more marked p q h = by_test (is_place p q) refl h
  where
    by_test : (b : Bool) → is_place p q ≡ b → (if b then true else marked q) ≡ true → (p ≡ q) ⊎ (marked q ≡ true)
    by_test true e g = inl (same_place p q e)
    by_test false e g = inr g

-- what isn't in the set with one sector more is another one, and wasn't in the set
pub unmarked : (marked : Place → Bool) (p q : Place) → with_bit marked p true q ≡ false → (q ≢ p) × (marked q ≡ false)
unmarked marked p q h = by_test (is_place p q) refl h
  where
    by_test : (b : Bool) → is_place p q ≡ b → (if b then true else marked q) ≡ false → (q ≢ p) × (marked q ≡ false)
    by_test true e g = absurd (cc)
    by_test false e g = (λ z. not_itself p q e (sym z), g)

-- ---- the chain that a reader follows, and the blocks of a writer

chain_linked : (tracks : ℕ) (c : Content) (a : Place) (blocks : List Place) → Chain tracks c a blocks → AreLinked tracks c a blocks
chain_linked tracks c a [] h = tt
chain_linked tracks c a (b ∷ []) h = (h.0, h.1)
chain_linked tracks c a (b ∷ b' ∷ rest) h = (h.0, h.1, h.2, chain_linked tracks c (link (bytes_at c b)) (b' ∷ rest) h.3)

part_linked : (tracks : ℕ) (c : Content) (b : Place) (rest : List Place) → Part tracks c (b ∷ rest) → AreLinked tracks c b (b ∷ rest)
part_linked tracks c b [] h = (refl, h.0)
part_linked tracks c b (b' ∷ rest) h = (refl, h.0, h.3, subst (λ (x : Place). AreLinked tracks c x (b' ∷ rest)) (sym h.4) (part_linked tracks c b' rest h.5))

pub off_followed : (tracks : ℕ) (c : Content) (n : ℕ) (a p : Place) (blocks : List Place) → IsOffLinks tracks c n a p → follow tracks c n a ≡ ended blocks → IsApart p blocks
off_followed tracks c n a p blocks off e =
    let h = followed_chain tracks c n a blocks e in
    off blocks (chain_linked tracks c a blocks h.0) h.1

pub off_wrote : (c : Content) (s : State) (p : Place) (places : List Place) (bytes : List ℕ) → IsOffLinks s.tracks c s.count (place_or_none s.first) p → Wrote c s places bytes → length places ≤ 65535 → IsApart p places
off_wrote c s p [] bytes off h few = tt
off_wrote c s p (b ∷ rest) bytes off h few =
    let at : place_or_none s.first ≡ b = ap place_or_none h.first in
    off (b ∷ rest) (subst (λ (x : Place). AreLinked s.tracks c x (b ∷ rest)) (sym at) (part_linked s.tracks c b rest h.part)) (omega (arith, h.count, few))
