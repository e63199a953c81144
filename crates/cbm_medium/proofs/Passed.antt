-- The sectors that a walk along the links has passed, on any disk.
use Rattle.std.proofs.Common.{◌≡◌, ℕ, ◌+◌, List, [], ◌∷◌, ◌++◌, length, Ok, IsOk, refl, sym, ap, subst, ◌∙◌, arith}
use Rattle.std.proofs.lemmas.List.{length-append}
use Rattle.cbm_medium.specs.Place.{Place, Has}
use Rattle.cbm_medium.specs.Content.{Cell, Content}
use Rattle.cbm_medium.specs.Links.{bytes_at, or_nothing, link, LinksLead}

-- from a first place so many sectors link each to the next one, and the last to this place
pub record WalksTo (tracks : ℕ) (c : Content) (first p : Place) (passed : ℕ) : Type 0 where
  pub blocks : List Place
  pub number : length blocks ≡ passed
  pub leads : LinksLead tracks c first blocks p

pub walks_none : (tracks : ℕ) (c : Content) (first : Place) → WalksTo tracks c first first 0
walks_none tracks c first = record { blocks = []; number = refl; leads = refl }

leads_more : (tracks : ℕ) (c : Content) (a p : Place) (xs : List Place) → LinksLead tracks c a xs p → Has tracks p → IsOk (c p) → LinksLead tracks c a (xs ++ p ∷ []) (link (bytes_at c p))
leads_more tracks c a p [] h has reads = (h, has, reads, refl)
leads_more tracks c a p (x ∷ xs) h has reads = (h.0, h.1, h.2, leads_more tracks c (link (bytes_at c x)) p xs h.3 has reads)

pub walks_more : (tracks : ℕ) (c : Content) (first p q : Place) (passed : ℕ) (bytes : List ℕ) → WalksTo tracks c first p passed → Has tracks p → c p ≡ Ok bytes → q ≡ link bytes → WalksTo tracks c first q (passed + 1)
walks_more tracks c first p q passed bytes w has holds is = record {
  blocks = w.blocks ++ p ∷ [];
  number = omega (arith, w.number, length-append w.blocks (p ∷ []));
  leads = subst (λ (r : Place). LinksLead tracks c first (w.blocks ++ p ∷ []) r) (ap (λ (x : Cell). link (or_nothing x)) holds ∙ sym is) (leads_more tracks c first p w.blocks w.leads has (subst (λ (x : Cell). IsOk x) (sym holds) refl));
}
