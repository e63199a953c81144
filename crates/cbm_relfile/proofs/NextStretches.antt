-- The stretch after another one of a chain's bytes, which may begin in the next block.
use Rattle.std.proofs.Common.{◌≡◌, ◌≢◌, ℕ, ◌+◌, ◌*◌, ◌≤◌, List, ◌∷◌, length, take, drop, Some, None, Ok, IsOk, refl, sym, ap, subst, ◌∙◌, arith, inl, inr}
use Rattle.std.proofs.lemmas.Bool.{cases_lt}
use Rattle.std.proofs.lemmas.List.{length-drop, drop-drop}
use Rattle.cbm_medium.specs.Place.{Place, Has}
use Rattle.cbm_medium.specs.Content.{Cell, Content, IsWhole}
use Rattle.cbm_medium.specs.Links.{link, Chain}
use Rattle.cbm_chain.specs.Data.{data_of, chain_bytes}
use Rattle.cbm_relfile.specs.Records.{AllWhole, stretch_in}
use Rattle.cbm_relfile.proofs.Positions.{most_data, chain_offset}
use Rattle.cbm_relfile.proofs.Stretches.{stretch_there, stretch_absent, ends_here, Next, next_from}

stretch_dropped : (ys : List ℕ) (a p count : ℕ) → 1 ≤ count → stretch_in (drop a ys) p count ≡ stretch_in ys (a + p) count
stretch_dropped ys a p count some = elim (cases_lt (length ys) (a + p + count)) [
  | inl short ↦ stretch_absent (drop a ys) p count (omega (arith, length-drop a ys, short, some)) ∙ sym (stretch_absent ys (a + p) count short)
  | inr there ↦ stretch_there (drop a ys) p count (omega (arith, length-drop a ys, there, some)) ∙ ap (λ (zs : List ℕ). Some (take count zs)) (drop-drop p a ys) ∙ sym (stretch_there ys (a + p) count there)
]

whole_here : (c : Content) (x : Place) (bytes : List ℕ) → AllWhole c → c x ≡ Ok bytes → length bytes ≡ 256
whole_here c x bytes w h = subst (λ (y : Cell). IsWhole y) h (w x)

-- there is no next block
pub no_next : (tracks : ℕ) (c : Content) (x : Place) (xs : List Place) (bytes : List ℕ) (from count : ℕ) → AllWhole c → c x ≡ Ok bytes → Chain tracks c x (x ∷ xs) → 254 ≤ from → 1 ≤ count → (link bytes).track ≡ 0
    → None ≡ stretch_in (chain_bytes c (x ∷ xs)) from count
no_next tracks c x xs bytes from count w h k far some z =
    let few : length (data_of bytes) ≤ 254 = most_data bytes (whole_here c x bytes w h) in
    ends_here tracks c x xs bytes (data_of bytes) from count (from + count) h refl refl (omega (arith, few, far, some)) z k.3

-- the next block reads, and the stretch begins so many bytes in it
pub record BeginsNext (tracks : ℕ) (c : Content) (x : Place) (xs : List Place) (at : Place) (from p count : ℕ) : Type 0 where
  pub has : Has tracks at
  pub reads : IsOk (c at)
  pub rest : List Place
  pub chain : Chain tracks c at (at ∷ rest)
  pub same : stretch_in (chain_bytes c (at ∷ rest)) p count ≡ stretch_in (chain_bytes c (x ∷ xs)) from count

pub begins_next : (tracks : ℕ) (c : Content) (x : Place) (xs : List Place) (bytes : List ℕ) (at : Place) (from p count : ℕ) → AllWhole c → c x ≡ Ok bytes → Chain tracks c x (x ∷ xs) → at ≡ link bytes → from ≡ 254 + p → 1 ≤ count → at.track ≢ 0
    → BeginsNext tracks c x xs at from p count
begins_next tracks c x xs bytes at from p count w h k is e some ne =
    let next : Next tracks c at xs = subst (λ (q : Place). Next tracks c q xs) (sym is) (next_from tracks c x xs bytes h (λ z. ne (ap (λ (q : Place). q.track) is ∙ z)) k.3) in
    let one : drop (254 * 1) (chain_bytes c (x ∷ xs)) ≡ chain_bytes c xs = chain_offset tracks c x (x ∷ xs) 1 w k (omega (arith, ap (λ (ys : List Place). length ys) next.is)) in
    record {
      has = next.has;
      reads = next.reads;
      rest = next.rest;
      chain = (refl, next.has, next.reads, next.chain);
      same = (λ i. stretch_in (chain_bytes c (sym next.is i)) p count) ∙ (λ i. stretch_in (sym one i) p count) ∙ stretch_dropped (chain_bytes c (x ∷ xs)) (254 * 1) p count some
          ∙ (let n : 254 * 1 + p ≡ from = omega (arith, e) in ap (λ (m : ℕ). stretch_in (chain_bytes c (x ∷ xs)) m count) n);
    }
