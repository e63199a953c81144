-- Going through changes that are in order.
use Rattle.std.proofs.Common.{◌≡◌, ℕ, zero, suc, length, ◌+◌, ◌<◌, ◌≤◌, List, [], ◌∷◌, ◌++◌, take, drop, get_or, refl, sym, ap, subst, ◌∙◌, arith}
use Rattle.std.specs.Prelude.{Some, None, Bool, nat_lt, if◌then◌else◌}
use Rattle.std.proofs.Common.{inl, inr}
use Rattle.std.proofs.lemmas.Bool.{cases_lt, lt-ltb, le-ltb}
use Rattle.cbm_drive.specs.declared.fault.PlayFault.TheVariants.{Backwards, PastEnd}
use Rattle.cbm_iec.specs.declared.lines.Change.{Change}
use Rattle.cbm_iec.specs.declared.lines.Line.TheVariants.{Atn}
use Rattle.cbm_iec.specs.declared.lines.Way.TheVariants.{Pull}
use Rattle.cbm_drive.specs.Ordered.{fault_of, AreOrdered, latest}

-- what stands where no change does
abbrev pub no_change : Change
no_change = record { moment = 0; line = Atn; way = Pull }

drop_next : (i : ℕ) (xs : List Change) (d : Change) → i < length xs → drop i xs ≡ get_or xs i d ∷ drop (i + 1) xs
drop_next i [] d l = absurd (omega (arith, l))
drop_next zero (x ∷ xs) d l = refl
drop_next (suc i) (x ∷ xs) d l = drop_next i xs d (omega (arith, l)) ∙ ap (λ ys. get_or xs i d ∷ ys) (let e : suc (i + 1) ≡ suc i + 1 = omega arith in ap (λ n. drop n (x ∷ xs)) e)

take_next : (i : ℕ) (xs : List Change) (d : Change) → i < length xs → take (i + 1) xs ≡ take i xs ++ get_or xs i d ∷ []
take_next i [] d l = absurd (omega (arith, l))
take_next zero (x ∷ xs) d l = refl
take_next (suc i) (x ∷ xs) d l = (let e : suc i + 1 ≡ suc (i + 1) = omega arith in ap (λ n. take n (x ∷ xs)) e) ∙ ap (λ ys. x ∷ ys) (take_next i xs d (omega (arith, l)))

latest_more : (t : ℕ) (xs : List Change) (c : Change) → latest t (xs ++ c ∷ []) ≡ c.moment
latest_more t [] c = refl
latest_more t (x ∷ xs) c = latest_more x.moment xs c

pub latest_bound : (t end : ℕ) (xs : List Change) → t ≤ end → AreOrdered t end xs → latest t xs ≤ end
latest_bound t end [] l h = l
latest_bound t end (x ∷ xs) l h = latest_bound x.moment end xs h.1 h.2

-- the next change: what is in order, and what is then the last one
pub record Next (end i : ℕ) (xs : List Change) (c : Change) : Type 0 where
  pub not_before : latest 0 (take i xs) ≤ c.moment
  pub not_past : c.moment ≤ end
  pub taken : take (i + 1) xs ≡ take i xs ++ c ∷ []
  pub latest_is : latest 0 (take (i + 1) xs) ≡ c.moment
  pub more : AreOrdered (latest 0 (take (i + 1) xs)) end (drop (i + 1) xs)

pub next_of : (end i : ℕ) (xs : List Change) (d : Change) → i < length xs → AreOrdered (latest 0 (take i xs)) end (drop i xs) → Next end i xs (get_or xs i d)
next_of end i xs d l h =
    let c : Change = get_or xs i d in
    let from : AreOrdered (latest 0 (take i xs)) end (c ∷ drop (i + 1) xs) = subst (AreOrdered (latest 0 (take i xs)) end) (drop_next i xs d l) h in
    let taken : take (i + 1) xs ≡ take i xs ++ c ∷ [] = take_next i xs d l in
    let last : latest 0 (take (i + 1) xs) ≡ c.moment = ap (latest 0) taken ∙ latest_more 0 (take i xs) c in
    record {
      not_before = from.0;
      not_past = from.1;
      taken = taken;
      latest_is = last;
      more = subst (λ (t : ℕ). AreOrdered t end (drop (i + 1) xs)) (sym last) from.2;
    }

-- the last of the first ones comes no later than the end
pub front_bound : (end i : ℕ) (xs : List Change) (t : ℕ) → t ≤ end → AreOrdered t end xs → latest t (take i xs) ≤ end
front_bound end zero xs t l h = l
front_bound end (suc i) [] t l h = l
front_bound end (suc i) (x ∷ xs) t l h = front_bound end i xs x.moment h.1 h.2

-- changes of which none is at fault are in order
pub in_order : (n before end : ℕ) (cs : List Change) → fault_of n before end cs ≡ None → AreOrdered before end cs
in_order n before end [] e = tt
in_order n before end (c ∷ cs) e = elim (cases_lt c.moment before) [
  | inl back ↦ absurd (let z = sym (ap (λ (b : Bool). if b then Some (Backwards n) else if nat_lt end c.moment then Some (PastEnd n) else fault_of (n + 1) c.moment end cs) (lt-ltb c.moment before back)) ∙ e in cc)
  | inr on ↦ elim (cases_lt end c.moment) [
    | inl past ↦ absurd (let z = sym (ap (λ (b : Bool). if b then Some (PastEnd n) else fault_of (n + 1) c.moment end cs) (lt-ltb end c.moment past)) ∙ sym (ap (λ (b : Bool). if b then Some (Backwards n) else if nat_lt end c.moment then Some (PastEnd n) else fault_of (n + 1) c.moment end cs) (le-ltb c.moment before on)) ∙ e in cc)
    | inr inside ↦ (
      on,
      inside,
      in_order (n + 1) c.moment end cs
          (sym (ap (λ (b : Bool). if b then Some (PastEnd n) else fault_of (n + 1) c.moment end cs) (le-ltb end c.moment inside)) ∙ sym (ap (λ (b : Bool). if b then Some (Backwards n) else if nat_lt end c.moment then Some (PastEnd n) else fault_of (n + 1) c.moment end cs) (le-ltb c.moment before on)) ∙ e),
    )
  ]
]
