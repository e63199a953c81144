-- What a content's law of codes says of one code.
use Rattle.std.proofs.Common.{◌≡◌, ◌≢◌, ℕ, true, Some, Err, inl, inr, arith, subst, ap, sym, ◌∙◌}
use Rattle.cbm_medium.specs.Place.{Place}
use Rattle.cbm_medium.specs.Content.{Cell, Content, HasFaultCode, is_fault_code}
use Rattle.cbm_medium.specs.Links.{IsCut, follow}
use Rattle.cbm_medium.specs.declared.fault.Trouble.{Trouble}
use Rattle.cbm_medium.proofs.Walks.{followed_cut}

-- the code that stands in place of a sector's bytes is one of the seven
pub known_code : (cell : Cell) (code : ℕ) → HasFaultCode cell → cell ≡ Err code → is_fault_code code ≡ true
known_code cell code h e = subst (λ (x : Cell). HasFaultCode x) e h

-- and never 26, which is told of protection
pub never_26 : (cell : Cell) (code : ℕ) → HasFaultCode cell → cell ≡ Err code → code ≢ 26
never_26 cell code h e is = let no = sym (ap is_fault_code is) ∙ known_code cell code h e in absurd (cc)

-- so what cuts a walk off isn't 26 either
pub followed_never_26 : (tracks : ℕ) (c : Content) (n : ℕ) (a : Place) (t : Trouble) → ((p : Place) → HasFaultCode (c p)) → (follow tracks c n a).trouble ≡ Some t → t.code ≢ 26
followed_never_26 tracks c n a t codes e is =
    let k : IsCut tracks c n a (follow tracks c n a).blocks t = followed_cut tracks c n a (follow tracks c n a).blocks t (λ i. record { blocks = (follow tracks c n a).blocks; trouble = e i }) in
    elim k.cause [
      | inl off ↦ omega (arith, off.0)
      | inr on ↦ elim on [ inl many ↦ omega (arith, many.0) | inr fault ↦ never_26 (c k.at) t.code (codes k.at) fault.2 is ]
    ]
