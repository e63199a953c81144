use Rattle.std.proofs.Common.{◌≡◌, ◌∙◌, sym, arith, ℕ, ◌<◌, ◌≤◌, List, Bool, length, false, inl, inr, below_more}
use Rattle.std.proofs.lemmas.Bool.{cases_lt}
use Rattle.cbm_track.specs.Circle.{begins}
use Rattle.cbm_track.proofs.Firsts.{first_none, first_some}
use Rattle.cbm_sector.specs.Answer.{header_at, wanted_test}
use Rattle.cbm_sector.proofs.Reading.{no_header_here, header_here}
use Rattle.cbm_sector.proofs.header.find_header.Goals as goal

-- no header stands below a place, where none does below another and no block begins between them
none_between : (test : List ℕ → Bool) (t : List Bool) (from to : ℕ) → ((k : ℕ) → k < from → header_at test t k ≡ false) → ((q : ℕ) → from ≤ q → q < to → begins t q ≡ false) → (k : ℕ) → k < to → header_at test t k ≡ false
none_between test t from to h g k l = elim (cases_lt k from) [
  | inl b ↦ h k b
  | inr b ↦ no_header_here test t k (g k b l)
]

pub returns-in_err-place-clause-value : goal.returns-in_err-place-clause-value
returns-in_err-place-clause-value c = c.from_residual.ensures ∙ sym (first_none (header_at (wanted_test c.args.wanted.now) c.args.track.now) (length c.args.track.now)
    (none_between (wanted_test c.args.wanted.now) c.args.track.now c.loop-from.from (length c.args.track.now) c.loop-from.invariant.none c.in_err-place.ensures.none))

pub returns-then-is_wanted_at-clause-value : goal.returns-then-is_wanted_at-clause-value
returns-then-is_wanted_at-clause-value c = let s = c.in_ok-place.ensures.some in
    sym (first_some (header_at (wanted_test c.args.wanted.now) c.args.track.now) (length c.args.track.now) c.in_ok-place.place s.1
    (header_here (wanted_test c.args.wanted.now) c.args.track.now c.in_ok-place.place _ s.2 c.is_wanted_at.ensures ∙ c.if-is_wanted_at.true)
    (none_between (wanted_test c.args.wanted.now) c.args.track.now c.loop-from.from c.in_ok-place.place c.loop-from.invariant.none s.3))

pub loop-from-preserved : goal.loop-from-preserved
loop-from-preserved c = let s = c.in_ok-place.ensures.some in record {
  within = omega (arith, s.1);
  none = below_more _ _ (none_between (wanted_test c.args.wanted.now) c.args.track.now c.loop-from.from c.in_ok-place.place c.loop-from.invariant.none s.3)
      (header_here (wanted_test c.args.wanted.now) c.args.track.now c.in_ok-place.place _ s.2 c.is_wanted_at.ensures ∙ c.if-is_wanted_at.false);
}

pub returns-clause-value : goal.returns-clause-value
returns-clause-value c = sym (first_none (header_at (wanted_test c.args.wanted.now) c.args.track.now) (length c.args.track.now) (λ k h. c.loop-from.invariant.none k (omega arith)))
