use Rattle.std.proofs.Common.{◌∙◌, sym, arith, ℕ, below_more}
use Rattle.cbm_track.proofs.Firsts.{each_not, each_from}
use Rattle.cbm_track.specs.Circle.{each_below}
use Rattle.cbm_g64.specs.File.{is_apart, are_apart}
use Rattle.cbm_g64.proofs.checks.are_apart.Goals as goal

pub returns-then-not-is_apart_from_all : goal.returns-then-not-is_apart_from_all
unfolding are_apart
returns-then-not-is_apart_from_all c = sym (each_not (λ (i : ℕ). each_below (is_apart c.args.file.now i) 35) 35 c.loop-i.i (omega arith) (sym c.is_apart_from_all.ensures ∙ c.if-not-is_apart_from_all.true))

pub loop-i-preserved : goal.loop-i-preserved
loop-i-preserved c = below_more _ _ c.loop-i.invariant (sym c.is_apart_from_all.ensures ∙ c.if-not-is_apart_from_all.false)

pub returns : goal.returns
unfolding are_apart
returns c = sym (each_from (λ (i : ℕ). each_below (is_apart c.args.file.now i) 35) 35 (λ k h. c.loop-i.invariant k (omega arith)))
