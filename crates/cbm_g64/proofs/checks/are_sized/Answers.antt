use Rattle.std.proofs.Common.{◌∙◌, sym, arith, below_more}
use Rattle.cbm_track.proofs.Firsts.{each_not, each_from}
use Rattle.cbm_g64.specs.File.{is_sized, are_sized}
use Rattle.cbm_g64.proofs.checks.are_sized.Goals as goal

pub returns-then-not-is_sized : goal.returns-then-not-is_sized
unfolding are_sized
returns-then-not-is_sized c = sym (each_not (is_sized c.args.file.now) 35 c.loop-i.i (omega arith) (sym c.is_sized.ensures ∙ c.if-not-is_sized.true))

pub loop-i-preserved : goal.loop-i-preserved
loop-i-preserved c = below_more _ _ c.loop-i.invariant (sym c.is_sized.ensures ∙ c.if-not-is_sized.false)

pub returns : goal.returns
unfolding are_sized
returns c = sym (each_from (is_sized c.args.file.now) 35 (λ k h. c.loop-i.invariant k (omega arith)))
