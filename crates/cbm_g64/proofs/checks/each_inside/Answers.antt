use Rattle.std.proofs.Common.{◌∙◌, sym, arith, below_more}
use Rattle.cbm_track.proofs.Firsts.{each_from, each_not}
use Rattle.cbm_g64.specs.File.{is_track_inside}
use Rattle.cbm_g64.proofs.checks.each_inside.Goals as goal

pub returns-then-not-is_inside : goal.returns-then-not-is_inside
returns-then-not-is_inside c = sym (each_not (is_track_inside c.args.file.now) 35 c.loop-i.i (omega arith) (sym c.is_inside.ensures ∙ c.if-not-is_inside.true))

pub loop-i-preserved : goal.loop-i-preserved
loop-i-preserved c = below_more _ _ c.loop-i.invariant (sym c.is_inside.ensures ∙ c.if-not-is_inside.false)

pub returns : goal.returns
returns c = sym (each_from (is_track_inside c.args.file.now) 35 (λ k h. c.loop-i.invariant k (omega arith)))
