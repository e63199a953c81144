use Rattle.std.proofs.Common.{◌∙◌, sym, arith, below_more}
use Rattle.cbm_track.proofs.Firsts.{each_not, each_from}
use Rattle.cbm_g64.specs.File.{is_apart}
use Rattle.cbm_g64.proofs.checks.is_apart_from_all.Goals as goal

pub returns-then-not-is_apart : goal.returns-then-not-is_apart
returns-then-not-is_apart c = sym (each_not (is_apart c.args.file.now c.args.i) 35 c.loop-j.j (omega arith) (sym c.is_apart.ensures ∙ c.if-not-is_apart.true))

pub loop-j-preserved : goal.loop-j-preserved
loop-j-preserved c = below_more _ _ c.loop-j.invariant (sym c.is_apart.ensures ∙ c.if-not-is_apart.false)

pub returns : goal.returns
returns c = sym (each_from (is_apart c.args.file.now c.args.i) 35 (λ k h. c.loop-j.invariant k (omega arith)))
