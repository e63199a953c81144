use Rattle.std.proofs.Common.{arith}
use Rattle.cbm_relfile.proofs.Counted.{after_none_left, after_some_more, after_the_end}
use Rattle.cbm_relfile.proofs.counting.side_count.Goals as goal

pub loop-number-init : goal.loop-number-init
loop-number-init c = omega arith

pub returns-then-head-number-eq0-clause-value : goal.returns-then-head-number-eq0-clause-value
returns-then-head-number-eq0-clause-value c = after_none_left c.loop-number.number c.args.head.now c.loop-number.invariant c.loop-number-test.true c.if-head-number-eq0.true

pub loop-number-preserved : goal.loop-number-preserved
loop-number-preserved c = after_some_more c.loop-number.number c.args.head.now c.loop-number.invariant c.loop-number-test.true c.if-head-number-eq0.false

pub returns-clause-value : goal.returns-clause-value
returns-clause-value c = omega (arith, after_the_end c.loop-number.number c.args.head.now c.loop-number.invariant c.loop-number-test.false, c.loop-number-test.false, c.loop-number.auto.number-end)
