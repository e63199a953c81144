use Rattle.std.proofs.Common.{arith}
use Rattle.cbm_sector.proofs.Headers.{index_none, index_more, index_all}
use Rattle.cbm_sector.proofs.indexed.index_of.Goals as goal

pub loop-from-init : goal.loop-from-init
loop-from-init c = record { within = omega arith; below = index_none c.args.track.now c.args.number }

pub loop-from-preserved : goal.loop-from-preserved
loop-from-preserved c = let s = c.in-Some.ensures.some in record {
  within = omega (arith, s.1);
  below = index_more c.args.track.now c.args.number c.loop-from.from c.in-Some.place c.loop-from.headers c.keep.new.headers c.sector_at.result c.loop-from.invariant.below s.0 s.2 s.3 c.sector_at.ensures c.keep.ensures;
}

pub returns-in_default : goal.returns-in_default
returns-in_default c = index_all c.args.track.now c.args.number c.loop-from.from c.loop-from.headers c.loop-from.invariant.below c.loop-from.invariant.within c.in_default.ensures.none

pub returns : goal.returns
returns c = index_all c.args.track.now c.args.number c.loop-from.from c.loop-from.headers c.loop-from.invariant.below c.loop-from.invariant.within (λ q few more. absurd (omega (arith, few, more, c.loop-from-test.false, c.bits-bits.ensures.value)))
