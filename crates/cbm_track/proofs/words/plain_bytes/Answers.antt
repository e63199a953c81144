use Rattle.std.proofs.Common.{arith}
use Rattle.cbm_track.proofs.Windows.{plain_one, plain_two}
use Rattle.cbm_track.proofs.words.plain_bytes.Goals as goal

pub loop-i-preserved : goal.loop-i-preserved
loop-i-preserved c = record {
  from = omega arith;
  most = omega arith;
  far = omega arith;
  none = λ j l. plain_two c.args.track.now c.args.from c.loop-i.i c.word_inside.result c.word_inside-in-loop-i.result c.nines-first.result c.nines.result j (omega arith) (λ k. omega (arith, c.type_inv.track k))
      c.loop-i.invariant.from c.loop-i.invariant.none c.word_inside.ensures c.word_inside-in-loop-i.ensures c.nines-first.ensures c.nines.ensures c.if-first-nines-ne0.false l;
}

pub returns-then-first-eq0-clause-none : goal.returns-then-first-eq0-clause-none
returns-then-first-eq0-clause-none c = λ j l. plain_one c.args.track.now c.args.from c.loop-i.i c.word_inside.result c.nines-first.result j (omega arith) (λ k. omega (arith, c.type_inv.track k))
    c.loop-i.invariant.from c.loop-i.invariant.none c.word_inside.ensures c.nines-first.ensures c.if-first-eq0.true l
