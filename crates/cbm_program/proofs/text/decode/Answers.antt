use Rattle.std.proofs.Common.{rules, arith}
use Rattle.cbm_program.proofs.TextLemmas.{plain_step, escape_step}
use Rattle.cbm_program.proofs.text.decode.Goals as goal

pub loop-first-preserved : goal.loop-first-preserved
loop-first-preserved c = record {
  same = plain_step _ _ _ _ _ _ c.loop-first.invariant.same c.in-Some.ensures.cases.0 (search rules) (search rules) c.push-then-is_plain.ensures.items;
  room = grind arith;
}

pub loop-first-preserved-then-first-eq92 : goal.loop-first-preserved-then-first-eq92
loop-first-preserved-then-first-eq92 c = record {
  same = escape_step _ _ _ _ _ _ _ _ _ _ _ _ c.loop-first.invariant.same c.in-Some.ensures.cases.0 c.in_ok-high.ensures.cases.0 c.in_ok-low.ensures.cases.0
      (search rules) c.in_ok-hex_digit.ensures.value c.in_ok-hex_digit-2.ensures.value c.push.ensures.items;
  room = grind arith;
}
