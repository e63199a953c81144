use Rattle.std.proofs.Common.{arith, rules}
use Rattle.bus_traces.proofs.NumberLemmas.{room_for_digit}
use Rattle.bus_traces.proofs.text.words.number.Goals as goal

pub overflow_mul-value : goal.overflow_mul-value
overflow_mul-value c = let r = room_for_digit c.loop-digit.value c.loop-digit.digit-index c.loop-digit.invariant.bound (omega arith) in omega (arith, r)

pub overflow_add-value : goal.overflow_add-value
overflow_add-value c = let r = room_for_digit c.loop-digit.value c.loop-digit.digit-index c.loop-digit.invariant.bound (omega arith) in search (rules, r)
