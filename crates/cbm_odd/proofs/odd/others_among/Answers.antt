use Rattle.std.proofs.Common.{◌+◌, drop, refl, ap}
use Rattle.std.proofs.lemmas.List.{drop_all}
use Rattle.cbm_shell.proofs.MapLemmas.{one_off}
use Rattle.cbm_odd.proofs.OddLemmas.{others-all, others-more}
use Rattle.cbm_odd.proofs.odd.others_among.Goals as goal

pub loop-entry-preserved : goal.loop-entry-preserved
loop-entry-preserved c = (
  others-more c.loop-entry.out.items c.add_other.new.out.items _ c.args.odds.now c.loop-entry.slot (c.loop-entry.slot + 1) c.entry-item.result
      (drop c.loop-entry.entry-index c.args.entries.now) (drop (c.loop-entry.entry-index + 1) c.args.entries.now) c.is_odd_slot.result
      (one_off c.args.entries.now c.entry-item.result c.loop-entry.entry-index c.entry-item.is c.loop-entry-test.true) c.loop-entry.invariant.0 c.is_odd_slot.ensures c.in_ok-add_other.ensures refl,
  ap (λ k. k + 1) c.loop-entry.invariant.1,
)

pub returns : goal.returns
returns c =
    others-all c.loop-entry.out.items _ c.args.odds.now c.loop-entry.slot (drop c.loop-entry.entry-index c.args.entries.now)
    (drop_all c.loop-entry.entry-index c.args.entries.now c.loop-entry-test.false) c.loop-entry.invariant.0
