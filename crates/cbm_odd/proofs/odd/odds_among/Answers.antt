use Rattle.std.proofs.Common.{◌+◌, drop, refl, ap}
use Rattle.std.proofs.lemmas.List.{drop_all}
use Rattle.cbm_shell.proofs.MapLemmas.{one_off}
use Rattle.cbm_odd.proofs.OddLemmas.{odds-all, odds-more}
use Rattle.cbm_odd.proofs.odd.odds_among.Goals as goal

pub loop-entry-preserved : goal.loop-entry-preserved
loop-entry-preserved c = (
  odds-more c.loop-entry.out.items c.add_odd.new.out.items _ c.args.flaws.now c.loop-entry.slot (c.loop-entry.slot + 1) c.entry-item.result
      (drop c.loop-entry.entry-index c.args.entries.now) (drop (c.loop-entry.entry-index + 1) c.args.entries.now) c.is_slot_flawed.result
      (one_off c.args.entries.now c.entry-item.result c.loop-entry.entry-index c.entry-item.is c.loop-entry-test.true) c.loop-entry.invariant.0 c.is_slot_flawed.ensures c.in_ok-add_odd.ensures refl,
  ap (λ k. k + 1) c.loop-entry.invariant.1,
)

pub returns : goal.returns
returns c =
    odds-all c.loop-entry.out.items _ c.args.flaws.now c.loop-entry.slot (drop c.loop-entry.entry-index c.args.entries.now)
    (drop_all c.loop-entry.entry-index c.args.entries.now c.loop-entry-test.false) c.loop-entry.invariant.0
