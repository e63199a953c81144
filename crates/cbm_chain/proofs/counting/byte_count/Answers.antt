use Rattle.cbm_medium.specs.Place.{sector_count}
use Rattle.cbm_chain.specs.Reading.{held_from}
use Rattle.cbm_chain.proofs.Counted.{all_counted, none_broken}
use Rattle.cbm_chain.proofs.counting.byte_count.Goals as goal

pub returns-clause-counted : goal.returns-clause-counted
returns-clause-counted g c = all_counted c.args.geometry (g.M.Medium.seen c.args.medium.now).content c.loop-geometry.left c.loop-geometry.count c.loop-geometry.at (held_from c.args.geometry (g.M.Medium.seen c.args.medium.now).content (sector_count c.args.geometry) c.args.first)
    (c.is_end.ensures.0 c.loop-geometry-test.false) c.loop-geometry.invariant.bytes

pub returns-clause-walk : goal.returns-clause-walk
returns-clause-walk g c = record {
  whole = none_broken c.args.geometry (g.M.Medium.seen c.args.medium.now).content c.loop-geometry.left c.loop-geometry.at (held_from c.args.geometry (g.M.Medium.seen c.args.medium.now).content (sector_count c.args.geometry) c.args.first)
      (c.is_end.ensures.0 c.loop-geometry-test.false) c.loop-geometry.invariant.trouble;
  cut = tt;
  never_26 = tt;
}
