use Rattle.std.proofs.Common.{◌+◌, drop, refl, arith}
use Rattle.std.proofs.lemmas.List.{drop_all}
use Rattle.cbm_bam.specs.Marks.{is_marked}
use Rattle.cbm_shell.proofs.FlawLemmas.{slots_more, slots_over, one_place}
use Rattle.cbm_shell.proofs.broken.flaws.files.walk_slots.Goals as goal

pub loop-at-preserved : goal.loop-at-preserved
loop-at-preserved g c = (
  slots_more _ c.loop-at.slot (c.loop-at.slot + 8) c.args.geometry (g.M.Medium.seen c.args.volume.now).content (is_marked c.loop-at.found.claimed) (is_marked c.walk_sector.new.found.claimed) c.at-item.result
      (drop c.loop-at.at-index c.args.sectors.now) (drop (c.loop-at.at-index + 1) c.args.sectors.now) c.args.found.now.flaws.items c.loop-at.found.flaws.items c.walk_sector.new.found.flaws.items c.loop-at.invariant.0
      (one_place c.args.sectors.now c.at-item.result c.loop-at.at-index c.at-item.is c.loop-at-test.true) c.in_ok-walk_sector.ensures refl,
  omega (arith, c.loop-at.invariant.1),
)

pub returns : goal.returns
returns g c =
    slots_over _ c.loop-at.slot c.args.geometry (g.M.Medium.seen c.args.volume.now).content (is_marked c.loop-at.found.claimed) (drop c.loop-at.at-index c.args.sectors.now) c.args.found.now.flaws.items c.loop-at.found.flaws.items c.loop-at.invariant.0
    (drop_all c.loop-at.at-index c.args.sectors.now c.loop-at-test.false)
