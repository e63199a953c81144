use Rattle.std.proofs.Common.{◌+◌, ◌≡◌, refl, arith, ap}
use Rattle.cbm_bam.specs.Marks.{is_marked}
use Rattle.cbm_volume.specs.check.SlotWalk.{entries_after, entries_in}
use Rattle.cbm_shell.specs.Flaws.{entries_walk}
use Rattle.cbm_shell.proofs.FlawLemmas.{going, entry_more, entries_over}
use Rattle.cbm_shell.proofs.broken.flaws.files.walk_entries.Goals as goal

pub loop-number-init : goal.loop-number-init
loop-number-init g c =
    going (entries_walk (c.args.slot + 0) c.args.geometry (g.M.Medium.seen c.args.volume.now).content (is_marked c.args.found.now.claimed) c.args.at (entries_after 0 c.args.sector.now)) _ c.args.found.now.flaws.items
    (ap (λ m. entries_walk m c.args.geometry (g.M.Medium.seen c.args.volume.now).content (is_marked c.args.found.now.claimed) c.args.at (entries_in c.args.sector.now)) (let z : c.args.slot + 0 ≡ c.args.slot = omega arith in z))

pub loop-number-preserved : goal.loop-number-preserved
loop-number-preserved g c =
    entry_more _ c.args.slot c.loop-number.number c.args.geometry (g.M.Medium.seen c.args.volume.now).content (is_marked c.loop-number.found.claimed) (is_marked c.walk_entry.new.found.claimed) c.args.at c.args.sector.now c.of-entry.result _
    c.args.found.now.flaws.items c.loop-number.found.flaws.items c.walk_entry.new.found.flaws.items c.loop-number.invariant c.loop-number-test.true c.of-entry.ensures refl c.in_ok-walk_entry.ensures

pub returns : goal.returns
returns g c =
    entries_over _ c.args.slot c.loop-number.number c.args.geometry (g.M.Medium.seen c.args.volume.now).content (is_marked c.loop-number.found.claimed) c.args.at c.args.sector.now
    c.args.found.now.flaws.items c.loop-number.found.flaws.items c.loop-number.invariant c.loop-number-test.false
