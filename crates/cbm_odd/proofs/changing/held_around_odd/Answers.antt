use Rattle.cbm_bam.specs.Marks.{is_marked}
use Rattle.cbm_shell.specs.AroundGeos.{held_around}
use Rattle.cbm_shell.proofs.UndeleteLemmas.{joined}
use Rattle.cbm_odd.specs.Held.{reached_by}
use Rattle.cbm_odd.proofs.changing.held_around_odd.Goals as goal

pub returns : goal.returns
returns g c =
    let content = (g.M.Medium.seen c.args.medium.now).content in
    joined (is_marked c.held_around-held.result) (is_marked c.reach_each.new.reached) (held_around c.args.geometry content c.args.entries.now) (reached_by c.args.geometry content c.args.odds.now)
    c.held_around-held.ensures c.reach_each.ensures
