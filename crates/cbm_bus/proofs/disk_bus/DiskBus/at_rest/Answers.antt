use Rattle.std.proofs.Common.{◌≡◌, subst}
use Rattle.cbm_channel.specs.Standing.{Kept}
use Rattle.cbm_drive.specs.Cables.{Cabled, all_free}
use Rattle.cbm_drive.specs.Desks.{Desk}
use Rattle.cbm_drive.specs.Seats.{AreResting}
use Rattle.cbm_bus.proofs.Again.{rests_again}
use Rattle.cbm_bus.proofs.disk_bus.DiskBus.at_rest.Goals as goal

pub returns-clause-again : goal.returns-clause-again
returns-clause-again g c = λ yes bs ms ss unlike here.
    let rest = subst (λ (b : Cabled (Desk (Kept _))). (b.host ≡ all_free) × AreResting b.drives) c.self.view_is (c.at_rest.ensures.0 yes) in
    rests_again g.M.Medium.seen bs ms c.args.self.now ss unlike rest.0 rest.1 here
