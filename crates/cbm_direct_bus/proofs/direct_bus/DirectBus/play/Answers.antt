use Rattle.std.proofs.Common.{◌≡◌, subst}
use Rattle.cbm_drive.specs.Cables.{Cabled}
use Rattle.cbm_direct_desk.specs.DirectDesks.{DirectAddressed}
use Rattle.cbm_direct_bus.specs.DirectBuses.{vouches_of}
use Rattle.cbm_direct_bus.proofs.Known.{same_vouches}
use Rattle.cbm_direct_bus.proofs.direct_bus.DirectBus.play.Goals as goal

-- the numbers last
pub returns-clause-known : goal.returns-clause-known
returns-clause-known g c =
    subst (λ (b : Cabled (DirectAddressed _)). vouches_of c.play.new.self.drives ≡ vouches_of b.drives) c.self.view_is
    (same_vouches c.self.inside.bus.drives c.play.new.self.drives c.play.ensures.carried.lasting)
