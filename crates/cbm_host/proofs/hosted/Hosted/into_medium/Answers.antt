use Rattle.std.proofs.Common.{◌≡◌, ◌∷◌, [], subst}
use Rattle.cbm_machine.specs.Machines.{Machine}
use Rattle.cbm_volume.specs.Holding.{HoldsDisk}
use Rattle.cbm_host.proofs.Hosting.{disk_of, tracks_of}
use Rattle.cbm_host.proofs.hosted.Hosted.into_medium.Goals as goal
use Rattle.cbm_host.specs.Hosted.{Hosting, Rests, tracks_on}

pub returns-clause-disk : goal.returns-clause-disk
returns-clause-disk g c =
    let seen = g.M.Medium.seen in
    let h : Hosting _ = record { bus = c.self.inside.bus; device = c.self.inside.device; pace = c.self.inside.pace; moment = c.self.inside.moment } in
    subst (λ (h : Hosting _). (m : Machine) → Rests seen h m → HoldsDisk (seen c.medium_of.result).tracks (seen c.medium_of.result).content m.disk) c.self.view_is
    (disk_of seen h c.medium_of.result c.self.invariant.2 c.medium_of.ensures)

pub returns-clause-tracks : goal.returns-clause-tracks
returns-clause-tracks g c =
    let seen = g.M.Medium.seen in
    let h : Hosting _ = record { bus = c.self.inside.bus; device = c.self.inside.device; pace = c.self.inside.pace; moment = c.self.inside.moment } in
    subst (λ (h : Hosting _). (seen c.medium_of.result).tracks ∷ [] ≡ tracks_on seen h) c.self.view_is
    (tracks_of seen h c.medium_of.result c.self.invariant.2 c.medium_of.ensures)
