use Rattle.std.proofs.Common.{◌≡◌, Some, ap, refl, subst, sym}
use Rattle.cbm_channel.specs.Standing.{Kept}
use Rattle.cbm_drive.specs.Afresh.{switched_on}
use Rattle.cbm_drive.specs.Desks.{Desk, DeskStands, at_first, with_pace}
use Rattle.cbm_device.specs.ImageDisks.{Counted, counted_seen, IsDiskOf}
use Rattle.cbm_device.proofs.Opening.{holds_of, same_start}
use Rattle.cbm_device.proofs.device.Device.open.Goals as goal

pub returns-clause-ok : goal.returns-clause-ok
returns-clause-ok c =
    let image = c.args.image.now in
    let b = c.args.party in
    let disk = c.in_ok-disk.disk in
    let opened = c.in_ok-disk.ensures.ok in
    let on = c.powered.ensures in
    let inside = ap (λ (m : Desk (Kept Counted)). m.dos.medium) on.machine in
    record {
      disk = subst (λ x. IsDiskOf image c.args.protected x) (sym inside) opened;
      kind = ap Some c.kind_of.ensures;
      port = on.port;
      machine = subst (λ x. c.powered.result.machine ≡ switched_on b.device b.pace x) (sym inside) on.machine;
      first = refl;
      stands = λ d h.
          subst (λ m. DeskStands counted_seen c.powered.result.machine (with_pace b.pace (at_first b.device m))) (same_start image c.args.protected disk d opened)
          (on.stands d (holds_of image c.args.protected disk d opened h));
    }
