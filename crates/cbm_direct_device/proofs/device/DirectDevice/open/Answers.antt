use Rattle.std.proofs.Common.{Some, ap, refl, subst, sym, ◌∙◌}
use Rattle.cbm_channel.specs.Standing.{Stands}
use Rattle.cbm_device.proofs.Opening.{holds_of, same_start}
use Rattle.cbm_device.specs.ImageDisks.{counted_seen, never_fails, IsDiskOf}
use Rattle.cbm_direct.specs.declared.vouch.Vouch.TheVariants.{Sound}
use Rattle.cbm_direct_device.proofs.device.DirectDevice.open.Goals as goal

pub returns-clause-ok : goal.returns-clause-ok
returns-clause-ok c =
    let image = c.args.image.now in
    let disk = c.in_ok-disk.disk in
    let opened = c.in_ok-disk.ensures.ok in
    let on = c.powered.ensures in
    record {
      disk = subst (λ x. IsDiskOf image c.args.protected x) (sym on.powered.inside) opened;
      kind = ap Some c.kind_of.ensures;
      port = on.port;
      addressed = on.addressed;
      first = refl;
      buffers = on.powered.buffers;
      reply = on.powered.reply;
      allowed = on.powered.allowed;
      sound = λ e x h. on.powered.sound e (x, holds_of image c.args.protected disk x opened h) ∙ ap Sound (never_fails disk);
      stands = λ x h.
          subst (λ m. Stands counted_seen c.powered.result.machine.dos.vouched.dos m) (same_start image c.args.protected disk x opened)
          (on.powered.stands x (holds_of image c.args.protected disk x opened h));
    }
