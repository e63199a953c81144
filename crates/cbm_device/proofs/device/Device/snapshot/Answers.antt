use Rattle.std.proofs.Common.{◌++◌, ap, ◌∙◌}
use Rattle.cbm_saved.specs.Seals.{sealed}
use Rattle.cbm_device.specs.Snapshots.{snapshot_version, state_bytes}
use Rattle.cbm_device.proofs.device.Device.snapshot.Goals as goal

pub returns-in-Ok-sealed-clause-ok : goal.returns-in-Ok-sealed-clause-ok
returns-in-Ok-sealed-clause-ok c =
    let kept = c.in-Ok.ensures.kept in
    record {
      parts = kept.0;
      disk = kept.1;
      spelled = c.in-Ok-sealed.ensures
          ∙ ap (sealed snapshot_version) (c.as_slice.ensures.value ∙ kept.2 ∙ ap (λ l. l ++ state_bytes c.args.self.now kept.0) c.new-state.ensures.items);
      sits = c.in-Ok.ensures.again;
    }
