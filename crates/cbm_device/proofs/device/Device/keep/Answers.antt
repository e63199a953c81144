use Rattle.std.proofs.Common.{◌≡◌, ◌∷◌, [], ◌++◌, ap, subst, ◌∙◌}
use Rattle.std.specs.Prelude.{OnOk}
use Rattle.cbm_saved.specs.Numbers.{eight_bytes}
use Rattle.cbm_drive.specs.Saved.{saved_seat}
use Rattle.cbm_device.specs.Devices.{OnLines}
use Rattle.cbm_device.specs.Snapshots.{kind_number, IsKeptDisk}
use Rattle.cbm_device.proofs.Keeping.{kept_state}
use Rattle.cbm_device.proofs.device.Device.keep.Goals as goal

pub returns-clause-kept : goal.returns-clause-kept
returns-clause-kept c =
    let out = c.args.out.now.items in
    let one = c.extend_from_slice.new.self.items in
    let three = c.keep.new.out.items in
    kept_state c.save.result c.args.self.now out one c.put_eight.new.out.items three c.save.new.out.items
    (c.in_ok-extend_from_slice.ensures.items ∙ ap (λ k. out ++ k ∷ []) (c.kind_number.ensures ∙ ap kind_number (ap (λ (o : OnLines). o.kind) c.self.view_is)))
    (c.in_ok-put_eight.ensures ∙ ap (λ n. one ++ eight_bytes n) (ap (λ (o : OnLines). o.latest) c.self.view_is))
    (subst (λ m. IsKeptDisk m c.put_eight.new.out.items three) c.disk.ensures c.in_ok-keep.ensures)
    (subst (λ s. OnOk c.save.result (c.save.new.out.items ≡ three ++ saved_seat s)) (ap (λ (o : OnLines). o.seat) c.self.view_is) c.save.ensures.saved)
