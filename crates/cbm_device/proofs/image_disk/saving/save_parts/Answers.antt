use Rattle.std.proofs.Common.{◌∷◌, [], ◌++◌, length, ap, ◌∙◌}
use Rattle.cbm_saved.specs.Numbers.{eight_bytes}
use Rattle.cbm_channel.specs.Saved.{flag_byte}
use Rattle.cbm_device.proofs.Keeping.{four_joined, lengthened}
use Rattle.cbm_device.proofs.image_disk.saving.save_parts.Goals as goal

pub returns : goal.returns
returns c =
    let p = c.args.parts.now in
    four_joined c.extend_from_slice-2.result c.args.out.now.items (p.format ∷ flag_byte p.protected ∷ []) (eight_bytes p.writes) (eight_bytes (length p.image.now)) p.image.now
    c.extend_from_slice.new.self.items c.put_eight.new.out.items c.put_eight-2.new.out.items c.extend_from_slice-2.new.self.items
    (c.in_ok-extend_from_slice.ensures.items ∙ ap (λ f. c.args.out.now.items ++ p.format ∷ f ∷ []) c.flag_byte.ensures) c.in_ok-put_eight.ensures c.in_ok-put_eight-2.ensures
    (lengthened c.extend_from_slice-2.result _ _ _ c.extend_from_slice-2.ensures.items)
