use Rattle.std.proofs.Common.{ap, refl, inl, ◌∙◌}
use Rattle.std.specs.Prelude.{option_map}
use Rattle.cbm_g64.specs.Numbers.{g64_fault_number}
use Rattle.cbm_g64.specs.Tracks.{or_zeros}
use Rattle.cbm_image.specs.Images.{is_d64_size}
use Rattle.cbm_image.proofs.Again.{has_kind}
use Rattle.cbm_shell.proofs.ZeroImages.{content_zeros}
use Rattle.cbm_shell.proofs.images.making.blank_g64.Goals as goal

pub returns-in-Ok-from_sectors : goal.returns-in-Ok-from_sectors
returns-in-Ok-from_sectors c = record {
  opens = has_kind c.before.before.in-Ok-from_sectors.image.items c.in-Ok-from_sectors.ensures.right (ap is_d64_size c.in-Ok-from_sectors.ensures.size);
  accepted = ap (option_map g64_fault_number) c.in-Ok-from_sectors.ensures.right;
  tracks = refl;
  zeros = λ p h. c.in-Ok-from_sectors.ensures.shown p h ∙ ap or_zeros (content_zeros 174848 c.in-Ok.disk.bytes p (inl refl) refl (ap (λ d. d.bytes) c.in-Ok.ensures.ok ∙ c.as_slice.ensures.value ∙ c.in_ok-sectors.ensures));
}
