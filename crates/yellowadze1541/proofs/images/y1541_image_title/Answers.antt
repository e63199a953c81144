use Rattle.std.proofs.Common.{◌∙◌, inl, refl}
use Rattle.yellowadze1541.proofs.images.y1541_image_title.Goals as goal

pub returns-in-Ok : goal.returns-in-Ok
returns-in-Ok c = record {
  told = inl refl;
  means = λ d h.
      let means = c.in-Ok.ensures.means d h in
      let shown = c.shown.ensures in
      inl (refl, record { title = shown.title ∙ means.title; mark = shown.mark ∙ means.mark; free = shown.free ∙ means.free });
}
