use Rattle.std.proofs.Common.{◌∙◌, ℕ, List, Bool, arith, ap, length, subst, sym}
use Rattle.std.proofs.lemmas.List.{take_at}
use Rattle.cbm_g64.specs.File.{g64_circles}
use Rattle.cbm_g64.specs.NewFile.{new_file}
use Rattle.cbm_g64.specs.Image.{IsImageOf}
use Rattle.cbm_g64.specs.Tracks.{g64_content, AreFilled, AreLaid}
use Rattle.cbm_g64.proofs.NewFiles.{length-new_file}
use Rattle.cbm_g64.proofs.copying.image_of.Goals as goal

pub returns-clause-size : goal.returns-clause-size
returns-clause-size g c =
    ap length (take_at c.put_tracks.new.out _ c.in-Ok-base.out.len (omega (arith, ap length c.as_mut_slice-2.ensures.value)))
    ∙ c.put_tracks.ensures.image.same_length ∙ length-new_file

pub returns-clause-shown : goal.returns-clause-shown
returns-clause-shown g c = λ p h.
    ap (λ (v : List ℕ). g64_content (g64_circles v 35) p) (take_at c.put_tracks.new.out _ c.in-Ok-base.out.len (omega (arith, ap length c.as_mut_slice-2.ensures.value)))
    ∙ ap (λ (t : List (List Bool)). g64_content t p) (c.put_tracks.ensures.again.1 ∙ c.as_slice.ensures.value ∙ take_at c.copy_tracks.new.tracks _ c.in-Ok.tracks.len (omega (arith, ap length c.as_mut_slice.ensures.value)))
    ∙ c.copy_tracks.ensures.shown p h

pub returns-clause-form : goal.returns-clause-form
returns-clause-form g c =
    subst (λ (v : List ℕ). IsImageOf new_file (g64_circles v 35) v)
    (sym (take_at c.put_tracks.new.out _ c.in-Ok-base.out.len (omega (arith, ap length c.as_mut_slice-2.ensures.value))))
    (subst (λ (t : List (List Bool)). IsImageOf new_file t c.put_tracks.new.out) (sym c.put_tracks.ensures.again.1) c.put_tracks.ensures.image)

pub returns-clause-laid : goal.returns-clause-laid
returns-clause-laid g c =
    subst AreLaid
    (sym (ap (λ (v : List ℕ). g64_circles v 35) (take_at c.put_tracks.new.out _ c.in-Ok-base.out.len (omega (arith, ap length c.as_mut_slice-2.ensures.value)))
    ∙ c.put_tracks.ensures.again.1 ∙ c.as_slice.ensures.value ∙ take_at c.copy_tracks.new.tracks _ c.in-Ok.tracks.len (omega (arith, ap length c.as_mut_slice.ensures.value))))
    c.copy_tracks.ensures.disk.laid

pub returns-clause-filled : goal.returns-clause-filled
returns-clause-filled g c =
    subst (AreFilled c.args.id)
    (sym (ap (λ (v : List ℕ). g64_circles v 35) (take_at c.put_tracks.new.out _ c.in-Ok-base.out.len (omega (arith, ap length c.as_mut_slice-2.ensures.value)))
    ∙ c.put_tracks.ensures.again.1 ∙ c.as_slice.ensures.value ∙ take_at c.copy_tracks.new.tracks _ c.in-Ok.tracks.len (omega (arith, ap length c.as_mut_slice.ensures.value))))
    c.copy_tracks.ensures.disk.filled
