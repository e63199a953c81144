use Rattle.std.proofs.Common.{◌≡◌, ◌<◌, ◌≤◌, ◌+◌, ◌*◌, ℕ, length, ap, subst, sym, ◌∙◌, arith}
use Rattle.cbm_d64.specs.Image.{sectors_in}
use Rattle.cbm_d64.proofs.Sectors.{length-put, sector-put_same, sector-put_other, error-put, sector_room}
use Rattle.cbm_d64.proofs.image.store.Goals as goal

pub returns : goal.returns
returns c =
    let here : 256 * c.args.place + 256 ≤ length c.mend.new.image
    = omega (arith, sector_room (length c.args.image.now) c.args.place c.requires.size c.requires.place, c.mend.ensures.size) in
    let long : length c.copy_from_slice.new.self ≡ 256 = omega (arith, ap length c.copy_from_slice.ensures.after) in
    let place : c.args.place < sectors_in (length c.mend.new.image) = subst (λ (n : ℕ). c.args.place < sectors_in n) (sym c.mend.ensures.size) c.requires.place in
    record {
      size = length-put c.mend.new.image c.copy_from_slice.new.self c.args.place _ long (omega arith) here ∙ c.mend.ensures.size;
      sector = sector-put_same c.mend.new.image c.copy_from_slice.new.self c.args.place _ long (omega arith) ∙ c.copy_from_slice.ensures.after;
      error = error-put c.mend.new.image c.copy_from_slice.new.self c.args.place c.args.place _ long (omega arith) place here ∙ c.mend.ensures.error;
      other_sectors = λ j h ne. sector-put_other c.mend.new.image c.copy_from_slice.new.self c.args.place j _ long (omega arith) (omega arith) ne ∙ c.mend.ensures.sectors j h;
      other_errors = λ j ne. error-put c.mend.new.image c.copy_from_slice.new.self c.args.place j _ long (omega arith) place here ∙ c.mend.ensures.other_errors j ne;
    }
