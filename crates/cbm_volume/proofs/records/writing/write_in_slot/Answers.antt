use Rattle.std.proofs.Common.{rules, ◌≡◌, ap, refl, ◌∙◌}
use Rattle.std.specs.Prelude.{option_map, IsOkAnd}
use Rattle.std.proofs.lemmas.Result.{err_from_is_err_and}
use Rattle.cbm_medium.proofs.Sequences.{only_nothing}
use Rattle.cbm_medium.specs.Seen.{Seen}
use Rattle.cbm_bam.specs.Map.{geometry_of}
use Rattle.cbm_directory.specs.Entries.{width_of}
use Rattle.cbm_directory.proofs.Codes.{directory_never_26, directory_shown}
use Rattle.cbm_volume.proofs.copied.CopySteps.{no_trouble}
use Rattle.cbm_volume.proofs.held.FileMet.{entry_there, no_entry, bad_width, file_lacks, no_place}
use Rattle.cbm_volume.proofs.records_made.RecordsPut.{open_at, open_there, bad_place, laid_means, put_means, put_untouched, next_means}
use Rattle.cbm_volume.proofs.records.writing.write_in_slot.Goals as goal

-- the directory of a sound disk is whole
pub returns-in_err-entry-clause-put : goal.returns-in_err-entry-clause-put
returns-in_err-entry-clause-put g c = λ d uses w b s rs o few.
    record {
      put = absurd (no_trouble (geometry_of (g.M.Medium.seen c.args.medium.now).tracks (g.M.Medium.seen c.args.medium.now).content) c.geometry-geometry.result (g.M.Medium.seen c.args.medium.now).content o.holds.layout d c.args.slot c.in_err-entry.field-0.0 o.holds.so.stands c.geometry-geometry.ensures.value c.in_err-entry.ensures);
      next = (search rules);
      untouched = absurd (no_trouble (geometry_of (g.M.Medium.seen c.args.medium.now).tracks (g.M.Medium.seen c.args.medium.now).content) c.geometry-geometry.result (g.M.Medium.seen c.args.medium.now).content o.holds.layout d c.args.slot c.in_err-entry.field-0.0 o.holds.so.stands c.geometry-geometry.ensures.value c.in_err-entry.ensures);
    }

-- the slot is there
pub returns-in_default-clause-put : goal.returns-in_default-clause-put
returns-in_default-clause-put g c = λ d uses w b s rs o few.
    record {
      put = absurd (open_there (g.M.Medium.seen c.args.medium.now).tracks c.geometry-geometry.result (g.M.Medium.seen c.args.medium.now).content d uses c.args.slot w b s rs o c.in_ok-entry.field-0 c.geometry-geometry.ensures.value c.in_default.is c.in_ok-entry.ensures);
      next = (search rules);
      untouched = absurd (open_there (g.M.Medium.seen c.args.medium.now).tracks c.geometry-geometry.result (g.M.Medium.seen c.args.medium.now).content d uses c.args.slot w b s rs o c.in_ok-entry.field-0 c.geometry-geometry.ensures.value c.in_default.is c.in_ok-entry.ensures);
    }

-- its records have 1 to 254 bytes, and the position is one of them
pub returns-then-length-eq0-clause-put : goal.returns-then-length-eq0-clause-put
returns-then-length-eq0-clause-put g c = λ d uses w b s rs o few.
    record {
      put = absurd (let at = open_at (g.M.Medium.seen c.args.medium.now).tracks c.geometry-geometry.result (g.M.Medium.seen c.args.medium.now).content d uses c.args.slot w b s rs o c.in_ok-entry.field-0 c.in-Some.entry c.geometry-geometry.ensures.whole c.geometry-geometry.ensures.value c.in-Some.is c.in_ok-entry.ensures in bad_place c.record_length-length.result _ w c.args.position (c.record_length-length.ensures ∙ ap width_of at.entry_is) at.some at.most at.width few c.then-length-eq0.either);
      next = (search rules);
      untouched = absurd (let at = open_at (g.M.Medium.seen c.args.medium.now).tracks c.geometry-geometry.result (g.M.Medium.seen c.args.medium.now).content d uses c.args.slot w b s rs o c.in_ok-entry.field-0 c.in-Some.entry c.geometry-geometry.ensures.whole c.geometry-geometry.ensures.value c.in-Some.is c.in_ok-entry.ensures in bad_place c.record_length-length.result _ w c.args.position (c.record_length-length.ensures ∙ ap width_of at.entry_is) at.some at.most at.width few c.then-length-eq0.either);
    }

-- what breaks the directory off is never told as protection
pub returns-in_err-entry-clause-only : goal.returns-in_err-entry-clause-only
returns-in_err-entry-clause-only g c =
    let p = err_from_is_err_and c.from_residual.result c.from_residual.ensures.1 in
    only_nothing c.from_residual.result (g.M.Medium.seen c.args.medium.now) (g.M.Medium.seen c.args.medium.now) (λ i. g.M.Medium.seen c.args.medium.now)
    (rw (p.1, p.2) (λ is. absurd (directory_never_26 c.geometry-geometry.result (g.M.Medium.seen c.args.medium.now).content c.in_err-entry.field-0.0 (λ q. g.met.M.Medium.codes c.args.medium.now q) c.in_err-entry.ensures.1 is)))
    (rw (p.1, p.2) (directory_shown c.geometry-geometry.result (g.M.Medium.seen c.args.medium.now) c.in_err-entry.field-0.0 c.in_err-entry.ensures.1))

-- the record after it stays
pub returns-clause-put : goal.returns-clause-put
returns-clause-put g c = λ d uses w b s rs o few.
    record {
      put =
          let old : Seen = (g.M.Medium.seen c.args.medium.now) in
          let new : Seen = g.M.Medium.seen c.write_record.new.medium in
          let at = open_at (g.M.Medium.seen c.args.medium.now).tracks c.geometry-geometry.result (g.M.Medium.seen c.args.medium.now).content d uses c.args.slot w b s rs o c.in_ok-entry.field-0 c.in-Some.entry c.geometry-geometry.ensures.whole c.geometry-geometry.ensures.value c.in-Some.is c.in_ok-entry.ensures in
          put_means old new d uses c.args.slot w b s c.args.number c.args.position rs c.args.bytes.now c.in-Some.entry o at c.requires.number.0 c.requires.position few (λ r. r.cut) c.write_record.result
          (laid_means old new d uses c.args.slot w b s c.args.number c.args.position rs c.args.bytes.now c.in-Some.entry o at c.requires.number.0 c.requires.position few (λ r. r.cut) c.geometry-geometry.result c.new-file.result c.write_record.result c.geometry-geometry.ensures.value
          (c.new-file.ensures ∙ (λ i. record { first = c.first_block.ensures i; side = c.first_side.ensures i; width = c.record_length-length.ensures i })) c.write_record.ensures.laid);
      next =
          let old : Seen = (g.M.Medium.seen c.args.medium.now) in
          let new : Seen = g.M.Medium.seen c.write_record.new.medium in
          let at = open_at (g.M.Medium.seen c.args.medium.now).tracks c.geometry-geometry.result (g.M.Medium.seen c.args.medium.now).content d uses c.args.slot w b s rs o c.in_ok-entry.field-0 c.in-Some.entry c.geometry-geometry.ensures.whole c.geometry-geometry.ensures.value c.in-Some.is c.in_ok-entry.ensures in
          let file = c.new-file.ensures ∙ (λ i. record { first = c.first_block.ensures i; side = c.first_side.ensures i; width = c.record_length-length.ensures i }) in
          next_means old new d uses c.args.slot w b s c.args.number c.args.position rs c.args.bytes.now c.in-Some.entry o at c.requires.number.0 c.requires.position few (λ r. r.cut) (λ y z. IsOkAnd y.next (λ x. option_map (λ v. v.items) x ≡ z))
          c.geometry-geometry.result c.new-file.result c.write_record.result c.write_record.ensures.only.tracks c.geometry-geometry.ensures.value file
          (put_means old new d uses c.args.slot w b s c.args.number c.args.position rs c.args.bytes.now c.in-Some.entry o at c.requires.number.0 c.requires.position few (λ r. r.cut) c.write_record.result
          (laid_means old new d uses c.args.slot w b s c.args.number c.args.position rs c.args.bytes.now c.in-Some.entry o at c.requires.number.0 c.requires.position few (λ r. r.cut) c.geometry-geometry.result c.new-file.result c.write_record.result c.geometry-geometry.ensures.value file c.write_record.ensures.laid))
          c.write_record.ensures.next;
      untouched =
          let old : Seen = (g.M.Medium.seen c.args.medium.now) in
          let new : Seen = g.M.Medium.seen c.write_record.new.medium in
          let at = open_at (g.M.Medium.seen c.args.medium.now).tracks c.geometry-geometry.result (g.M.Medium.seen c.args.medium.now).content d uses c.args.slot w b s rs o c.in_ok-entry.field-0 c.in-Some.entry c.geometry-geometry.ensures.whole c.geometry-geometry.ensures.value c.in-Some.is c.in_ok-entry.ensures in
          put_untouched old new d uses c.args.slot w b s c.args.number c.args.position rs c.args.bytes.now c.in-Some.entry o at c.requires.number.0 c.requires.position few (λ r. r.cut) c.write_record.result
          (laid_means old new d uses c.args.slot w b s c.args.number c.args.position rs c.args.bytes.now c.in-Some.entry o at c.requires.number.0 c.requires.position few (λ r. r.cut) c.geometry-geometry.result c.new-file.result c.write_record.result c.geometry-geometry.ensures.value
          (c.new-file.ensures ∙ (λ i. record { first = c.first_block.ensures i; side = c.first_side.ensures i; width = c.record_length-length.ensures i })) c.write_record.ensures.laid);
    }

-- None says that the record isn't there
pub returns-in_default-clause-missing : goal.returns-in_default-clause-missing
returns-in_default-clause-missing g c = no_entry c.geometry-geometry.result c.args.slot c.args.number c.args.position (g.M.Medium.seen c.args.medium.now) c.in_ok-entry.field-0 c.geometry-geometry.ensures.value c.in_default.is c.in_ok-entry.ensures

pub returns-then-length-eq0-clause-missing : goal.returns-then-length-eq0-clause-missing
returns-then-length-eq0-clause-missing g c =
    let now = g.M.Medium.seen c.args.medium.now in
    bad_width c.args.slot c.args.number c.args.position c.record_length-length.result now c.in-Some.entry
    (entry_there (geometry_of now.tracks now.content) c.geometry-geometry.result c.args.slot now.content _ c.in-Some.entry c.geometry-geometry.ensures.value c.in-Some.is c.in_ok-entry.ensures) c.record_length-length.ensures (no_place _ _ c.requires.position c.then-length-eq0.either)

pub returns-clause-missing : goal.returns-clause-missing
returns-clause-missing g c =
    let now = g.M.Medium.seen c.args.medium.now in
    file_lacks c.geometry-geometry.result c.args.slot c.args.number c.args.position now now.content c.in-Some.entry c.new-file.result c.write_record.result c.geometry-geometry.ensures.value refl
    (entry_there (geometry_of now.tracks now.content) c.geometry-geometry.result c.args.slot now.content _ c.in-Some.entry c.geometry-geometry.ensures.value c.in-Some.is c.in_ok-entry.ensures)
    (c.new-file.ensures ∙ (λ i. record { first = c.first_block.ensures i; side = c.first_side.ensures i; width = c.record_length-length.ensures i })) c.write_record.ensures.missing
