use Rattle.std.proofs.Common.{◌≡◌, refl, ◌∙◌, inr}
use Rattle.std.proofs.lemmas.Result.{err_from_is_err_and}
use Rattle.cbm_bam.specs.Map.{geometry_of}
use Rattle.cbm_directory.proofs.Codes.{directory_never_26, directory_shown}
use Rattle.cbm_volume.proofs.copied.CopySteps.{no_trouble}
use Rattle.cbm_volume.proofs.grown.GrowingPlans.{counted, good_width, is_planned, no_block, too_large}
use Rattle.cbm_volume.proofs.records_made.RecordsPut.{open_at, open_there}
use Rattle.cbm_volume.proofs.held.FileMet.{entry_there, met_in_slot}
use Rattle.cbm_volume.specs.RecordFaults.{relative_of}
use Rattle.cbm_volume.proofs.records.growing.plan_growth.Goals as goal

-- the directory of a sound disk is whole
pub returns-in_err-entry-clause-planned : goal.returns-in_err-entry-clause-planned
returns-in_err-entry-clause-planned g c = λ d uses w b s rs o free. absurd (no_trouble (geometry_of (g.M.Medium.seen c.args.medium.now).tracks (g.M.Medium.seen c.args.medium.now).content) c.geometry-geometry.result (g.M.Medium.seen c.args.medium.now).content o.holds.layout d c.args.slot c.in_err-entry.field-0.0 o.holds.so.stands c.geometry-geometry.ensures.value c.in_err-entry.ensures)

-- what breaks it off is never told as protection
pub returns-in_err-entry-clause-never_26 : goal.returns-in_err-entry-clause-never_26
returns-in_err-entry-clause-never_26 g c =
    let p = err_from_is_err_and c.from_residual.result c.from_residual.ensures.1 in
    rw (p.1, p.2) (λ is. directory_never_26 c.geometry-geometry.result (g.M.Medium.seen c.args.medium.now).content c.in_err-entry.field-0.0 (λ q. g.met.M.Medium.codes c.args.medium.now q) c.in_err-entry.ensures.1 is)

pub returns-in_err-entry-clause-shown : goal.returns-in_err-entry-clause-shown
returns-in_err-entry-clause-shown g c =
    let p = err_from_is_err_and c.from_residual.result c.from_residual.ensures.1 in
    rw (p.1, p.2) (directory_shown c.geometry-geometry.result (g.M.Medium.seen c.args.medium.now) c.in_err-entry.field-0.0 c.in_err-entry.ensures.1)

-- the slot is there
pub returns-in_default-clause-planned : goal.returns-in_default-clause-planned
returns-in_default-clause-planned g c = λ d uses w b s rs o free. absurd (open_there (g.M.Medium.seen c.args.medium.now).tracks c.geometry-geometry.result (g.M.Medium.seen c.args.medium.now).content d uses c.args.slot w b s rs o c.in_ok-entry.field-0 c.geometry-geometry.ensures.value c.in_default.is c.in_ok-entry.ensures)

-- its records have 1 to 254 bytes
pub returns-then-length-eq0-clause-planned : goal.returns-then-length-eq0-clause-planned
returns-then-length-eq0-clause-planned g c = λ d uses w b s rs o free. absurd (good_width (g.M.Medium.seen c.args.medium.now).tracks (g.M.Medium.seen c.args.medium.now).content d uses c.args.slot w b s rs o c.geometry-geometry.result (relative_of c.in-Some.entry) c.in-Some.entry c.geometry-geometry.ensures.value (λ i. relative_of c.in-Some.entry) (open_at (g.M.Medium.seen c.args.medium.now).tracks c.geometry-geometry.result (g.M.Medium.seen c.args.medium.now).content d uses c.args.slot w b s rs o c.in_ok-entry.field-0 c.in-Some.entry c.geometry-geometry.ensures.whole c.geometry-geometry.ensures.value c.in-Some.is c.in_ok-entry.ensures) c.record_length-length.result c.record_length-length.ensures c.then-length-eq0.either)

-- its blocks and its first side sector read
pub returns-in_err-extent-clause-planned : goal.returns-in_err-extent-clause-planned
returns-in_err-extent-clause-planned g c = λ d uses w b s rs o free. absurd (counted (g.M.Medium.seen c.args.medium.now).tracks (g.M.Medium.seen c.args.medium.now).content d uses c.args.slot w b s rs o c.geometry-geometry.result c.new-file.result c.in-Some.entry c.geometry-geometry.ensures.value (c.new-file.ensures ∙ (λ i. record { first = c.first_block.ensures i; side = c.first_side.ensures i; width = c.record_length-length.ensures i })) (open_at (g.M.Medium.seen c.args.medium.now).tracks c.geometry-geometry.result (g.M.Medium.seen c.args.medium.now).content d uses c.args.slot w b s rs o c.in_ok-entry.field-0 c.in-Some.entry c.geometry-geometry.ensures.whole c.geometry-geometry.ensures.value c.in-Some.is c.in_ok-entry.ensures) (λ k j. ⊥) c.in_err-extent.ensures.counted)

-- it has a block
pub returns-then-extent-eq0-clause-planned : goal.returns-then-extent-eq0-clause-planned
returns-then-extent-eq0-clause-planned g c = λ d uses w b s rs o free.
    let count = counted (g.M.Medium.seen c.args.medium.now).tracks (g.M.Medium.seen c.args.medium.now).content d uses c.args.slot w b s rs o c.geometry-geometry.result c.new-file.result c.in-Some.entry c.geometry-geometry.ensures.value (c.new-file.ensures ∙ (λ i. record { first = c.first_block.ensures i; side = c.first_side.ensures i; width = c.record_length-length.ensures i })) (open_at (g.M.Medium.seen c.args.medium.now).tracks c.geometry-geometry.result (g.M.Medium.seen c.args.medium.now).content d uses c.args.slot w b s rs o c.in_ok-entry.field-0 c.in-Some.entry c.geometry-geometry.ensures.whole c.geometry-geometry.ensures.value c.in-Some.is c.in_ok-entry.ensures) (λ k j. (c.in_ok-extent.extent.blocks ≡ k) × (c.in_ok-extent.extent.sides ≡ j)) c.in_ok-extent.ensures.counted in
    absurd (no_block (g.M.Medium.seen c.args.medium.now).tracks (g.M.Medium.seen c.args.medium.now).content d uses c.args.slot w b s rs o c.geometry-geometry.result c.new-file.result c.in-Some.entry c.geometry-geometry.ensures.value (c.new-file.ensures ∙ (λ i. record { first = c.first_block.ensures i; side = c.first_side.ensures i; width = c.record_length-length.ensures i })) (open_at (g.M.Medium.seen c.args.medium.now).tracks c.geometry-geometry.result (g.M.Medium.seen c.args.medium.now).content d uses c.args.slot w b s rs o c.in_ok-entry.field-0 c.in-Some.entry c.geometry-geometry.ensures.whole c.geometry-geometry.ensures.value c.in-Some.is c.in_ok-entry.ensures) c.in_ok-extent.extent.blocks c.in_ok-extent.extent.sides count c.if-extent-eq0.true)

-- the growth is too large
pub returns-in_default-needed-clause-planned : goal.returns-in_default-needed-clause-planned
returns-in_default-needed-clause-planned g c = λ d uses w b s rs o free.
    let count = counted (g.M.Medium.seen c.args.medium.now).tracks (g.M.Medium.seen c.args.medium.now).content d uses c.args.slot w b s rs o c.geometry-geometry.result c.new-file.result c.in-Some.entry c.geometry-geometry.ensures.value (c.new-file.ensures ∙ (λ i. record { first = c.first_block.ensures i; side = c.first_side.ensures i; width = c.record_length-length.ensures i })) (open_at (g.M.Medium.seen c.args.medium.now).tracks c.geometry-geometry.result (g.M.Medium.seen c.args.medium.now).content d uses c.args.slot w b s rs o c.in_ok-entry.field-0 c.in-Some.entry c.geometry-geometry.ensures.whole c.geometry-geometry.ensures.value c.in-Some.is c.in_ok-entry.ensures) (λ k j. (c.in_ok-extent.extent.blocks ≡ k) × (c.in_ok-extent.extent.sides ≡ j)) c.in_ok-extent.ensures.counted in
    (too_large (g.M.Medium.seen c.args.medium.now).tracks (g.M.Medium.seen c.args.medium.now).content d uses c.args.slot w b s rs o c.geometry-geometry.result c.new-file.result c.in-Some.entry c.geometry-geometry.ensures.value (c.new-file.ensures ∙ (λ i. record { first = c.first_block.ensures i; side = c.first_side.ensures i; width = c.record_length-length.ensures i })) (open_at (g.M.Medium.seen c.args.medium.now).tracks c.geometry-geometry.result (g.M.Medium.seen c.args.medium.now).content d uses c.args.slot w b s rs o c.in_ok-entry.field-0 c.in-Some.entry c.geometry-geometry.ensures.whole c.geometry-geometry.ensures.value c.in-Some.is c.in_ok-entry.ensures) c.record_length-length.result c.in_ok-extent.extent.blocks c.in_ok-extent.extent.sides c.args.free c.args.number c.record_length-length.ensures count free (c.needed.ensures.none c.in_default-needed.is))

pub returns-clause-planned : goal.returns-clause-planned
returns-clause-planned g c = λ d uses w b s rs o free.
    let count = counted (g.M.Medium.seen c.args.medium.now).tracks (g.M.Medium.seen c.args.medium.now).content d uses c.args.slot w b s rs o c.geometry-geometry.result c.new-file.result c.in-Some.entry c.geometry-geometry.ensures.value (c.new-file.ensures ∙ (λ i. record { first = c.first_block.ensures i; side = c.first_side.ensures i; width = c.record_length-length.ensures i })) (open_at (g.M.Medium.seen c.args.medium.now).tracks c.geometry-geometry.result (g.M.Medium.seen c.args.medium.now).content d uses c.args.slot w b s rs o c.in_ok-entry.field-0 c.in-Some.entry c.geometry-geometry.ensures.whole c.geometry-geometry.ensures.value c.in-Some.is c.in_ok-entry.ensures) (λ k j. (c.in_ok-extent.extent.blocks ≡ k) × (c.in_ok-extent.extent.sides ≡ j)) c.in_ok-extent.ensures.counted in
    is_planned (g.M.Medium.seen c.args.medium.now).tracks (g.M.Medium.seen c.args.medium.now).content d uses c.args.slot w b s rs o c.geometry-geometry.result c.new-file.result c.in-Some.entry c.geometry-geometry.ensures.value (c.new-file.ensures ∙ (λ i. record { first = c.first_block.ensures i; side = c.first_side.ensures i; width = c.record_length-length.ensures i })) (open_at (g.M.Medium.seen c.args.medium.now).tracks c.geometry-geometry.result (g.M.Medium.seen c.args.medium.now).content d uses c.args.slot w b s rs o c.in_ok-entry.field-0 c.in-Some.entry c.geometry-geometry.ensures.whole c.geometry-geometry.ensures.value c.in-Some.is c.in_ok-entry.ensures) c.record_length-length.result c.in_ok-extent.extent.blocks c.in_ok-extent.extent.sides c.args.free c.args.number c.in-Some-needed.blocks c.record_length-length.ensures count free c.in-Some-needed.ensures.some

-- what is met on the way through the file
pub returns-in_err-extent-clause-cause : goal.returns-in_err-extent-clause-cause
returns-in_err-extent-clause-cause g c =
    let now = g.M.Medium.seen c.args.medium.now in
    let p = err_from_is_err_and c.from_residual-in_err-extent.result c.from_residual-in_err-extent.ensures.1 in
    rw (p.1, p.2) (inr (met_in_slot (geometry_of now.tracks now.content) c.geometry-geometry.result now.content now.content c.args.slot c.in-Some.entry c.new-file.result c.in_err-extent.field-0.0 c.geometry-geometry.ensures.value refl
    (entry_there (geometry_of now.tracks now.content) c.geometry-geometry.result c.args.slot now.content c.in_ok-entry.field-0 c.in-Some.entry c.geometry-geometry.ensures.value c.in-Some.is c.in_ok-entry.ensures) (c.new-file.ensures ∙ (λ i. record { first = c.first_block.ensures i; side = c.first_side.ensures i; width = c.record_length-length.ensures i })) c.in_err-extent.ensures.err.shown))
