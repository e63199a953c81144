use Rattle.std.proofs.Common.{◌<◌, ◌*◌, ℕ, List, length, refl, subst, sym}
use Rattle.std.proofs.lemmas.Result.{err_from_is_err_and}
use Rattle.std.specs.Prelude.{◌==◌, IfErr}
use Rattle.cbm_medium.proofs.Sequences.{only_nothing}
use Rattle.cbm_medium.specs.Place.{Place}
use Rattle.cbm_medium.specs.Links.{Chain}
use Rattle.cbm_medium.specs.Seen.{Seen}
use Rattle.cbm_bam.specs.Causes.{HasCause}
use Rattle.cbm_bam.specs.Map.{geometry_of}
use Rattle.cbm_directory.specs.Entries.{first_directory, sector_of}
use Rattle.cbm_directory.proofs.Codes.{directory_never_26, directory_shown}
use Rattle.cbm_volume.proofs.grown.BlockCounts.{told, told_at, told_elsewhere, told_entries, told_there}
use Rattle.cbm_volume.proofs.copied.CopySteps.{no_trouble}
use Rattle.cbm_volume.proofs.layouts.Staying.{entries_same}
use Rattle.cbm_volume.proofs.written.Sparing.{EntryPut}
use Rattle.cbm_volume.proofs.records.counting_blocks.tell_blocks.Goals as goal

-- the directory of a sound disk is whole
pub returns-in_err-entry-clause-told : goal.returns-in_err-entry-clause-told
returns-in_err-entry-clause-told g c = λ size d uses ch f h relates at.
    absurd (no_trouble (geometry_of (g.M.Medium.seen c.args.medium.now).tracks (g.M.Medium.seen c.args.medium.now).content) c.args.geometry (g.M.Medium.seen c.args.medium.now).content h.layout d c.args.slot c.in_err-entry.field-0.0 h.so.stands size c.in_err-entry.ensures)

-- the slot is there
pub returns-in_default-clause-told : goal.returns-in_default-clause-told
returns-in_default-clause-told g c = λ size d uses ch f h relates at.
    absurd (told_there (g.M.Medium.seen c.args.medium.now).tracks c.args.geometry (g.M.Medium.seen c.args.medium.now).content d uses c.args.slot f c.in_ok-entry.field-0 h at size (sym c.in_default.is) c.in_ok-entry.ensures)

pub returns-clause-told : goal.returns-clause-told
returns-clause-told g c = λ size.
    let old : Seen = g.M.Medium.seen c.args.medium.now in
    let new : Seen = g.M.Medium.seen c.put_slot.new.medium in
    told old.tracks old new c.args.slot c.args.blocks c.in-Some.entry c.counted-counted.result c.put_slot.result c.counted-counted.ensures
    (told_at old.tracks c.args.geometry old.content c.args.slot c.in-Some.entry c.in_ok-entry.field-0 size (sym c.in-Some.is) c.in_ok-entry.ensures)
    (subst (λ (t : ℕ). EntryPut t old.content new.content c.args.slot c.counted-counted.result c.put_slot.result) size c.put_slot.ensures.entered) c.put_slot.ensures.err
    (subst (λ (k : ℕ). (directory : List Place) → Chain k old.content first_directory directory → c.args.slot < 8 * length directory → IfErr c.put_slot.result (λ t. HasCause old new (sector_of directory c.args.slot) t.code)) size c.put_slot.ensures.cause)

pub returns-clause-elsewhere : goal.returns-clause-elsewhere
returns-clause-elsewhere g c = λ size.
    let old : Seen = g.M.Medium.seen c.args.medium.now in
    let new : Seen = g.M.Medium.seen c.put_slot.new.medium in
    told_elsewhere old.tracks old.content new.content c.args.slot c.in-Some.entry c.counted-counted.result c.put_slot.result
    (told_at old.tracks c.args.geometry old.content c.args.slot c.in-Some.entry c.in_ok-entry.field-0 size (sym c.in-Some.is) c.in_ok-entry.ensures)
    (subst (λ (t : ℕ). EntryPut t old.content new.content c.args.slot c.counted-counted.result c.put_slot.result) size c.put_slot.ensures.entered) c.put_slot.ensures.err

pub returns-in_err-entry-clause-entries : goal.returns-in_err-entry-clause-entries
returns-in_err-entry-clause-entries g c = λ size d uses h.
    let old : Seen = g.M.Medium.seen c.args.medium.now in
    entries_same h.layout old.content old.content (λ m. m == c.args.slot) refl

pub returns-in_default-clause-entries : goal.returns-in_default-clause-entries
returns-in_default-clause-entries g c = λ size d uses h.
    let old : Seen = g.M.Medium.seen c.args.medium.now in
    entries_same h.layout old.content old.content (λ m. m == c.args.slot) refl

pub returns-clause-entries : goal.returns-clause-entries
returns-clause-entries g c = λ size.
    let old : Seen = g.M.Medium.seen c.args.medium.now in
    let new : Seen = g.M.Medium.seen c.put_slot.new.medium in
    told_entries old.tracks old.content new.content c.args.slot c.in-Some.entry c.counted-counted.result c.put_slot.result
    (told_at old.tracks c.args.geometry old.content c.args.slot c.in-Some.entry c.in_ok-entry.field-0 size (sym c.in-Some.is) c.in_ok-entry.ensures)
    (subst (λ (t : ℕ). EntryPut t old.content new.content c.args.slot c.counted-counted.result c.put_slot.result) size c.put_slot.ensures.entered) c.put_slot.ensures.err

-- what breaks the directory off is never told as protection
pub returns-in_err-entry-clause-only : goal.returns-in_err-entry-clause-only
returns-in_err-entry-clause-only g c =
    let p = err_from_is_err_and c.from_residual.result c.from_residual.ensures.1 in
    only_nothing c.from_residual.result (g.M.Medium.seen c.args.medium.now) (g.M.Medium.seen c.args.medium.now) (λ i. g.M.Medium.seen c.args.medium.now)
    (rw (p.1, p.2) (λ is. absurd (directory_never_26 c.args.geometry (g.M.Medium.seen c.args.medium.now).content c.in_err-entry.field-0.0 (λ q. g.met.M.Medium.codes c.args.medium.now q) c.in_err-entry.ensures.1 is)))
    (rw (p.1, p.2) (directory_shown c.args.geometry (g.M.Medium.seen c.args.medium.now) c.in_err-entry.field-0.0 c.in_err-entry.ensures.1))
