use Rattle.std.proofs.lemmas.Result.{err_from_is_err_and}
use Rattle.cbm_medium.specs.Place.{sector_count}
use Rattle.cbm_medium.specs.Seen.{Seen}
use Rattle.cbm_file.specs.Files.{file_at}
use Rattle.cbm_file.specs.Changes.{slot_bytes}
use Rattle.cbm_bam.specs.Map.{geometry_of}
use Rattle.cbm_chain.specs.Reading.{held_from}
use Rattle.cbm_directory.proofs.Codes.{directory_never_26, directory_shown}
use Rattle.cbm_volume.proofs.layouts.Listing.{geometry_size}
use Rattle.cbm_volume.proofs.copied.CopySteps.{no_trouble, no_end, source_held, counted_ok}
use Rattle.cbm_volume.proofs.files.copying.bytes_of.Goals as goal

pub returns-in_err-entry-clause-count : goal.returns-in_err-entry-clause-count
returns-in_err-entry-clause-count g c = λ d uses h can.
    let now : Seen = g.M.Medium.seen c.args.medium.now in
    absurd (no_trouble (geometry_of now.tracks now.content) c.geometry-geometry.result now.content h.layout d c.args.number c.in_err-entry.field-0.0 h.so.stands c.geometry-geometry.ensures.value c.in_err-entry.ensures)

-- what breaks the directory off is never told as protection
pub returns-in_err-entry-clause-never_26 : goal.returns-in_err-entry-clause-never_26
returns-in_err-entry-clause-never_26 g c =
    let p = err_from_is_err_and c.from_residual.result c.from_residual.ensures.1 in
    rw (p.1, p.2) (λ is. directory_never_26 c.geometry-geometry.result (g.M.Medium.seen c.args.medium.now).content c.in_err-entry.field-0.0 (λ q. g.met.M.Medium.codes c.args.medium.now q) c.in_err-entry.ensures.1 is)

pub returns-in_err-entry-clause-shown : goal.returns-in_err-entry-clause-shown
returns-in_err-entry-clause-shown g c =
    let p = err_from_is_err_and c.from_residual.result c.from_residual.ensures.1 in
    rw (p.1, p.2) (directory_shown c.geometry-geometry.result (g.M.Medium.seen c.args.medium.now) c.in_err-entry.field-0.0 c.in_err-entry.ensures.1)

pub returns-in_default-clause-count : goal.returns-in_default-clause-count
returns-in_default-clause-count g c = λ d uses h can.
    let now : Seen = g.M.Medium.seen c.args.medium.now in
    absurd (no_end (geometry_of now.tracks now.content) c.geometry-geometry.result now.content h.layout d c.args.number c.in_ok-entry.field-0 h.so.stands c.geometry-geometry.ensures.value can c.in_default.is c.in_ok-entry.ensures)

pub returns-clause-count : goal.returns-clause-count
returns-clause-count g c = λ d uses h can.
    let now : Seen = g.M.Medium.seen c.args.medium.now in
    let geometry = c.geometry-geometry.result in
    counted_ok c.byte_count.result (held_from geometry now.content (sector_count geometry) c.first_block.result) (slot_bytes (file_at d c.args.number)) c.byte_count.ensures.counted c.byte_count.ensures.walk.cut
    (source_held (geometry_of now.tracks now.content) geometry now.content h.layout d c.args.number c.in_ok-entry.field-0 c.in-Some.entry c.first_block.result (geometry_size now.tracks now.content) h.so.stands c.geometry-geometry.ensures.value can c.in-Some.is c.in_ok-entry.ensures c.first_block.ensures)
