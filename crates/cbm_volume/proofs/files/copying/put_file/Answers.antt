use Rattle.std.proofs.Common.{length, ◌∙◌}
use Rattle.std.proofs.lemmas.Result.{err_from_is_err_and}
use Rattle.cbm_medium.proofs.Sequences.{only_nothing}
use Rattle.cbm_medium.specs.Place.{sector_count}
use Rattle.cbm_medium.specs.Seen.{Seen}
use Rattle.cbm_file.specs.Files.{file_at}
use Rattle.cbm_file.specs.Changes.{slot_bytes}
use Rattle.cbm_bam.specs.Map.{geometry_of}
use Rattle.cbm_chain.specs.Reading.{held_from}
use Rattle.cbm_directory.proofs.Codes.{directory_never_26, directory_shown}
use Rattle.cbm_volume.specs.Copies.{less}
use Rattle.cbm_volume.proofs.copied.CopySteps.{no_trouble, no_end, can_less, making_held, making_reads, held_length, held_whole}
use Rattle.cbm_volume.proofs.copied.Puts.{none_put}
use Rattle.cbm_volume.proofs.files.copying.put_file.Goals as goal

pub returns-in_err-entry-clause-put : goal.returns-in_err-entry-clause-put
returns-in_err-entry-clause-put g c = λ c' l d uses ch bytes k can room.
    let old : Seen = g.M.Medium.seen c.args.medium.now in
    absurd (no_trouble (geometry_of old.tracks c') c.geometry-geometry.result old.content k.reached.layout (less (length k.places) d) c.args.number c.in_err-entry.field-0.0 k.reached.so.stands (c.geometry-geometry.ensures.value ∙ k.reached.same) c.in_err-entry.ensures)

-- what breaks the directory off is never told as protection
pub returns-in_err-entry-clause-only : goal.returns-in_err-entry-clause-only
returns-in_err-entry-clause-only g c =
    let p = err_from_is_err_and c.from_residual.result c.from_residual.ensures.1 in
    only_nothing c.from_residual.result (g.M.Medium.seen c.args.medium.now) (g.M.Medium.seen c.args.medium.now) (λ i. g.M.Medium.seen c.args.medium.now)
    (rw (p.1, p.2) (λ is. absurd (directory_never_26 c.geometry-geometry.result (g.M.Medium.seen c.args.medium.now).content c.in_err-entry.field-0.0 (λ q. g.met.M.Medium.codes c.args.medium.now q) c.in_err-entry.ensures.1 is)))
    (rw (p.1, p.2) (directory_shown c.geometry-geometry.result (g.M.Medium.seen c.args.medium.now) c.in_err-entry.field-0.0 c.in_err-entry.ensures.1))

pub returns-in_default-clause-put : goal.returns-in_default-clause-put
returns-in_default-clause-put g c = λ c' l d uses ch bytes k can room.
    let old : Seen = g.M.Medium.seen c.args.medium.now in
    absurd (no_end (geometry_of old.tracks c') c.geometry-geometry.result old.content k.reached.layout (less (length k.places) d) c.args.number c.in_ok-entry.field-0 k.reached.so.stands (c.geometry-geometry.ensures.value ∙ k.reached.same)
    (can_less d (length k.places) c.args.number can) c.in_default.is c.in_ok-entry.ensures)

pub returns-in_err-count-clause-put : goal.returns-in_err-count-clause-put
returns-in_err-count-clause-put g c = λ c' l d uses ch bytes k can room.
    let old : Seen = g.M.Medium.seen c.args.medium.now in
    let geometry = c.geometry-geometry.result in
    absurd (held_whole c.in_err-count.field-0.0 (held_from geometry old.content (sector_count geometry) c.first_block.result) (slot_bytes (file_at d c.args.number)) c.in_err-count.ensures.walk.cut
    (making_held old.tracks geometry c' l d uses ch old.content c.args.chain.now bytes _ c.args.number c.in_ok-entry.field-0 c.in-Some.entry c.first_block.result k c.geometry-geometry.ensures.value can c.in-Some.is c.in_ok-entry.ensures c.first_block.ensures))

pub returns-clause-put : goal.returns-clause-put
returns-clause-put g c = λ c' l d uses ch bytes k can room.
    let old : Seen = g.M.Medium.seen c.args.medium.now in
    let geometry = c.geometry-geometry.result in
    let held = making_held old.tracks geometry c' l d uses ch old.content c.args.chain.now bytes _ c.args.number c.in_ok-entry.field-0 c.in-Some.entry c.first_block.result k c.geometry-geometry.ensures.value can c.in-Some.is c.in_ok-entry.ensures c.first_block.ensures in
    c.put_read.ensures.put c' l d uses ch c.args.number bytes (slot_bytes (file_at d c.args.number))
    (making_reads old.tracks geometry c' l d uses ch old.content c.args.chain.now bytes _ c.args.number c.in_ok-entry.field-0 c.in-Some.entry c.first_block-2.result c.in_ok-reader.reader k c.geometry-geometry.ensures.value can c.in-Some.is c.in_ok-entry.ensures c.first_block-2.ensures
    c.in_ok-reader.ensures.tracks c.in_ok-reader.ensures.begins c.in_ok-reader.ensures.ok)
    c.in_ok-reader.ensures.settled (held_length c.in_ok-count.count (held_from geometry old.content (sector_count geometry) c.first_block.result) (slot_bytes (file_at d c.args.number)) c.in_ok-count.ensures.counted held) room

-- ---- on any disk

pub returns-in_default-clause-led : goal.returns-in_default-clause-led
returns-in_default-clause-led g c = none_put (g.M.Medium.seen c.args.medium.now).content c.args.chain.now
