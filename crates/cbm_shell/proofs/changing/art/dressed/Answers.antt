use Rattle.std.proofs.Common.{ap, subst, ◌∙◌, Some, Ok, Err}
use Rattle.std.proofs.lemmas.Result.{err_from_is_err_and}
use Rattle.cbm_bam.specs.Map.{geometry_of}
use Rattle.cbm_directory.specs.Slots.{Answers, directory_of}
use Rattle.cbm_shell.proofs.EditLemmas.{put_at}
use Rattle.cbm_shell.proofs.SlotLemmas.{no_entry_at}
use Rattle.cbm_shell.proofs.changing.art.dressed.Goals as goal

pub returns-in_err-entry-clause-fault : goal.returns-in_err-entry-clause-fault
returns-in_err-entry-clause-fault g c = λ can.
    let p = err_from_is_err_and c.from_residual.result c.from_residual.ensures.1 in
    rw (p.1 ∙ ap Err p.2) (no_entry_at g.M.Medium.seen c.args.volume c.into_medium-medium.result c.geometry-geometry.result c.args.slot c.in_err-entry.field-0.0
    c.into_medium-medium.ensures c.geometry-geometry.ensures.value can c.in_err-entry.ensures.fault)

pub returns-in_err-put_slot-clause-fault : goal.returns-in_err-put_slot-clause-fault
returns-in_err-put_slot-clause-fault g c = λ can.
    let seen = g.M.Medium.seen in
    let old = seen c.args.volume in
    let entry = c.in_ok-entry.entry in
    let stands = subst (λ k. Answers (directory_of k old.content) c.args.slot (Ok (Some entry))) c.geometry-geometry.ensures.value
    (subst (λ m. Answers (directory_of c.geometry-geometry.result (seen m).content) c.args.slot (Ok (Some entry))) c.into_medium-medium.ensures c.in_ok-entry.ensures.stands) in
    absurd (put_at seen c.args.volume c.into_medium-medium.result c.put_slot.new.medium (geometry_of old.tracks old.content) c.geometry-geometry.result c.args.slot entry c.in_err-put_slot.field-0.0
    (λ m. g.met.M.Steady.steady m) c.into_medium-medium.ensures c.geometry-geometry.ensures.value can stands c.in_err-put_slot.ensures.cause)
