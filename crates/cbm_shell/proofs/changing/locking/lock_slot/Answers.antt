use Rattle.std.proofs.Common.{subst, Ok}
use Rattle.cbm_directory.specs.Slots.{Answers, directory_of}
use Rattle.cbm_shell.proofs.EditLemmas.{whole_directory, put_never}
use Rattle.cbm_shell.proofs.LockLemmas.{few_slots}
use Rattle.cbm_shell.proofs.changing.locking.lock_slot.Goals as goal

pub returns-in_err-entry-clause-never : goal.returns-in_err-entry-clause-never
returns-in_err-entry-clause-never g c = λ can. absurd (whole_directory c.args.geometry (g.M.Medium.seen c.args.medium.now).content can.layout _ can.sound c.in_err-entry.ensures.1)

pub returns-in_err-put_slot-clause-never : goal.returns-in_err-put_slot-clause-never
returns-in_err-put_slot-clause-never g c = λ can.
    let old = g.M.Medium.seen c.args.medium.now in
    absurd (put_never c.args.geometry c.args.number old (g.M.Medium.seen c.put_slot.new.medium) c.in-Some.entry c.in_err-put_slot.field-0.0 can
    (subst (λ o. Answers (directory_of c.args.geometry old.content) c.args.number (Ok o)) c.in-Some.is c.in_ok-entry.ensures)
    (g.met.M.Steady.steady c.args.medium.now) (g.met.M.Steady.steady c.put_slot.new.medium) c.in_err-put_slot.ensures.cause)

pub returns-in_ok-put_slot-clause-few : goal.returns-in_ok-put_slot-clause-few
returns-in_ok-put_slot-clause-few g c = λ e.
    let content = (g.M.Medium.seen c.args.medium.now).content in
    few_slots c.args.geometry content c.args.number c.in-Some.entry (subst (λ o. Answers (directory_of c.args.geometry content) c.args.number (Ok o)) c.in-Some.is c.in_ok-entry.ensures)

pub returns-else-is_unlike-clause-few : goal.returns-else-is_unlike-clause-few
returns-else-is_unlike-clause-few g c = λ e.
    let content = (g.M.Medium.seen c.args.medium.now).content in
    few_slots c.args.geometry content c.args.number c.in-Some.entry (subst (λ o. Answers (directory_of c.args.geometry content) c.args.number (Ok o)) c.in-Some.is c.in_ok-entry.ensures)
