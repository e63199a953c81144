use Rattle.std.proofs.Common.{ap, ◌∙◌, inl, inr, Err}
use Rattle.std.proofs.lemmas.Result.{err_from_is_err_and}
use Rattle.cbm_shell.proofs.SlotLemmas.{not_there, entry_there, entered_directory, put_in_directory}
use Rattle.cbm_shell.proofs.changing.swapping.swap_two.Goals as goal

pub returns-in_err-first-clause-fault : goal.returns-in_err-first-clause-fault
returns-in_err-first-clause-fault g c = λ sectors h free.
    let p = err_from_is_err_and c.from_residual.result c.from_residual.ensures.1 in
    let none = not_there c.args.geometry (g.M.Medium.seen c.args.medium.now).content sectors c.args.swap.first c.in_err-first.field-0.0 h c.in_err-first.ensures.fault in
    rw (p.1 ∙ ap Err p.2) (none.0, inl none.1)

pub returns-in_err-second-clause-fault : goal.returns-in_err-second-clause-fault
returns-in_err-second-clause-fault g c = λ sectors h free.
    let p = err_from_is_err_and c.from_residual-in_err-second.result c.from_residual-in_err-second.ensures.1 in
    let none = not_there c.args.geometry (g.M.Medium.seen c.args.medium.now).content sectors c.args.swap.second c.in_err-second.field-0.0 h c.in_err-second.ensures.fault in
    rw (p.1 ∙ ap Err p.2) (none.0, inr none.1)

pub returns-in_err-put_slot-clause-fault : goal.returns-in_err-put_slot-clause-fault
returns-in_err-put_slot-clause-fault g c = λ sectors h free.
    let seen = g.M.Medium.seen in
    let content = (seen c.args.medium.now).content in
    let room = entry_there c.args.geometry content sectors c.args.swap.first c.in_ok-first.first h c.in_ok-first.ensures.stands in
    absurd (put_in_directory c.args.geometry c.args.swap.first (seen c.args.medium.now) (seen c.put_slot.new.medium) sectors c.in_err-put_slot.field-0.0 h free room
    (g.met.M.Steady.steady c.args.medium.now) (g.met.M.Steady.steady c.put_slot.new.medium) c.in_err-put_slot.ensures.cause)

pub returns-in_err-put_slot-2-clause-fault : goal.returns-in_err-put_slot-2-clause-fault
returns-in_err-put_slot-2-clause-fault g c = λ sectors h free.
    let seen = g.M.Medium.seen in
    let content = (seen c.args.medium.now).content in
    let between = seen c.put_slot.new.medium in
    let room = entry_there c.args.geometry content sectors c.args.swap.first c.in_ok-first.first h c.in_ok-first.ensures.stands in
    let room2 = entry_there c.args.geometry content sectors c.args.swap.second c.in_ok-second.second h c.in_ok-second.ensures.stands in
    let h2 = entered_directory c.args.geometry content between.content sectors c.args.swap.first c.in_ok-second.second h (c.in_ok-put_slot.ensures.entered sectors h.chain room) in
    absurd (put_in_directory c.args.geometry c.args.swap.second between (seen c.put_slot-2.new.medium) sectors c.in_err-put_slot-2.field-0.0 h2 (c.put_slot.ensures.only.protected ∙ free) room2
    (g.met.M.Steady.steady c.put_slot.new.medium) (g.met.M.Steady.steady c.put_slot-2.new.medium) c.in_err-put_slot-2.ensures.cause)

pub returns-clause-directory : goal.returns-clause-directory
returns-clause-directory g c = λ sectors h.
    let seen = g.M.Medium.seen in
    let content = (seen c.args.medium.now).content in
    let between = seen c.put_slot.new.medium in
    let room = entry_there c.args.geometry content sectors c.args.swap.first c.in_ok-first.first h c.in_ok-first.ensures.stands in
    let room2 = entry_there c.args.geometry content sectors c.args.swap.second c.in_ok-second.second h c.in_ok-second.ensures.stands in
    let h2 = entered_directory c.args.geometry content between.content sectors c.args.swap.first c.in_ok-second.second h (c.in_ok-put_slot.ensures.entered sectors h.chain room) in
    entered_directory c.args.geometry between.content (seen c.put_slot-2.new.medium).content sectors c.args.swap.second c.in_ok-first.first h2 (c.in_ok-put_slot-2.ensures.entered sectors h2.chain room2)
