use Rattle.std.proofs.Common.{◌∙◌, Err, ap, sym, subst}
use Rattle.std.proofs.lemmas.Result.{err_from_is_err_and}
use Rattle.cbm_volume.specs.Holding.{HoldsDisk}
use Rattle.cbm_machine.specs.Machines.{start}
use Rattle.cbm_channel.proofs.Stands.{means_of}
use Rattle.yellowadze1541.specs.Putting.{after_files}
use Rattle.yellowadze1541.proofs.putting.put_on.Goals as goal

pub returns-in_err-put_each-clause-put : goal.returns-in_err-put_each-clause-put
returns-in_err-put_each-clause-put g c = λ d h.
    let p = err_from_is_err_and c.from_residual.result c.from_residual.ensures.1 in
    rw (p.1 ∙ ap Err p.2) (c.in_err-put_each.ensures.put _ (c.new-dos.ensures.stands d h))

pub returns-clause-put : goal.returns-clause-put
returns-clause-put g c = λ d h.
    let seen = g.M.Medium.seen in
    let old = seen c.args.medium in
    let put = c.in_ok-put_each.ensures.put _ (c.new-dos.ensures.stands d h) in
    (put.0, put.1, subst (λ k. HoldsDisk (seen k).tracks (seen k).content (after_files c.args.files.now (start d old.protected old.tracks)).disk) (sym c.into_medium.ensures) (means_of _ _ _ _ _ _ _ put.2))
