use Rattle.std.proofs.Common.{subst, ap, Err, ◌∙◌}
use Rattle.std.proofs.lemmas.Result.{err_from_is_err_and}
use Rattle.cbm_directory.specs.EntryChanges.{ClearsLed}
use Rattle.cbm_shell.specs.Forgetting.{IsOutOfReach}
use Rattle.cbm_shell.proofs.ForgetLemmas.{out_of_reach}
use Rattle.cbm_shell.proofs.broken.forgetting.cleared.Goals as goal

pub returns-clause-cleared : goal.returns-clause-cleared
returns-clause-cleared g c =
    let seen = g.M.Medium.seen in
    let new = (seen c.clear_slot.new.medium).content in
    subst (λ k. ClearsLed k (seen c.args.volume).content new c.args.slot) c.geometry-geometry.ensures.value
    (subst (λ m. ClearsLed c.geometry-geometry.result (seen m).content new c.args.slot) c.into_medium-medium.ensures c.in_ok-clear_slot.ensures.exact)

pub returns-in_err-clear_slot-clause-cause : goal.returns-in_err-clear_slot-clause-cause
returns-in_err-clear_slot-clause-cause g c =
    let seen = g.M.Medium.seen in
    let t = c.in_err-clear_slot.field-0.0 in
    let p = err_from_is_err_and c.from_residual.result c.from_residual.ensures.1 in
    let found = out_of_reach c.geometry-geometry.result c.args.slot (seen c.into_medium-medium.result) (seen c.clear_slot.new.medium) t
    (ap (λ k. (seen k).protected) c.into_medium-medium.ensures ∙ c.requires) (g.met.M.Steady.steady c.into_medium-medium.result) (g.met.M.Steady.steady c.clear_slot.new.medium) c.in_err-clear_slot.ensures.refused in
    rw (p.1 ∙ ap Err p.2) (subst (λ k. IsOutOfReach k (seen c.args.volume).content c.args.slot t) c.geometry-geometry.ensures.value
    (subst (λ m. IsOutOfReach c.geometry-geometry.result (seen m).content c.args.slot t) c.into_medium-medium.ensures found))
