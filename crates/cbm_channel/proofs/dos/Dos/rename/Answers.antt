use Rattle.std.proofs.Common.{sym, ap, ◌∙◌, inl, rules}
use Rattle.cbm_machine.specs.declared.code.Code.TheVariants.{Fine}
use Rattle.cbm_channel.proofs.Refused.{other_never}
use Rattle.cbm_machine.specs.Machines.{answered, with_status}
use Rattle.cbm_channel.proofs.Rest.{rest_itself}
use Rattle.cbm_channel.proofs.GroundedReports.{refusal_grounded}
use Rattle.cbm_channel.proofs.dos.Dos.rename.Goals as goal

pub returns-in-Err-clause-goes : goal.returns-in-Err-clause-goes
returns-in-Err-clause-goes g c = λ cut m s.
    let x = c.in-Err.ensures.planned m s in
    (with_status c.in-Err.status m, inl (sym (ap (answered m) x.1 ∙ ap (λ t. with_status t m) (sym x.2))), c.set.ensures.leads m s)

-- ---- the rest of the disk

pub returns-in-Ok-clause-rest : goal.returns-in-Ok-clause-rest
returns-in-Ok-clause-rest g c = λ m s. c.rename_slot.ensures.rest m c.args.old.now (c.in-Ok.ensures.planned m s) s

pub returns-in-Err-clause-rest : goal.returns-in-Err-clause-rest
returns-in-Err-clause-rest g c = λ m s. rest_itself _ _ (ap g.M.Medium.seen c.set.ensures.medium)

pub returns-in-Err-clause-leaves : goal.returns-in-Err-clause-leaves
returns-in-Err-clause-leaves g c = record {
  channels = (search rules);
  spared = (search rules);
  medium = (search rules);
  counted = (search rules);
  grounded = refusal_grounded g.M.Medium.seen c.args.self.now c.set.new.self c.in-Err.status c.in-Err.ensures.ground (ap (λ x. x.status) c.set.ensures.told);
}

-- ---- on any disk

pub returns-in-Ok-clause-done : goal.returns-in-Ok-clause-done
returns-in-Ok-clause-done g c = λ fine. (c.in-Ok.slot, c.in-Ok.ensures.meant, c.rename_slot.ensures.done fine)

pub returns-in-Err-clause-done : goal.returns-in-Err-clause-done
returns-in-Err-clause-done g c = other_never c.in-Err.status c.set.new.self.told Fine c.in-Err.ensures.denied c.set.ensures.told
