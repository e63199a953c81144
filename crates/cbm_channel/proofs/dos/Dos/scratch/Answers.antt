use Rattle.std.proofs.Common.{ℕ, List, length, subst, sym, ap, ◌∙◌, inl, rules}
use Rattle.cbm_channel.specs.Meant.{ScratchesEach}
use Rattle.cbm_machine.specs.declared.code.Code.TheVariants.{Fine, FilesScratched}
use Rattle.cbm_channel.proofs.Refused.{other_never}
use Rattle.cbm_machine.specs.Machines.{answered, with_status}
use Rattle.cbm_channel.specs.ChannelCalls.{KeepsRest}
use Rattle.cbm_channel.specs.Commanded.{is_slot_among, AreSlotsGoing}
use Rattle.cbm_channel.proofs.Rest.{rest_itself}
use Rattle.cbm_channel.proofs.GroundedReports.{refusal_grounded}
use Rattle.cbm_channel.proofs.dos.Dos.scratch.Goals as goal

pub returns-in-Err-clause-goes : goal.returns-in-Err-clause-goes
returns-in-Err-clause-goes g c = λ m s.
    let x = c.in-Err.ensures.refused m s in
    (with_status c.in-Err.status m, inl (sym (ap (answered m) x.0 ∙ ap (λ t. with_status t m) (sym x.1))), c.set.ensures.leads m s)

-- ---- the rest of the disk

pub returns-in-Ok-clause-rest : goal.returns-in-Ok-clause-rest
returns-in-Ok-clause-rest g c = λ m s.
    let going = subst (λ (ns : List ℕ). AreSlotsGoing m c.args.patterns.now ns) (sym c.as_slice.ensures.value) (c.in-Ok.ensures.planned m s) in
    subst (λ (ns : List ℕ). KeepsRest (g.M.Medium.seen c.args.self.now.medium) (g.M.Medium.seen c.scratch_slots.new.self.medium) (is_slot_among ns)) going.all (c.scratch_slots.ensures.rest m c.args.patterns.now going s)

pub returns-in-Err-clause-rest : goal.returns-in-Err-clause-rest
returns-in-Err-clause-rest g c = λ m s. rest_itself _ _ (ap g.M.Medium.seen c.set.ensures.medium)

pub returns-in-Err-clause-leaves : goal.returns-in-Err-clause-leaves
returns-in-Err-clause-leaves g c = record {
  channels = (search rules);
  spared = (search rules);
  medium = (search rules);
  counted = (search rules);
  grounded = refusal_grounded g.M.Medium.seen c.args.self.now c.set.new.self c.in-Err.status c.in-Err.ensures.ground (ap (λ x. x.status) c.set.ensures.told);
}

-- ---- on any disk

pub returns-in-Ok-clause-done : goal.returns-in-Ok-clause-done
returns-in-Ok-clause-done g c = λ is.
    let slots = c.as_slice.ensures.value ∙ c.in-Ok.ensures.going in (
      subst (ScratchesEach (g.M.Medium.seen c.args.self.now.medium) (g.M.Medium.seen c.scratch_slots.new.self.medium)) slots (c.scratch_slots.ensures.done is),
      c.scratch_slots.ensures.number is ∙ ap length slots,
    )

pub returns-in-Err-clause-done : goal.returns-in-Err-clause-done
returns-in-Err-clause-done g c = other_never c.in-Err.status c.set.new.self.told FilesScratched c.in-Err.ensures.denied c.set.ensures.told

pub returns-in-Err-clause-not_ok : goal.returns-in-Err-clause-not_ok
returns-in-Err-clause-not_ok g c = other_never c.in-Err.status c.set.new.self.told Fine c.in-Err.ensures.not_ok c.set.ensures.told
