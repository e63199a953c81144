use Rattle.std.proofs.Common.{rules, subst, sym, ap, ◌∙◌, inl, inr}
use Rattle.cbm_channel.proofs.Cleared.{was_done}
use Rattle.std.specs.Prelude.{Ok}
use Rattle.cbm_command.specs.declared.command.Command.TheVariants.{New, Validate}
use Rattle.cbm_machine.specs.Machines.{answered}
use Rattle.cbm_machine.specs.Running.{run, rename, scratch, copy}
use Rattle.cbm_command.specs.declared.command.Command.{Command}
use Rattle.cbm_channel.specs.ChannelCalls.{KeepsRest}
use Rattle.cbm_channel.specs.Commanded.{formats, cleared_by}
use Rattle.cbm_channel.specs.Going.{KeepsMedium}
use Rattle.cbm_channel.proofs.Goings.{part_same, keeps_free, keeps_same}
use Rattle.cbm_channel.proofs.Named.{new_name_cut, copy_name_cut, place_some}
use Rattle.cbm_channel.proofs.Rest.{rest_itself, rest_none}
use Rattle.cbm_channel.proofs.GroundedReports.{told_grounded}
use Rattle.cbm_channel.proofs.dos.Dos.run.Goals as goal

pub returns-in-New-clause-goes : goal.returns-in-New-clause-goes
returns-in-New-clause-goes g c = λ of m s.
    let next = c.format.ensures.goes m s in
    (next.0, part_same _ 15 (λ n. answered n (run (New c.in-New.title c.in-New.id) n)) (λ n. answered n (run c.args.command.now n)) m next.0 (ap (λ x. answered m (run x m)) c.in-New.is) next.1, next.2)

pub returns-in-Scratch-clause-goes : goal.returns-in-Scratch-clause-goes
returns-in-Scratch-clause-goes g c = λ of m s.
    let next = c.scratch.ensures.goes m s in
    (next.0, part_same _ 15 (λ n. answered n (scratch c.in-Scratch.patterns n)) (λ n. answered n (run c.args.command.now n)) m next.0 (ap (λ x. answered m (run x m)) c.in-Scratch.is) next.1, next.2)

pub returns-in-Rename-clause-goes : goal.returns-in-Rename-clause-goes
returns-in-Rename-clause-goes g c = λ of m s.
    let next = c.rename.ensures.goes (new_name_cut of.0 c.in-Rename.new c.in-Rename.old (of.1 ∙ ap (λ x. Ok x) c.in-Rename.is)) m s in
    (next.0, part_same _ 15 (λ n. answered n (rename c.in-Rename.new c.in-Rename.old n)) (λ n. answered n (run c.args.command.now n)) m next.0 (ap (λ x. answered m (run x m)) c.in-Rename.is) next.1, next.2)

pub returns-in-Copy-clause-goes : goal.returns-in-Copy-clause-goes
returns-in-Copy-clause-goes g c = λ of m s.
    let next = c.copy.ensures.goes (copy_name_cut of.0 c.in-Copy.new c.in-Copy.olds (of.1 ∙ ap (λ x. Ok x) c.in-Copy.is)) m s in
    (next.0, part_same _ 15 (λ n. answered n (copy c.in-Copy.new c.in-Copy.olds n)) (λ n. answered n (run c.args.command.now n)) m next.0 (ap (λ x. answered m (run x m)) c.in-Copy.is) next.1, next.2)

pub returns-in-Validate-clause-goes : goal.returns-in-Validate-clause-goes
returns-in-Validate-clause-goes g c = λ of m s.
    let next = c.validate.ensures.goes m s in
    (next.0, part_same _ 15 (λ n. answered n (run Validate n)) (λ n. answered n (run c.args.command.now n)) m next.0 (ap (λ x. answered m (run x m)) c.in-Validate.is) next.1, next.2)

-- nothing is read anew, as the disk is always what it is
pub returns-in-Initialize-clause-goes : goal.returns-in-Initialize-clause-goes
returns-in-Initialize-clause-goes g c = λ of m s. (_, inl (sym (ap (λ x. answered m (run x m)) c.in-Initialize.is)), c.say.ensures.leads m s)

pub returns-in-Position-clause-goes : goal.returns-in-Position-clause-goes
returns-in-Position-clause-goes g c = λ of m s.
    let some = place_some of.0 _ _ _ (of.1 ∙ ap (λ x. Ok x) c.in-Position.is) in
    (_, inl (sym (ap (λ x. answered m (run x m)) c.in-Position.is)), c.place.ensures.leads some.0 some.1 m s)

-- ---- what it leaves, on any disk

pub returns-in-New-clause-leaves : goal.returns-in-New-clause-leaves
returns-in-New-clause-leaves g c = record {
  channels = (search rules);
  others = (search rules);
  ordered = (search rules);
  medium = subst (λ (x : Command). KeepsMedium (formats x) (g.M.Medium.seen c.args.self.now.medium) (g.M.Medium.seen c.format.new.self.medium)) (sym c.in-New.is) c.format.ensures.leaves.medium;
  rest = λ other. let z = sym (ap formats c.in-New.is) ∙ other in absurd (cc);
  counted = (search rules);
  grounded = (search rules);
}

pub returns-in-Scratch-clause-leaves : goal.returns-in-Scratch-clause-leaves
returns-in-Scratch-clause-leaves g c = record {
  channels = (search rules);
  others = (search rules);
  ordered = (search rules);
  medium = keeps_free _ _ c.scratch.ensures.leaves.medium;
  rest = λ other m s. subst (λ (x : Command). KeepsRest (g.M.Medium.seen c.args.self.now.medium) (g.M.Medium.seen c.scratch.new.self.medium) (cleared_by x m)) (sym c.in-Scratch.is) (c.scratch.ensures.rest m s);
  counted = (search rules);
  grounded = (search rules);
}

pub returns-in-Rename-clause-leaves : goal.returns-in-Rename-clause-leaves
returns-in-Rename-clause-leaves g c = record {
  channels = (search rules);
  others = (search rules);
  ordered = (search rules);
  medium = keeps_free _ _ c.rename.ensures.leaves.medium;
  rest = λ other m s. rest_none _ _ (c.rename.ensures.rest m s);
  counted = (search rules);
  grounded = (search rules);
}

pub returns-in-Copy-clause-leaves : goal.returns-in-Copy-clause-leaves
returns-in-Copy-clause-leaves g c = record {
  channels = (search rules);
  others = (search rules);
  ordered = (search rules);
  medium = keeps_free _ _ c.copy.ensures.leaves.medium;
  rest = λ other m s. rest_none _ _ (c.copy.ensures.rest m s);
  counted = (search rules);
  grounded = (search rules);
}

pub returns-in-Validate-clause-leaves : goal.returns-in-Validate-clause-leaves
returns-in-Validate-clause-leaves g c = record {
  channels = (search rules);
  others = (search rules);
  ordered = (search rules);
  medium = keeps_free _ _ c.validate.ensures.leaves.medium;
  rest = λ other m s. rest_none _ _ (c.validate.ensures.rest m s);
  counted = (search rules);
  grounded = (search rules);
}

pub returns-in-Initialize-clause-leaves : goal.returns-in-Initialize-clause-leaves
returns-in-Initialize-clause-leaves g c = record {
  channels = (search rules);
  others = (search rules);
  ordered = (search rules);
  medium = keeps_same _ _ (ap g.M.Medium.seen c.say.ensures.medium);
  rest = λ other m s. rest_itself _ _ (ap g.M.Medium.seen c.say.ensures.medium);
  counted = (search rules);
  grounded = (search rules);
}

pub returns-in-Position-clause-leaves : goal.returns-in-Position-clause-leaves
returns-in-Position-clause-leaves g c = record {
  channels = (search rules);
  others = (search rules);
  ordered = (search rules);
  medium = keeps_same _ _ (ap g.M.Medium.seen c.place.ensures.tells.1);
  rest = λ other m s. rest_itself _ _ (ap g.M.Medium.seen c.place.ensures.tells.1);
  counted = (search rules);
  grounded = inr (told_grounded g.M.Medium.seen c.args.self.now c.place.new.self c.place.ensures.tells.0);
}

-- ---- what is reported as done, on any disk

pub returns-in-New-clause-done : goal.returns-in-New-clause-done
returns-in-New-clause-done g c = was_done c.args.command.now _ c.in-New.is c.args.self.now.channels (g.M.Medium.seen c.args.self.now.medium) (g.M.Medium.seen c.format.new.self.medium) c.format.new.self.told.status c.format.ensures.done

pub returns-in-Scratch-clause-done : goal.returns-in-Scratch-clause-done
returns-in-Scratch-clause-done g c = was_done c.args.command.now _ c.in-Scratch.is c.args.self.now.channels (g.M.Medium.seen c.args.self.now.medium) (g.M.Medium.seen c.scratch.new.self.medium) c.scratch.new.self.told.status (c.scratch.ensures.not_ok, c.scratch.ensures.done)

pub returns-in-Rename-clause-done : goal.returns-in-Rename-clause-done
returns-in-Rename-clause-done g c = was_done c.args.command.now _ c.in-Rename.is c.args.self.now.channels (g.M.Medium.seen c.args.self.now.medium) (g.M.Medium.seen c.rename.new.self.medium) c.rename.new.self.told.status c.rename.ensures.done

pub returns-in-Copy-clause-done : goal.returns-in-Copy-clause-done
returns-in-Copy-clause-done g c = was_done c.args.command.now _ c.in-Copy.is c.args.self.now.channels (g.M.Medium.seen c.args.self.now.medium) (g.M.Medium.seen c.copy.new.self.medium) c.copy.new.self.told.status c.copy.ensures.done

pub returns-in-Validate-clause-done : goal.returns-in-Validate-clause-done
returns-in-Validate-clause-done g c = was_done c.args.command.now _ c.in-Validate.is c.args.self.now.channels (g.M.Medium.seen c.args.self.now.medium) (g.M.Medium.seen c.validate.new.self.medium) c.validate.new.self.told.status tt

pub returns-in-Initialize-clause-done : goal.returns-in-Initialize-clause-done
returns-in-Initialize-clause-done g c = was_done c.args.command.now _ c.in-Initialize.is c.args.self.now.channels (g.M.Medium.seen c.args.self.now.medium) (g.M.Medium.seen c.say.new.self.medium) c.say.new.self.told.status tt

pub returns-in-Position-clause-done : goal.returns-in-Position-clause-done
returns-in-Position-clause-done g c = was_done c.args.command.now _ c.in-Position.is c.args.self.now.channels (g.M.Medium.seen c.args.self.now.medium) (g.M.Medium.seen c.place.new.self.medium) c.place.new.self.told.status tt
