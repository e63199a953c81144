use Rattle.std.proofs.Common.{rules, ◌≤◌, length, subst, sym, ap, ◌∙◌, inl, refl}
use Rattle.cbm_machine.specs.Calls.{without_return}
use Rattle.cbm_channel.proofs.Cleared.{read_done, nothing_done}
use Rattle.cbm_machine.specs.Calls.{command_text, command}
use Rattle.cbm_machine.specs.Machines.{answered, say}
use Rattle.cbm_machine.specs.Running.{run}
use Rattle.std.specs.Prelude.{◌==◌, Bool, Result, Ok, Err}
use Rattle.cbm_command.specs.declared.command.Command.{Command}
use Rattle.cbm_command.specs.declared.refusal.Refusal.{Refusal}
use Rattle.cbm_channel.specs.ChannelCalls.{KeepsRest}
use Rattle.cbm_channel.specs.Commanded.{read_clears}
use Rattle.cbm_command.specs.Commands.{command_of}
use Rattle.cbm_channel.specs.Going.{KeepsMedium}
use Rattle.cbm_channel.proofs.Goings.{part_same, keeps_same}
use Rattle.cbm_channel.proofs.Texts.{refused, asked_for, not_empty, formats_of}
use Rattle.cbm_channel.proofs.Rest.{rest_itself}
use Rattle.cbm_channel.proofs.dos.Dos.command.Goals as goal

pub returns-in-Ok-clause-goes : goal.returns-in-Ok-clause-goes
returns-in-Ok-clause-goes g c = λ m s.
    let some : 1 ≤ length c.without_return-text.result.now = not_empty c.without_return-text.result.now (sym c.is_empty.ensures ∙ c.if-is_empty.false) in
    let is = sym c.parse_command.ensures ∙ c.in-Ok.is in
    let text = c.without_return-text.ensures in
    let next = c.run.ensures.goes (c.without_return-text.result.now, is) m s in
    (next.0, part_same _ 15 (λ n. answered n (run c.in-Ok.command n)) (command c.args.text.now) m next.0 (ap (λ w. command_text w m) (sym text) ∙ asked_for c.without_return-text.result.now c.in-Ok.command m some is) next.1, next.2)

pub returns-in-Err-clause-goes : goal.returns-in-Err-clause-goes
returns-in-Err-clause-goes g c = λ m s.
    let some : 1 ≤ length c.without_return-text.result.now = not_empty c.without_return-text.result.now (sym c.is_empty.ensures ∙ c.if-is_empty.false) in
    let is = sym c.parse_command.ensures ∙ c.in-Err.is in
    let text = c.without_return-text.ensures in (
      say c.from.result m,
      inl (sym (ap (λ w. command_text w m) (sym text) ∙ refused c.without_return-text.result.now c.in-Err.refusal m some is ∙ ap (λ k. say k m) (sym c.from.ensures))),
      c.say.ensures.leads m s,
    )

-- ---- what it leaves, on any disk

pub returns-then-is_empty-clause-leaves : goal.returns-then-is_empty-clause-leaves
returns-then-is_empty-clause-leaves g c = record {
  channels = (search rules);
  others = (search rules);
  ordered = (search rules);
  medium = keeps_same _ _ refl;
  rest = λ other m s. rest_itself _ _ refl;
  counted = (search rules);
  grounded = (search rules);
}

pub returns-in-Ok-clause-leaves : goal.returns-in-Ok-clause-leaves
returns-in-Ok-clause-leaves g c = record {
  channels = (search rules);
  others = (search rules);
  ordered = (search rules);
  medium = subst (λ (b : Bool). KeepsMedium b (g.M.Medium.seen c.args.self.now.medium) (g.M.Medium.seen c.run.new.self.medium)) (sym (ap formats_of (ap command_of (sym c.without_return-text.ensures) ∙ sym c.parse_command.ensures ∙ c.in-Ok.is))) c.run.ensures.leaves.medium;
  rest = λ other m s.
      let is = sym c.parse_command.ensures ∙ c.in-Ok.is in
      subst (λ (r : Result Command Refusal). KeepsRest (g.M.Medium.seen c.args.self.now.medium) (g.M.Medium.seen c.run.new.self.medium) (read_clears r m)) (sym (ap command_of (sym c.without_return-text.ensures) ∙ is))
      (c.run.ensures.leaves.rest (sym (ap formats_of (ap command_of (sym c.without_return-text.ensures) ∙ is)) ∙ other) m s);
  counted = (search rules);
  grounded = (search rules);
}

pub returns-in-Err-clause-leaves : goal.returns-in-Err-clause-leaves
returns-in-Err-clause-leaves g c = record {
  channels = (search rules);
  others = (search rules);
  ordered = (search rules);
  medium = keeps_same _ _ (ap g.M.Medium.seen c.say.ensures.medium);
  rest = λ other m s. rest_itself _ _ (ap g.M.Medium.seen c.say.ensures.medium);
  counted = (search rules);
  grounded = (search rules);
}

-- ---- what is reported as done, on any disk

pub returns-then-is_empty-clause-done : goal.returns-then-is_empty-clause-done
returns-then-is_empty-clause-done g c =
    nothing_done (without_return c.args.text.now) (ap (λ xs. length xs == 0) (sym c.without_return-text.ensures) ∙ sym c.is_empty.ensures ∙ c.if-is_empty.true) c.args.self.now.channels (g.M.Medium.seen c.args.self.now.medium) (g.M.Medium.seen c.args.self.now.medium) c.args.self.now.told.status

pub returns-in-Ok-clause-done : goal.returns-in-Ok-clause-done
returns-in-Ok-clause-done g c =
    read_done (without_return c.args.text.now) (Ok c.in-Ok.command) (ap command_of (sym c.without_return-text.ensures) ∙ sym c.parse_command.ensures ∙ c.in-Ok.is) c.args.self.now.channels (g.M.Medium.seen c.args.self.now.medium) (g.M.Medium.seen c.run.new.self.medium) c.run.new.self.told.status c.run.ensures.done

pub returns-in-Err-clause-done : goal.returns-in-Err-clause-done
returns-in-Err-clause-done g c =
    read_done (without_return c.args.text.now) (Err c.in-Err.refusal) (ap command_of (sym c.without_return-text.ensures) ∙ sym c.parse_command.ensures ∙ c.in-Err.is) c.args.self.now.channels (g.M.Medium.seen c.args.self.now.medium) (g.M.Medium.seen c.say.new.self.medium) c.say.new.self.told.status tt
