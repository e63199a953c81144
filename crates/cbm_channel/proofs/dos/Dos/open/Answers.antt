use Rattle.std.proofs.Common.{rules, ◌≡◌, sym, ap, subst, ◌∙◌, arith, refl, inl, inr, ℕ}
use Rattle.std.specs.Prelude.{◌==◌, ◌&&◌, Bool, true, false}
use Rattle.cbm_machine.specs.Codes.{code_number}
use Rattle.cbm_machine.specs.Calls.{command}
use Rattle.cbm_channel.specs.Grounds.{is_fault_number, HasGround}
use Rattle.std.proofs.lemmas.Bool.{eq-eqb}
use Rattle.cbm_machine.specs.Machines.{say}
use Rattle.cbm_machine.specs.Closing.{close_one}
use Rattle.cbm_machine.specs.Plans.{open_text}
use Rattle.cbm_channel.specs.Shown.{appended_by, finished_by}
use Rattle.cbm_channel.specs.Going.{GoesFrom, KeepsMedium}
use Rattle.cbm_channel.specs.Commanded.{text_formats}
use Rattle.cbm_channel.specs.Planned.{begun_by, text_writes}
use Rattle.cbm_channel.specs.Meant.{OpeningWasDone}
use Rattle.cbm_channel.proofs.Opened.{same_ok}
use Rattle.cbm_channel.proofs.Asked.{below_15}
use Rattle.cbm_channel.proofs.Stands.{moved}
use Rattle.cbm_channel.proofs.Planning.{opened_text, refused_text, writes_text, own_refusal}
use Rattle.cbm_channel.proofs.Goings.{part_same, one_part, close_then, close_begin, parts_other, parts_command, keeps_free, keeps_same, keeps_then}
use Rattle.cbm_channel.proofs.Rest.{rest_seen, rest_then, rest_more}
use Rattle.cbm_channel.proofs.Spared.{open_command_rest, open_free, never_both}
use Rattle.cbm_channel.proofs.dos.Dos.open.Goals as goal
use Rattle.cbm_channel.proofs.GroundedReports.{grounded_after}

-- a command
pub returns-then-channel-eq15-clause-goes : goal.returns-then-channel-eq15-clause-goes
returns-then-channel-eq15-clause-goes g c = λ m s.
    let fifteen : (c.args.channel == 15) ≡ true = eq-eqb c.args.channel 15 c.if-channel-eq15.true in
    let next = c.command.ensures.goes m s in
    subst (λ parts. GoesFrom g.M.Medium.seen c.args.self.now c.command.new.self parts m) (sym (parts_command c.args.channel c.args.text.now fifteen))
    (next.0, one_part (g.M.Medium.seen c.args.self.now.medium) (g.M.Medium.seen c.command.new.self.medium) 15 (command c.args.text.now) m next.0 c.command.ensures.leaves.medium.counted next.1, next.2)

-- CLOSE, and then OPEN
pub returns-in-Ok-clause-goes : goal.returns-in-Ok-clause-goes
returns-in-Ok-clause-goes g c = λ m s.
    let other = below_15 c.args.channel (omega (arith, c.requires, c.if-channel-eq15.false)) in
    let is = sym c.parse_open.ensures.value ∙ c.in-Ok.is in
    subst (λ parts. GoesFrom g.M.Medium.seen c.args.self.now c.begin.new.self parts m) (sym (parts_other c.args.channel c.args.text.now other))
    (close_begin g.M.Medium.seen c.args.self.now c.close_one.new.self c.begin.new.self c.args.channel (close_one c.args.channel) (open_text c.args.channel c.args.text.now) m c.close_one.ensures.leaves.medium c.begin.ensures.leaves.medium c.close_one.ensures.goes s
    (λ n stands.
    let next = c.begin.ensures.goes n (c.args.channel, c.args.text.now, is) c.close_one.ensures.closes.closed stands in
    (next.0, part_same _ c.args.channel (begun_by c.args.channel c.in-Ok.opening) (open_text c.args.channel c.args.text.now) n next.0 (opened_text c.args.channel c.args.text.now c.in-Ok.opening n is) next.1, next.2)))

pub returns-in-Err-clause-goes : goal.returns-in-Err-clause-goes
returns-in-Err-clause-goes g c = λ m s.
    let other = below_15 c.args.channel (omega (arith, c.requires, c.if-channel-eq15.false)) in
    let is = sym c.parse_open.ensures.value ∙ c.in-Err.is in
    subst (λ parts. GoesFrom g.M.Medium.seen c.args.self.now c.say.new.self parts m) (sym (parts_other c.args.channel c.args.text.now other))
    (close_then g.M.Medium.seen c.args.self.now c.close_one.new.self c.say.new.self c.args.channel (close_one c.args.channel) (open_text c.args.channel c.args.text.now) m c.close_one.ensures.leaves.medium (ap g.M.Medium.seen c.say.ensures.medium) c.close_one.ensures.goes s
    (λ n stands. moved _ _ _ _ _ _ _ _ (refused_text c.args.channel c.args.text.now c.in-Err.refusal n is ∙ ap (λ k. say k n) (sym c.from.ensures)) (c.say.ensures.leads n stands)))

-- ---- what isn't for writing

pub returns-in-Ok-clause-unwritten : goal.returns-in-Ok-clause-unwritten
returns-in-Ok-clause-unwritten g c = record {
  quiet = λ none reads.
      let other = below_15 c.args.channel (omega (arith, c.requires, c.if-channel-eq15.false)) in
      let is = sym c.parse_open.ensures.value ∙ c.in-Ok.is in
      let before = c.close_one.ensures.quiet none in
      let after = c.begin.ensures.quiet (writes_text c.args.channel c.args.text.now c.in-Ok.opening other is reads) in
      (inr (inl (subst (λ v. HasGround g.M.Medium.seen v c.begin.new.self.told.status) before.1 after.0)), after.1 ∙ before.1);
  spared = λ none is. c.begin.ensures.spared is ∙ ap (λ v. (g.M.Medium.seen v).content) (c.close_one.ensures.quiet none).1;
}

pub returns-in-Err-clause-unwritten : goal.returns-in-Err-clause-unwritten
returns-in-Err-clause-unwritten g c = record {
  quiet = λ none reads.
      let before = c.close_one.ensures.quiet none in
      (inr (inl (inl (ap (λ x. is_fault_number (code_number x.status.code)) c.say.ensures.told ∙ ap (λ x. is_fault_number (code_number x)) c.from.ensures ∙ own_refusal c.in-Err.refusal))), c.say.ensures.medium ∙ before.1);
  spared = λ none is. ap (λ v. (g.M.Medium.seen v).content) (c.say.ensures.medium ∙ (c.close_one.ensures.quiet none).1);
}

-- ---- what is refused

pub returns-then-channel-eq15-clause-unwritten : goal.returns-then-channel-eq15-clause-unwritten
returns-then-channel-eq15-clause-unwritten g c = record {
  quiet = λ none reads. c.command.ensures.quiet (subst (λ (ch : ℕ). text_writes ch c.args.text.now ≡ false) c.if-channel-eq15.true reads);
  spared = λ none. c.command.ensures.spared;
}

-- ---- what it makes of the medium, on any disk

pub returns-then-channel-eq15-clause-command : goal.returns-then-channel-eq15-clause-command
returns-then-channel-eq15-clause-command g c = λ is. record {
  channels = (search rules);
  places = (search rules);
  done = c.command.ensures.done;
  counted = c.command.ensures.leaves.counted;
  grounded = c.command.ensures.leaves.grounded;
}

pub returns-then-channel-eq15-clause-channel : goal.returns-then-channel-eq15-clause-channel
returns-then-channel-eq15-clause-channel g c = λ lt. absurd (omega (arith, lt, c.if-channel-eq15.true))

pub returns-in-Ok-clause-command : goal.returns-in-Ok-clause-command
returns-in-Ok-clause-command g c = λ is. absurd (c.if-channel-eq15.false is)

pub returns-in-Ok-clause-channel : goal.returns-in-Ok-clause-channel
returns-in-Ok-clause-channel g c = λ lt.
    let other = below_15 c.args.channel (omega (arith, c.requires, c.if-channel-eq15.false)) in
    let is = sym c.parse_open.ensures.value ∙ c.in-Ok.is in
    record {
      others = (search rules);
      refused = (search rules);
      closes = record {
        closed = c.close_one.new.self;
        is_closed = c.close_one.ensures.closes.closed;
        others = c.close_one.ensures.closes.others;
        close_counted = c.close_one.ensures.leaves.counted;
        finished = c.close_one.ensures.done;
        quiet = λ reads. c.begin.ensures.quiet (writes_text c.args.channel c.args.text.now c.in-Ok.opening other is reads);
        spared = c.begin.ensures.spared;
        counted = c.begin.ensures.leaves.counted;
        done = λ asked read. subst (λ o. OpeningWasDone g.M.Medium.seen c.args.channel o c.close_one.new.self c.begin.new.self) (same_ok c.in-Ok.opening asked _ is read) c.begin.ensures.done;
      };
      grounded = grounded_after g.M.Medium.seen c.args.self.now c.close_one.new.self c.begin.new.self c.close_one.ensures.leaves.medium c.begin.ensures.leaves.grounded;
    }

pub returns-in-Err-clause-command : goal.returns-in-Err-clause-command
returns-in-Err-clause-command g c = λ is. absurd (c.if-channel-eq15.false is)

pub returns-in-Err-clause-channel : goal.returns-in-Err-clause-channel
returns-in-Err-clause-channel g c = λ lt. record {
  others = (search rules);
  refused = (search rules);
  closes = record {
    closed = c.close_one.new.self;
    is_closed = c.close_one.ensures.closes.closed;
    others = c.close_one.ensures.closes.others;
    close_counted = c.close_one.ensures.leaves.counted;
    finished = c.close_one.ensures.done;
    quiet = λ reads. (inl (ap (λ x. is_fault_number (code_number x.status.code)) c.say.ensures.told ∙ ap (λ x. is_fault_number (code_number x)) c.from.ensures ∙ own_refusal c.in-Err.refusal), c.say.ensures.medium);
    spared = λ is. ap (λ v. (g.M.Medium.seen v).content) c.say.ensures.medium;
    counted = inl (ap (λ k. (g.M.Medium.seen k).failures) c.say.ensures.medium);
    done = λ asked read. let z = sym (sym c.parse_open.ensures.value ∙ c.in-Err.is) ∙ read in absurd (cc);
  };
  grounded = inl (ap (λ x. is_fault_number (code_number x.status.code)) c.say.ensures.told ∙ ap (λ x. is_fault_number (code_number x)) c.from.ensures ∙ own_refusal c.in-Err.refusal);
}

-- ---- what it leaves, on any disk

pub returns-then-channel-eq15-clause-leaves : goal.returns-then-channel-eq15-clause-leaves
returns-then-channel-eq15-clause-leaves g c = record {
  ordered = (search rules);
  medium =
      let fifteen : (c.args.channel == 15) ≡ true = eq-eqb c.args.channel 15 c.if-channel-eq15.true in
      subst (λ (b : Bool). KeepsMedium b (g.M.Medium.seen c.args.self.now.medium) (g.M.Medium.seen c.command.new.self.medium)) (sym (ap (λ b. b && text_formats c.args.text.now) fifteen)) c.command.ensures.leaves.medium;
  rest = λ other m s.
      let fifteen : (c.args.channel == 15) ≡ true = eq-eqb c.args.channel 15 c.if-channel-eq15.true in
      open_command_rest c.args.channel c.args.text.now c.args.self.now c.command.new.self m _ _ fifteen (c.command.ensures.leaves.rest (sym (ap (λ b. b && text_formats c.args.text.now) fifteen) ∙ other) m s);
}

pub returns-in-Ok-clause-leaves : goal.returns-in-Ok-clause-leaves
returns-in-Ok-clause-leaves g c = record {
  ordered = λ validates. absurd (never_both _ _ (below_15 c.args.channel (omega (arith, c.requires, c.if-channel-eq15.false))) validates);
  medium = keeps_free _ _ (keeps_then _ _ _ c.close_one.ensures.leaves.medium c.begin.ensures.leaves.medium);
  rest = λ other m s.
      let is = sym c.parse_open.ensures.value ∙ c.in-Ok.is in
      let x = c.close_one.ensures.goes m s in
      let none = below_15 c.args.channel (omega (arith, c.requires, c.if-channel-eq15.false)) in
      rest_then (finished_by c.args.channel c.args.self.now) (appended_by c.args.channel c.begin.new.self) (g.M.Medium.seen c.args.self.now.medium) (g.M.Medium.seen c.close_one.new.self.medium) (g.M.Medium.seen c.begin.new.self.medium) x.0.disk _ x.2.holds
      (λ n free. open_free c.args.channel c.args.text.now c.args.self.now c.begin.new.self m n none free) (c.close_one.ensures.leaves.rest m s) (c.begin.ensures.rest (c.args.channel, c.args.text.now, is) x.0 x.2);
}

pub returns-in-Err-clause-leaves : goal.returns-in-Err-clause-leaves
returns-in-Err-clause-leaves g c = record {
  ordered = λ validates. absurd (never_both _ _ (below_15 c.args.channel (omega (arith, c.requires, c.if-channel-eq15.false))) validates);
  medium = keeps_free _ _ (keeps_then _ _ _ c.close_one.ensures.leaves.medium (keeps_same _ _ (ap g.M.Medium.seen c.say.ensures.medium)));
  rest = λ other m s.
      let none = below_15 c.args.channel (omega (arith, c.requires, c.if-channel-eq15.false)) in
      rest_seen g.M.Medium.seen c.args.self.now.medium c.say.new.self.medium c.args.self.now.medium c.close_one.new.self.medium refl c.say.ensures.medium
      (rest_more (finished_by c.args.channel c.args.self.now) _ _ (λ n free. (open_free c.args.channel c.args.text.now c.args.self.now c.say.new.self m n none free).0) (c.close_one.ensures.leaves.rest m s));
}
