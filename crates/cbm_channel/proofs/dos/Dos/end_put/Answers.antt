use Rattle.std.proofs.Common.{rules, ◌≡◌, ◌≢◌, ◌≤◌, ℕ, List, length, take, sym, ap, subst, ◌∙◌, arith, inl, refl}
use Rattle.cbm_command.specs.Commands.{command_of}
use Rattle.cbm_machine.specs.Calls.{without_return}
use Rattle.cbm_channel.specs.Meant.{ReadWasDone}
use Rattle.cbm_channel.proofs.Cleared.{same_text}
use Rattle.std.specs.Prelude.{◌==◌, ◌&&◌, Bool, true, false, IfSome, MatchOption}
use Rattle.std.proofs.lemmas.Bool.{eq-eqb}
use Rattle.cbm_medium.specs.Seen.{HasFailed}
use Rattle.cbm_machine.specs.Calls.{end_put}
use Rattle.cbm_machine.specs.Closing.{without_text}
use Rattle.cbm_machine.specs.Calls.{text_for, command}
use Rattle.cbm_channel.specs.Commanded.{text_clears, commands_change, ends_command, text_formats, end_formats, text_validates, end_validates, end_moves}
use Rattle.cbm_channel.specs.ChannelCalls.{KeepsRest}
use Rattle.cbm_channel.specs.Going.{KeepsMedium, Passes}
use Rattle.cbm_channel.proofs.Asked.{below_15, store_command, store_records}
use Rattle.cbm_channel.proofs.Goings.{record_ends, text_passes, keeps_free, keeps_same}
use Rattle.cbm_channel.proofs.Texts.{some_kept, command_kept}
use Rattle.cbm_channel.proofs.Ordered.{OrdersFor, ended_15, not_ended}
use Rattle.cbm_channel.proofs.Troubles.{told_for}
use Rattle.cbm_channel.proofs.Changed.{same_all}
use Rattle.cbm_channel.proofs.Counted.{counted_from}
use Rattle.cbm_channel.proofs.Rest.{rest_itself, rest_seen}
use Rattle.cbm_channel.proofs.Spared.{ended_rest, records_rest}
use Rattle.cbm_channel.proofs.dos.Dos.end_put.Goals as goal
use Rattle.cbm_channel.proofs.GroundedReports.{grounded_from}

-- a command
pub returns-then-channel-eq15-clause-goes : goal.returns-then-channel-eq15-clause-goes
returns-then-channel-eq15-clause-goes g c = λ m s.
    let has = c.in-Some.ensures.text m s in
    let whole : List ℕ = text_for c.args.channel m.text in
    let some : 1 ≤ length whole = some_kept whole (subst (λ x. 1 ≤ length x) has.kept has.some) in
    let bytes : take 256 whole ≡ c.bytes.result.now = sym has.kept ∙ sym c.bytes.ensures in
    let fifteen : (c.args.channel == 15) ≡ true = eq-eqb c.args.channel 15 c.if-channel-eq15.true in
    let number : (c.in-Some.text.0 == 15) ≡ true = eq-eqb c.in-Some.text.0 15 (c.in-Some.ensures.taken.1 ∙ c.if-channel-eq15.true) in
    let kept = sym c.bytes.ensures in
    let law : end_put c.args.channel m ≡ command c.bytes.result.now (without_text c.args.channel m) =
    store_command c.args.channel whole m some fifteen ∙ command_kept whole (without_text c.args.channel m) ∙ ap (λ x. command x (without_text c.args.channel m)) bytes in
    let next = c.command.ensures.goes (without_text c.args.channel m) (c.in-Some.ensures.leads m s) in
    let passes = text_passes _ 15 c.args.channel (command c.bytes.result.now) (end_put c.args.channel) m next.0 law next.1 in (
      next.0,
      inl (subst (λ ch. Passes (HasFailed (g.M.Medium.seen c.args.self.now.medium) (g.M.Medium.seen c.command.new.self.medium)) ch (end_put c.args.channel) m next.0) (sym c.if-channel-eq15.true)
          (subst (λ v. Passes (HasFailed (g.M.Medium.seen v) (g.M.Medium.seen c.command.new.self.medium)) 15 (end_put c.args.channel) m next.0) c.in-Some.ensures.only.medium passes)),
      next.2,
    )

-- one that changes nothing of the disk
pub returns-then-channel-eq15-clause-quiet : goal.returns-then-channel-eq15-clause-quiet
returns-then-channel-eq15-clause-quiet g c = λ quiet none_open.
    let fifteen : (c.args.channel == 15) ≡ true = eq-eqb c.args.channel 15 c.if-channel-eq15.true in
    let number : (c.in-Some.text.0 == 15) ≡ true = eq-eqb c.in-Some.text.0 15 (c.in-Some.ensures.taken.1 ∙ c.if-channel-eq15.true) in
    let none : commands_change c.in-Some.text.1 ≡ false =
    sym (λ i. fifteen i && (number i && commands_change c.in-Some.text.1)) ∙ sym (ap (ends_command c.args.channel) c.in-Some.ensures.taken.0) ∙ quiet in
    let said = c.command.ensures.quiet (ap commands_change c.bytes.ensures ∙ none) in
    (told_for g.M.Medium.seen c.args.self.now c.take_text.new.self c.command.new.self c.in-Some.ensures.only.medium c.in-Some.ensures.only.told said.0, said.1 ∙ c.in-Some.ensures.only.medium)

-- a text for records
pub returns-else-channel-eq15-clause-goes : goal.returns-else-channel-eq15-clause-goes
returns-else-channel-eq15-clause-goes g c = λ m s.
    let has = c.in-Some.ensures.text m s in
    let whole : List ℕ = text_for c.args.channel m.text in
    let some : 1 ≤ length whole = some_kept whole (subst (λ x. 1 ≤ length x) has.kept has.some) in
    let other = below_15 c.args.channel (omega (arith, c.requires, c.if-channel-eq15.false)) in
    let next = c.write_record.ensures.goes (without_text c.args.channel m) whole (c.in-Some.ensures.leads m s) (c.bytes-else-channel-eq15.ensures ∙ has.kept) in (
      next.0,
      record_ends _ _ c.args.channel m next.0 (λ f. subst (λ v. HasFailed (g.M.Medium.seen v) (g.M.Medium.seen c.write_record.new.self.medium)) c.in-Some.ensures.only.medium f) (store_records c.args.channel whole m some other) next.1,
      next.2,
    )

-- ---- what is refused

pub returns-then-channel-eq15-clause-spares : goal.returns-then-channel-eq15-clause-spares
returns-then-channel-eq15-clause-spares g c = record {
  spared = λ none_open is. c.command.ensures.spared is ∙ ap (λ v. (g.M.Medium.seen v).content) c.in-Some.ensures.only.medium;
  spared_records = (search rules);
}

-- ---- what V changes

pub returns-then-channel-eq15-clause-leaves : goal.returns-then-channel-eq15-clause-leaves
returns-then-channel-eq15-clause-leaves g c = record {
  channels = (search rules);
  others = (search rules);
  ordered = λ v.
      let fifteen : (c.args.channel == 15) ≡ true = eq-eqb c.args.channel 15 c.if-channel-eq15.true in
      let number : (c.in-Some.text.0 == 15) ≡ true = eq-eqb c.in-Some.text.0 15 (c.in-Some.ensures.taken.1 ∙ c.if-channel-eq15.true) in
      let is : text_validates c.in-Some.text.1 ≡ true =
      sym (λ i. fifteen i && (number i && text_validates c.in-Some.text.1)) ∙ sym (ap (end_validates c.args.channel) c.in-Some.ensures.taken.0) ∙ v in
      subst (λ k. OrdersFor g.M.Medium.seen k c.command.new.self.medium c.command.new.self.told) c.in-Some.ensures.only.medium (c.command.ensures.leaves.ordered (ap text_validates c.bytes.ensures ∙ is));
  medium =
      let fifteen : (c.args.channel == 15) ≡ true = eq-eqb c.args.channel 15 c.if-channel-eq15.true in
      let number : (c.in-Some.text.0 == 15) ≡ true = eq-eqb c.in-Some.text.0 15 (c.in-Some.ensures.taken.1 ∙ c.if-channel-eq15.true) in
      let same : text_formats c.in-Some.text.1 ≡ end_formats c.args.channel c.args.self.now.text = sym (λ i. fifteen i && (number i && text_formats c.in-Some.text.1)) ∙ sym (ap (end_formats c.args.channel) c.in-Some.ensures.taken.0) in
      subst (λ (b : Bool). KeepsMedium b (g.M.Medium.seen c.args.self.now.medium) (g.M.Medium.seen c.command.new.self.medium)) (ap text_formats c.bytes.ensures ∙ same)
      (subst (λ v. KeepsMedium (text_formats c.bytes.result.now) (g.M.Medium.seen v) (g.M.Medium.seen c.command.new.self.medium)) c.in-Some.ensures.only.medium c.command.ensures.leaves.medium);
  rest = λ other m s.
      let fifteen : (c.args.channel == 15) ≡ true = eq-eqb c.args.channel 15 c.if-channel-eq15.true in
      let number : (c.in-Some.text.0 == 15) ≡ true = eq-eqb c.in-Some.text.0 15 (c.in-Some.ensures.taken.1 ∙ c.if-channel-eq15.true) in
      let none : text_formats c.in-Some.text.1 ≡ false = sym (λ i. fifteen i && (number i && text_formats c.in-Some.text.1)) ∙ sym (ap (end_formats c.args.channel) c.in-Some.ensures.taken.0) ∙ other in
      rest_seen g.M.Medium.seen c.args.self.now.medium c.command.new.self.medium c.take_text.new.self.medium c.command.new.self.medium c.in-Some.ensures.only.medium refl (ended_rest c.args.channel c.args.self.now c.in-Some.text m _ _ c.if-channel-eq15.true c.in-Some.ensures.taken.0 number
      (subst (λ (xs : List ℕ). KeepsRest (g.M.Medium.seen c.take_text.new.self.medium) (g.M.Medium.seen c.command.new.self.medium) (text_clears xs (without_text c.args.channel m))) c.bytes.ensures
      (c.command.ensures.leaves.rest (ap text_formats c.bytes.ensures ∙ none) (without_text c.args.channel m) (c.in-Some.ensures.leads m s))));
  counted = counted_from g.M.Medium.seen c.args.self.now c.take_text.new.self c.command.new.self c.in-Some.ensures.only.medium c.command.ensures.leaves.counted;
  grounded = grounded_from g.M.Medium.seen c.args.self.now c.take_text.new.self c.command.new.self c.in-Some.ensures.only.medium c.in-Some.ensures.only.told c.command.ensures.leaves.grounded;
}

pub returns-else-channel-eq15-clause-leaves : goal.returns-else-channel-eq15-clause-leaves
returns-else-channel-eq15-clause-leaves g c = record {
  channels = (search rules);
  others = (search rules);
  ordered = λ v. absurd (omega (arith, ended_15 c.args.channel c.args.self.now.text v, c.if-channel-eq15.false));
  medium = keeps_free _ _ (subst (λ v. KeepsMedium false (g.M.Medium.seen v) (g.M.Medium.seen c.write_record.new.self.medium)) c.in-Some.ensures.only.medium c.write_record.ensures.leaves.medium);
  rest = λ other m s. rest_seen g.M.Medium.seen c.args.self.now.medium c.write_record.new.self.medium c.take_text.new.self.medium c.write_record.new.self.medium c.in-Some.ensures.only.medium refl (records_rest c.args.channel c.args.self.now c.take_text.new.self m _ _ (below_15 c.args.channel (omega (arith, c.requires, c.if-channel-eq15.false))) c.in-Some.ensures.only.channels (c.write_record.ensures.leaves.rest (without_text c.args.channel m) (c.in-Some.ensures.leads m s)));
  counted = counted_from g.M.Medium.seen c.args.self.now c.take_text.new.self c.write_record.new.self c.in-Some.ensures.only.medium c.write_record.ensures.leaves.counted;
  grounded = grounded_from g.M.Medium.seen c.args.self.now c.take_text.new.self c.write_record.new.self c.in-Some.ensures.only.medium c.in-Some.ensures.only.told c.write_record.ensures.leaves.grounded;
}

pub returns-in_default-clause-leaves : goal.returns-in_default-clause-leaves
returns-in_default-clause-leaves g c = record {
  channels = (search rules);
  others = same_all (end_moves c.args.channel c.args.self.now.text) c.args.self.now.channels c.take_text.new.self.channels c.take_text.ensures.only.channels;
  ordered = λ v.
      absurd (not_ended c.args.channel c.args.self.now.text (subst (λ o. MatchOption o (IfSome c.args.self.now.text (λ t. t.0 ≢ c.args.channel)) (λ t. Unit {0})) c.in_default.is c.take_text.ensures.none) v);
  medium = keeps_same _ _ (ap g.M.Medium.seen c.take_text.ensures.only.medium);
  rest = λ other m s. rest_itself _ _ (ap g.M.Medium.seen c.take_text.ensures.only.medium);
  counted = (search rules);
  grounded = (search rules);
}

-- ---- what is reported as done, on any disk

pub returns-then-channel-eq15-clause-done : goal.returns-then-channel-eq15-clause-done
returns-then-channel-eq15-clause-done g c = λ is text has.
    let all : c.bytes.result.now ≡ text = c.bytes.ensures ∙ same_text c.args.self.now.text c.in-Some.text text c.in-Some.ensures.taken.0 has in
    subst (λ (xs : List ℕ). ReadWasDone (command_of (without_return xs)) c.args.self.now.channels (g.M.Medium.seen c.args.self.now.medium) (g.M.Medium.seen c.command.new.self.medium) c.command.new.self.told.status) all
    (subst (λ chs. ReadWasDone (command_of (without_return c.bytes.result.now)) chs (g.M.Medium.seen c.args.self.now.medium) (g.M.Medium.seen c.command.new.self.medium) c.command.new.self.told.status) c.in-Some.ensures.only.channels
    (subst (λ v. ReadWasDone (command_of (without_return c.bytes.result.now)) c.take_text.new.self.channels (g.M.Medium.seen v) (g.M.Medium.seen c.command.new.self.medium) c.command.new.self.told.status) c.in-Some.ensures.only.medium c.command.ensures.done))

pub returns-else-channel-eq15-clause-done : goal.returns-else-channel-eq15-clause-done
returns-else-channel-eq15-clause-done g c = λ is. absurd (c.if-channel-eq15.false is)

-- the text was another channel's
pub returns-in_default-clause-done : goal.returns-in_default-clause-done
returns-in_default-clause-done g c = λ is text has.
    let none = subst (λ o. MatchOption o (IfSome c.args.self.now.text (λ t. t.0 ≢ c.args.channel)) (λ t. Unit {0})) c.in_default.is c.take_text.ensures.none in
    absurd (subst (λ o. IfSome o (λ t. t.0 ≢ c.args.channel)) has none (sym is))
