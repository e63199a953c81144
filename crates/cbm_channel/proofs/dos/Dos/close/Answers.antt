use Rattle.std.proofs.Common.{rules, arith, sym, ap, subst, refl, ◌∙◌}
use Rattle.std.specs.Prelude.{slice_index_or}
use Rattle.cbm_channel.specs.declared.channel.Channel.TheVariants.{Closed}
use Rattle.cbm_machine.specs.Closing.{close_one, without_text}
use Rattle.cbm_channel.specs.Going.{Goes, closings}
use Rattle.cbm_channel.proofs.Asked.{below_15}
use Rattle.cbm_channel.proofs.Closes.{parts_first, parts_15}
use Rattle.cbm_channel.proofs.Goings.{went_goes, goes_on, leads_went, keeps_same}
use Rattle.cbm_channel.proofs.Counted.{counted_to}
use Rattle.cbm_channel.proofs.GroundedReports.{grounded_to}
use Rattle.cbm_channel.proofs.Rest.{rest_seen}
use Rattle.cbm_channel.proofs.Spared.{closed_rest, all_closed_rest}
use Rattle.cbm_channel.proofs.dos.Dos.close.Goals as goal

pub returns-then-channel-lt15-clause-goes : goal.returns-then-channel-lt15-clause-goes
returns-then-channel-lt15-clause-goes g c =
    subst (λ parts. Goes g.M.Medium.seen c.args.self.now c.close_one.new.self parts) (sym (parts_first c.args.channel (below_15 c.args.channel c.if-channel-lt15.true)))
    (went_goes g.M.Medium.seen c.args.self.now c.close_one.new.self c.args.channel (close_one c.args.channel) c.close_one.ensures.leaves.medium c.close_one.ensures.goes)

-- the fifteen channels, and the text
pub returns-else-channel-lt15-clause-goes : goal.returns-else-channel-lt15-clause-goes
returns-else-channel-lt15-clause-goes g c =
    subst (λ parts. Goes g.M.Medium.seen c.args.self.now c.forget_text.new.self parts) (sym (parts_15 c.args.channel (omega (arith, c.requires, c.if-channel-lt15.false))))
    (goes_on g.M.Medium.seen c.args.self.now c.close_all.new.self c.forget_text.new.self closings 15 (without_text 15) c.close_all.ensures.medium
    (keeps_same _ _ (ap g.M.Medium.seen c.forget_text.ensures.only.medium)) c.close_all.ensures.goes
    (leads_went g.M.Medium.seen c.close_all.new.self c.forget_text.new.self 15 (without_text 15) c.forget_text.ensures.leads))

-- ---- what it leaves, on any disk

pub returns-then-channel-lt15-clause-leaves : goal.returns-then-channel-lt15-clause-leaves
returns-then-channel-lt15-clause-leaves g c = record {
  medium = (search rules);
  rest = λ m s. closed_rest c.args.channel c.args.self.now _ _ (below_15 c.args.channel c.if-channel-lt15.true) (c.close_one.ensures.leaves.rest m s);
  counted = λ lt. c.close_one.ensures.leaves.counted;
  done = λ lt. c.close_one.ensures.done;
  grounded = c.close_one.ensures.leaves.grounded;
  all_counted = λ is. absurd (omega (arith, is, c.if-channel-lt15.true));
  all_done = λ is. absurd (omega (arith, is, c.if-channel-lt15.true));
}

pub returns-else-channel-lt15-clause-leaves : goal.returns-else-channel-lt15-clause-leaves
returns-else-channel-lt15-clause-leaves g c = record {
  medium = (search rules);
  rest = λ m s. rest_seen g.M.Medium.seen c.args.self.now.medium c.forget_text.new.self.medium c.args.self.now.medium c.close_all.new.self.medium refl c.forget_text.ensures.only.medium (all_closed_rest c.args.channel c.args.self.now _ _ (omega (arith, c.requires, c.if-channel-lt15.false)) (c.close_all.ensures.rest m s));
  counted = λ lt. absurd (omega (arith, lt, c.if-channel-lt15.false));
  done = λ lt. absurd (omega (arith, lt, c.if-channel-lt15.false));
  grounded = grounded_to g.M.Medium.seen c.args.self.now c.close_all.new.self c.forget_text.new.self c.forget_text.ensures.only.medium c.forget_text.ensures.only.told c.close_all.ensures.grounded;
  all_counted = λ is.
      let all = c.close_all.ensures.counted in
      (all.0, all.1, counted_to g.M.Medium.seen all.0 c.close_all.new.self c.forget_text.new.self c.forget_text.ensures.only.medium c.forget_text.ensures.only.told all.2);
  all_done = λ is. (c.close_all.new.self, c.close_all.ensures.done, c.forget_text.ensures.only.told, c.forget_text.ensures.only.medium);
}

pub returns-else-channel-lt15-clause-channels : goal.returns-else-channel-lt15-clause-channels
returns-else-channel-lt15-clause-channels g c = record {
  others = λ lt. absurd (omega (arith, lt, c.if-channel-lt15.false));
  closed = λ k which. ap (λ xs. slice_index_or xs k Closed) c.forget_text.ensures.only.channels ∙ c.close_all.ensures.closed k;
}

pub returns-else-channel-lt15-clause-quiet : goal.returns-else-channel-lt15-clause-quiet
returns-else-channel-lt15-clause-quiet g c = record {
  one = λ lt. absurd (omega (arith, lt, c.if-channel-lt15.false));
  all = λ none.
      let before = c.close_all.ensures.quiet none in
      (c.forget_text.ensures.only.told ∙ before.0, c.forget_text.ensures.only.medium ∙ before.1);
}
