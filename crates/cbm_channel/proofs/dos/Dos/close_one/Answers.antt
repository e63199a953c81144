use Rattle.std.proofs.Common.{◌≡◌, ap, ◌∙◌, subst, arith, length, sym, refl}
use Rattle.std.proofs.lemmas.List.{length-set}
use Rattle.cbm_medium.specs.Seen.{Seen, HasFailed}
use Rattle.cbm_machine.specs.Closing.{without_text, finish_channel, close_one}
use Rattle.cbm_channel.specs.declared.channel.Channel.TheVariants.{Closed}
use Rattle.cbm_channel.specs.ChannelCalls.{no_slot}
use Rattle.cbm_channel.specs.Shown.{finished_by}
use Rattle.cbm_channel.specs.Going.{some_byte_put}
use Rattle.cbm_channel.proofs.Goings.{passes_on, close_passes, closed_at, early, late, keeps_same, keeps_then}
use Rattle.cbm_channel.proofs.Counted.{counted_to, counted_then}
use Rattle.cbm_channel.proofs.Rest.{rest_seen, rest_then}
use Rattle.cbm_channel.proofs.dos.Dos.close_one.Goals as goal
use Rattle.cbm_channel.proofs.GroundedReports.{grounded_then, grounded_to}
use Rattle.cbm_channel.proofs.BytesDone.{finished_to}

-- the return, CLOSE and the text are one part
pub returns-clause-goes : goal.returns-clause-goes
returns-clause-goes g c = λ m s.
    let first = c.fill.ensures.goes m s in
    let second = c.finish.ensures.goes first.0 first.2 in
    let count : length c.fill.new.self.channels ≡ 15 = sym (length-set c.fill.new.self.channels c.args.channel Closed) ∙ ap length (sym c.finish.ensures.channels) ∙ c.finish.ensures.count in
    let closed = closed_at g.M.Medium.seen c.finish.new.self second.0 c.fill.new.self.channels c.args.channel second.2 c.finish.ensures.channels (omega (arith, c.requires, count)) in
    let a : Seen = g.M.Medium.seen c.args.self.now.medium in
    let b : Seen = g.M.Medium.seen c.fill.new.self.medium in
    let d : Seen = g.M.Medium.seen c.finish.new.self.medium in
    let z : Seen = g.M.Medium.seen c.forget_text.new.self.medium in
    let last : d ≡ z = ap g.M.Medium.seen (sym c.forget_text.ensures.only.medium) in
    let all = close_passes (HasFailed a d) c.args.channel m first.0 second.0 closed
    (passes_on (HasFailed a b) (HasFailed a d) c.args.channel (some_byte_put c.args.channel) m first.0 (early a b d c.finish.ensures.leaves.medium.counted) first.1)
    (passes_on (HasFailed b d) (HasFailed a d) c.args.channel (finish_channel c.args.channel) first.0 second.0 (late a b d c.fill.ensures.leaves.medium.counted) second.1) in (
      without_text c.args.channel second.0,
      passes_on (HasFailed a d) (HasFailed a z) c.args.channel (close_one c.args.channel) m (without_text c.args.channel second.0) (λ f. subst (λ (v : Seen). HasFailed a v) last f) all,
      c.forget_text.ensures.leads second.0 second.2,
    )

-- ---- what it leaves, on any disk

pub returns-clause-leaves : goal.returns-clause-leaves
returns-clause-leaves g c = record {
  medium = keeps_then _ _ _ (keeps_then _ _ _ c.fill.ensures.leaves.medium c.finish.ensures.leaves.medium) (keeps_same _ _ (ap g.M.Medium.seen c.forget_text.ensures.only.medium));
  rest = λ m s.
      let first = c.fill.ensures.goes m s in
      rest_seen g.M.Medium.seen c.args.self.now.medium c.forget_text.new.self.medium c.args.self.now.medium c.finish.new.self.medium refl c.forget_text.ensures.only.medium (rest_then no_slot (finished_by c.args.channel c.fill.new.self) (g.M.Medium.seen c.args.self.now.medium) (g.M.Medium.seen c.fill.new.self.medium) (g.M.Medium.seen c.finish.new.self.medium) first.0.disk _ first.2.holds (λ n e. (refl, c.fill.ensures.slot n e)) (c.fill.ensures.leaves.rest m s) (c.finish.ensures.leaves.rest first.0 first.2));
  counted = counted_to g.M.Medium.seen c.args.self.now c.finish.new.self c.forget_text.new.self c.forget_text.ensures.only.medium c.forget_text.ensures.only.told
      (counted_then g.M.Medium.seen c.args.self.now c.fill.new.self c.finish.new.self c.fill.ensures.leaves.counted c.finish.ensures.leaves.counted (λ failed. c.finish.ensures.quiet (c.fill.ensures.cut failed)));
  grounded = grounded_to g.M.Medium.seen c.args.self.now c.finish.new.self c.forget_text.new.self c.forget_text.ensures.only.medium c.forget_text.ensures.only.told
      (grounded_then g.M.Medium.seen c.args.self.now c.fill.new.self c.finish.new.self c.fill.ensures.leaves.medium c.finish.ensures.leaves.medium.counted c.fill.ensures.leaves.grounded c.finish.ensures.leaves.grounded);
}

-- ---- what it has done, on any disk

pub returns-clause-done : goal.returns-clause-done
returns-clause-done g c = (
  c.fill.new.self,
  c.fill.ensures.done,
  finished_to g.M.Medium.seen c.args.channel c.fill.new.self c.finish.new.self c.forget_text.new.self c.forget_text.ensures.only.medium c.forget_text.ensures.only.told c.finish.ensures.done,
)
