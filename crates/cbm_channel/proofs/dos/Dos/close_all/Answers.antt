use Rattle.std.proofs.Common.{rules, ◌≡◌, ◌+◌, refl, take, sym, subst, ◌∙◌, ap, arith, inl, inr}
use Rattle.std.specs.Prelude.{ℕ, suc, slice_index_or}
use Rattle.std.proofs.lemmas.Bool.{cases_lt}
use Rattle.std.proofs.lemmas.Bool.Decides.{eqb_tells}
use Rattle.cbm_channel.specs.Shown.{is_writing, finished_by}
use Rattle.cbm_channel.specs.Parts.{closed_by}
use Rattle.std.proofs.lemmas.List.{get_or_past}
use Rattle.cbm_channel.specs.declared.channel.Channel.TheVariants.{Closed}
use Rattle.cbm_machine.specs.Closing.{channel_numbers, close_one}
use Rattle.cbm_channel.specs.Going.{Goes, AreCounted, closings_of}
use Rattle.cbm_channel.specs.BytesMeant.{ClosingsWereDone}
use Rattle.cbm_channel.proofs.Changed.{closed_next}
use Rattle.cbm_channel.proofs.Closes.{closings_next}
use Rattle.cbm_channel.proofs.Goings.{goes_on, keeps_same, keeps_then}
use Rattle.cbm_channel.proofs.Counted.{counted_more}
use Rattle.cbm_channel.proofs.GroundedReports.{grounded_then}
use Rattle.cbm_channel.proofs.Rest.{rest_itself, rest_then}
use Rattle.cbm_channel.proofs.Spared.{next_free}
use Rattle.cbm_channel.proofs.dos.Dos.close_all.Goals as goal

pub returns-clause-goes : goal.returns-clause-goes
returns-clause-goes g c =
    let all : c.loop-channel.channel ≡ 15 = omega (arith, c.loop-channel-test.false, c.loop-channel.auto.channel-end) in
    subst (λ k. Goes g.M.Medium.seen c.args.self.now c.loop-channel.self (closings_of (take k channel_numbers))) all c.loop-channel.invariant.0

pub returns-clause-medium : goal.returns-clause-medium
returns-clause-medium g c = c.loop-channel.invariant.2

pub returns-clause-closed : goal.returns-clause-closed
returns-clause-closed g c = λ k.
    let all : c.loop-channel.channel ≡ 15 = omega (arith, c.loop-channel-test.false, c.loop-channel.auto.channel-end) in
    elim (cases_lt k 15) [
      | inl lt ↦ c.loop-channel.invariant.1 k (omega (arith, lt, all))
      | inr far ↦ get_or_past c.loop-channel.self.channels k Closed (omega (arith, far, c.loop-channel.invariant.3 (omega (arith, all))))
    ]

pub loop-channel-init : goal.loop-channel-init
loop-channel-init g c = ((search rules), (search rules), keeps_same _ _ refl, (search rules), (search rules), (search rules), inl refl, (λ m s. rest_itself _ _ refl), refl, (λ k far. refl))

pub loop-channel-preserved : goal.loop-channel-preserved
loop-channel-preserved g c = (
  subst (λ parts. Goes g.M.Medium.seen c.args.self.now c.close_one.new.self parts) (sym (closings_next c.loop-channel.channel c.loop-channel-test.true))
      (goes_on g.M.Medium.seen c.args.self.now c.loop-channel.self c.close_one.new.self (closings_of (take c.loop-channel.channel channel_numbers)) c.loop-channel.channel (close_one c.loop-channel.channel)
      c.loop-channel.invariant.2 c.close_one.ensures.leaves.medium c.loop-channel.invariant.0 c.close_one.ensures.goes),
  (λ k lt. closed_next c.loop-channel.self.channels c.close_one.new.self.channels c.loop-channel.channel k c.close_one.ensures.closes.closed c.close_one.ensures.closes.others lt c.loop-channel.invariant.1),
  keeps_then _ _ _ c.loop-channel.invariant.2 c.close_one.ensures.leaves.medium,
  (λ lt. c.close_one.ensures.closes.count),
  (λ none.
      let x = c.loop-channel.invariant.4 none in
      let q = c.close_one.ensures.quiet (x.1 c.loop-channel.channel) in (
        (q.0 ∙ x.0.0, q.1 ∙ x.0.1),
        (λ k. elim (eqb_tells k c.loop-channel.channel) [
          | inl same ↦ ap is_writing (ap (λ (n : ℕ). slice_index_or c.close_one.new.self.channels n Closed) same.1 ∙ c.close_one.ensures.closes.closed)
          | inr other ↦ ap is_writing (c.close_one.ensures.closes.others k other.1) ∙ x.1 k
        ]),
      )),
  counted_more g.M.Medium.seen c.loop-channel.channel (c.loop-channel.channel + 1) c.args.self.now c.loop-channel.self c.close_one.new.self refl c.loop-channel.invariant.5 c.close_one.ensures.leaves.counted,
  grounded_then g.M.Medium.seen c.args.self.now c.loop-channel.self c.close_one.new.self c.loop-channel.invariant.2 c.close_one.ensures.leaves.medium.counted c.loop-channel.invariant.6 c.close_one.ensures.leaves.grounded,
  (λ m s.
      let x = c.loop-channel.invariant.0 m s in
      rest_then (closed_by 15 c.args.self.now) (finished_by c.loop-channel.channel c.loop-channel.self) (g.M.Medium.seen c.args.self.now.medium) (g.M.Medium.seen c.loop-channel.self.medium) (g.M.Medium.seen c.close_one.new.self.medium) x.0.disk _ x.2.holds
      (λ n e. (e, next_free c.args.self.now c.loop-channel.self c.loop-channel.channel n (c.loop-channel.invariant.9 c.loop-channel.channel (omega arith)) e)) (c.loop-channel.invariant.7 m s) (c.close_one.ensures.leaves.rest x.0 x.2)),
  (let next : suc c.loop-channel.channel ≡ c.loop-channel.channel + 1 = omega arith in
      subst (λ (n : ℕ). ClosingsWereDone g.M.Medium.seen n c.args.self.now c.close_one.new.self) next (c.loop-channel.self, c.loop-channel.invariant.8, c.close_one.ensures.done)),
  (λ k far. c.close_one.ensures.closes.others k (λ e. absurd (omega (arith, e, far))) ∙ c.loop-channel.invariant.9 k (omega (arith, far))),
)

pub returns-clause-quiet : goal.returns-clause-quiet
returns-clause-quiet g c = λ none. (c.loop-channel.invariant.4 none).0

-- ---- what it makes of the medium, on any disk

pub returns-clause-counted : goal.returns-clause-counted
returns-clause-counted g c =
    let all : c.loop-channel.channel ≡ 15 = omega (arith, c.loop-channel-test.false, c.loop-channel.auto.channel-end) in
    subst (λ (n : ℕ). AreCounted g.M.Medium.seen n c.args.self.now c.loop-channel.self) all c.loop-channel.invariant.5

pub returns-clause-done : goal.returns-clause-done
returns-clause-done g c =
    let all : c.loop-channel.channel ≡ 15 = omega (arith, c.loop-channel-test.false, c.loop-channel.auto.channel-end) in
    subst (λ (n : ℕ). ClosingsWereDone g.M.Medium.seen n c.args.self.now c.loop-channel.self) all c.loop-channel.invariant.8

-- ---- the rest of the disk

pub returns-clause-rest : goal.returns-clause-rest
returns-clause-rest g c = c.loop-channel.invariant.7

pub returns-clause-grounded : goal.returns-clause-grounded
returns-clause-grounded g c = c.loop-channel.invariant.6
