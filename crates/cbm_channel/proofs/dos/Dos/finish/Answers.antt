use Rattle.std.proofs.Common.{rules, refl, sym, subst, arith, inl, inr, ap, ◌∙◌}
use Rattle.std.specs.Prelude.{slice_index_or, slice_set}
use Rattle.cbm_medium.specs.Seen.{HasFailed}
use Rattle.cbm_machine.specs.Machines.{channel}
use Rattle.cbm_machine.specs.Closing.{finish_channel}
use Rattle.cbm_channel.specs.Standing.{uses_of, StandsBy}
use Rattle.cbm_channel.proofs.Stands.{borrowed_at, stood, stands_here, use_at}
use Rattle.cbm_channel.proofs.Stores.{finish_done, finish_cut, has_failed, renamed}
use Rattle.cbm_channel.proofs.Counted.{counted_else}
use Rattle.cbm_channel.proofs.Rest.{rest_seen}
use Rattle.cbm_channel.specs.Shown.{finishes_on}
use Rattle.cbm_channel.proofs.Spared.{rest_on}
use Rattle.cbm_channel.proofs.dos.Dos.finish.Goals as goal
use Rattle.cbm_channel.proofs.Goings.{keeps_call}
use Rattle.cbm_channel.proofs.GroundedReports.{answer_grounded}
use Rattle.cbm_channel.proofs.BytesDone.{finish_as, fault_told}

pub returns-in_default-clause-goes : goal.returns-in_default-clause-goes
returns-in_default-clause-goes g c = λ m s.
    let st = stood g.M.Medium.seen _ _ m c.self.view_is s in
    let at = stands_here _ _ _ _ _ _ m c.args.channel c.index_mut.result.now c.index_mut.ensures.value c.requires c.self.invariant st in
    let same = use_at c.index_mut.result.now _ m.channels c.args.channel _ (omega (arith, c.requires, c.self.invariant.count)) c.index_mut.ensures.value in
    let done = (c.in_default.ensures.call m.disk (uses_of c.self.inside.channels.items m.channels) c.args.channel (channel m c.args.channel) st.holds same at).done in (
      finish_channel c.args.channel m,
      inl refl,
      renamed _ _ _ _ _ _ _ _ _ c.finish.ensures.only.tracks c.finish.ensures.only.protected
          (subst (λ x. StandsBy (g.M.Medium.seen c.finish.new.volume).content (g.M.Medium.seen c.self.inside.volume).tracks (g.M.Medium.seen c.self.inside.volume).protected (slice_set c.self.inside.channels.items c.args.channel x) c.self.inside.telling c.self.inside.text (finish_channel c.args.channel m))
          (sym c.finish.ensures.is_closed) (finish_done _ _ _ _ _ _ m c.args.channel c.requires c.self.invariant st _ done)),
    )

pub returns-in-Err-clause-goes : goal.returns-in-Err-clause-goes
returns-in-Err-clause-goes g c = λ m s.
    let st = stood g.M.Medium.seen _ _ m c.self.view_is s in
    let at = stands_here _ _ _ _ _ _ m c.args.channel c.index_mut.result.now c.index_mut.ensures.value c.requires c.self.invariant st in
    let same = use_at c.index_mut.result.now _ m.channels c.args.channel _ (omega (arith, c.requires, c.self.invariant.count)) c.index_mut.ensures.value in
    let cut = (c.in-Err.ensures.call m.disk (uses_of c.self.inside.channels.items m.channels) c.args.channel (channel m c.args.channel) st.holds same at).stopped in
    let wrote = c.in-Err.ensures.wrote (channel m c.args.channel) at in
    let next = finish_cut _ _ _ _ _ _ m c.args.channel c.requires c.self.invariant st _ cut in
    let failed = has_failed _ _ _ c.args.channel wrote.slot (g.M.Medium.seen c.self.inside.volume) (g.M.Medium.seen c.finish.new.volume) c.in-Err.trouble st.orderly st.same_protection wrote.bytes wrote.blocks wrote.full wrote.replaces wrote.is
    (c.in-Err.ensures.call m.disk (uses_of c.self.inside.channels.items m.channels) c.args.channel (channel m c.args.channel) st.holds same at).cause in
    let moved = subst (λ k. HasFailed (g.M.Medium.seen k.medium) (g.M.Medium.seen c.set.new.self.medium)) c.self.view_is (subst (λ v. HasFailed (g.M.Medium.seen c.self.inside.volume) (g.M.Medium.seen v)) (sym c.set.ensures.medium) failed) in (
      _,
      inr (moved, next.1 c.in-Err.trouble c.from.result c.from.ensures),
      c.set.ensures.leads next.0 (renamed _ _ _ _ _ _ _ _ _ c.finish.ensures.only.tracks c.finish.ensures.only.protected
          (subst (λ x. StandsBy (g.M.Medium.seen c.finish.new.volume).content (g.M.Medium.seen c.self.inside.volume).tracks (g.M.Medium.seen c.self.inside.volume).protected (slice_set c.self.inside.channels.items c.args.channel x) c.self.inside.telling c.self.inside.text next.0)
          (sym c.finish.ensures.is_closed) next.2)),
    )

-- ---- what it leaves, on any disk

pub returns-in-Err-clause-leaves : goal.returns-in-Err-clause-leaves
returns-in-Err-clause-leaves g c = record {
  medium = keeps_call g.M.Medium.seen c.args.self.now.medium c.set.new.self.medium c.self.inside.volume c.finish.new.volume c.finish.result (ap (λ k. k.medium) c.self.view_is) c.set.ensures.medium c.finish.ensures.only;
  rest = λ m s.
      let st = stood g.M.Medium.seen _ _ m c.self.view_is s in
      let at = stands_here _ _ _ _ _ _ m c.args.channel c.index_mut.result.now c.index_mut.ensures.value c.requires c.self.invariant st in
      let same = use_at c.index_mut.result.now _ m.channels c.args.channel _ (omega (arith, c.requires, c.self.invariant.count)) c.index_mut.ensures.value in
      rest_seen g.M.Medium.seen c.args.self.now.medium c.set.new.self.medium c.self.inside.volume c.finish.new.volume (ap (λ k. k.medium) c.self.view_is) c.set.ensures.medium (rest_on finishes_on _ _ _ _ (c.index_mut.ensures.value ∙ borrowed_at c.args.channel c.index_mut.result.now (ap (λ k. k.channels) c.self.view_is) (omega (arith, c.requires, c.self.invariant.count))) ((c.finish.ensures.call m.disk (uses_of c.self.inside.channels.items m.channels) c.args.channel (channel m c.args.channel) st.holds same at).rest));
  counted = counted_else g.M.Medium.seen c.args.self.now c.set.new.self c.self.inside.volume c.finish.new.volume (ap (λ k. k.medium) c.self.view_is) c.set.ensures.medium c.finish.result c.in-Err.trouble c.in-Err.is c.finish.ensures.only (ap (λ x. x.status) c.set.ensures.told ∙ c.from.ensures);
  grounded = inr (answer_grounded g.M.Medium.seen c.args.self.now c.set.new.self c.self.inside.volume c.finish.new.volume (ap (λ k. k.medium) c.self.view_is) c.set.ensures.medium c.finish.result c.in-Err.trouble c.in-Err.is c.finish.ensures.only (ap (λ x. x.status) c.set.ensures.told ∙ c.from.ensures));
}

pub returns-in_default-clause-leaves : goal.returns-in_default-clause-leaves
returns-in_default-clause-leaves g c = record {
  medium = (search rules);
  rest = λ m s.
      let st = stood g.M.Medium.seen _ _ m c.self.view_is s in
      let at = stands_here _ _ _ _ _ _ m c.args.channel c.index_mut.result.now c.index_mut.ensures.value c.requires c.self.invariant st in
      let same = use_at c.index_mut.result.now _ m.channels c.args.channel _ (omega (arith, c.requires, c.self.invariant.count)) c.index_mut.ensures.value in
      rest_seen g.M.Medium.seen c.args.self.now.medium c.finish.new.volume c.self.inside.volume c.finish.new.volume (ap (λ k. k.medium) c.self.view_is) refl (rest_on finishes_on _ _ _ _ (c.index_mut.ensures.value ∙ borrowed_at c.args.channel c.index_mut.result.now (ap (λ k. k.channels) c.self.view_is) (omega (arith, c.requires, c.self.invariant.count))) ((c.finish.ensures.call m.disk (uses_of c.self.inside.channels.items m.channels) c.args.channel (channel m c.args.channel) st.holds same at).rest));
  counted = (search rules);
  grounded = (search rules);
}

-- ---- the file, on any disk

pub returns-in_default-clause-done : goal.returns-in_default-clause-done
returns-in_default-clause-done g c = inl (
  ap (λ k. k.told) c.self.view_is,
  finish_as (g.M.Medium.seen c.self.inside.volume) (g.M.Medium.seen c.args.self.now.medium) (g.M.Medium.seen c.finish.new.volume) (g.M.Medium.seen c.finish.new.volume) _ _ (ap (λ k. g.M.Medium.seen k.medium) c.self.view_is) refl
      (c.index_mut.ensures.value ∙ borrowed_at c.args.channel c.index_mut.result.now (ap (λ k. k.channels) c.self.view_is) (omega (arith, c.requires, c.self.invariant.count)))
      c.in_default.ensures.led,
)

pub returns-in-Err-clause-done : goal.returns-in-Err-clause-done
returns-in-Err-clause-done g c = inr (fault_told g.M.Medium.seen c.args.self.now c.set.new.self c.self.inside.volume c.finish.new.volume c.finish.result c.in-Err.trouble c.from.result (ap (λ k. k.medium) c.self.view_is) c.set.ensures.medium c.in-Err.is c.from.ensures c.set.ensures.told c.finish.ensures.only)
