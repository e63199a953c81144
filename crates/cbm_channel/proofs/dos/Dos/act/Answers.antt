use Rattle.std.proofs.Common.{◌<◌, sym, ap, subst, ◌∙◌, refl, inl, inr, arith, length}
use Rattle.std.specs.Prelude.{slice_index_or, IfSome}
use Rattle.cbm_channel.specs.declared.channel.Channel.TheVariants.{Closed}
use Rattle.cbm_channel.specs.Meant.{PlanWasDone}
use Rattle.cbm_channel.proofs.Refused.{trouble_never}
use Rattle.std.specs.Prelude.{slice_set, Option, Ok}
use Rattle.cbm_channel.specs.declared.channel.Channel.{Channel}
use Rattle.cbm_channel.specs.Opening.{opened_in}
use Rattle.cbm_channel.specs.Shown.{appends_on}
use Rattle.cbm_machine.specs.declared.code.Code.TheVariants.{Fine}
use Rattle.cbm_machine.specs.Machines.{say}
use Rattle.cbm_machine.specs.Plans.{act}
use Rattle.cbm_medium.specs.Seen.{HasFailed}
use Rattle.cbm_channel.specs.Standing.{StandsBy, uses_of}
use Rattle.cbm_channel.specs.Planned.{IsOpened}
use Rattle.cbm_channel.proofs.Stores.{renamed}
use Rattle.cbm_channel.proofs.Opens.{opened_stands, opened_cut, idle_at}
use Rattle.cbm_channel.proofs.Refused.{not_refused, refused_26}
use Rattle.cbm_channel.proofs.Counted.{counted_else}
use Rattle.cbm_channel.proofs.Rest.{rest_seen, rest_more, rest_none}
use Rattle.cbm_channel.proofs.Changed.{set_now}
use Rattle.cbm_channel.proofs.dos.Dos.act.Goals as goal
use Rattle.cbm_channel.proofs.Goings.{keeps_call}
use Rattle.cbm_channel.proofs.GroundedReports.{answer_grounded}

-- the channel was opened
pub returns-in-Ok-Some-clause-goes : goal.returns-in-Ok-Some-clause-goes
returns-in-Ok-Some-clause-goes g c = λ m p h shut s.
    let old = c.args.self.now in
    let whole = c.self.view_is ∙ c.opened.ensures.only.rest in
    let more : c.args.channel < length old.channels = omega (arith, c.requires.channel, c.opened.ensures.only.count, ap (λ k. length k.channels) c.opened.ensures.only.rest) in
    let is = subst (IsOpened (g.M.Medium.seen old.medium).tracks (g.M.Medium.seen c.opened.new.self.medium).content m c.args.channel p (uses_of old.channels m.channels)) c.in-Ok-Some.field-0-is
    (c.in-Ok-Some.ensures.opens.opened m p c.args.channel h s (idle_at old.channels m.channels c.args.channel shut)) in
    let next = opened_stands _ _ _ _ old.channels old.told old.text m c.args.channel p c.args.plan more s h c.in-Ok-Some.opened is in (
      say Fine (act c.args.channel p m),
      inl refl,
      c.say.ensures.leads _ (subst (λ k. StandsBy (g.M.Medium.seen k.medium).content (g.M.Medium.seen k.medium).tracks (g.M.Medium.seen k.medium).protected (slice_set k.channels c.args.channel c.in-Ok-Some.opened) k.told k.text (act c.args.channel p m)) (sym whole)
          (renamed _ _ _ _ _ _ _ _ _ c.opened.ensures.medium.tracks c.opened.ensures.medium.protected next)),
    )

-- a write was refused
pub returns-in-Err-clause-goes : goal.returns-in-Err-clause-goes
returns-in-Err-clause-goes g c = λ m p h shut s.
    let old = c.args.self.now in
    let more : c.args.channel < length old.channels = omega (arith, c.requires.channel, c.opened.ensures.only.count, ap (λ k. length k.channels) c.opened.ensures.only.rest) in
    let stop = c.in-Err.ensures.opens.stopped m p h s in
    let next = opened_cut _ _ _ _ old.channels old.told old.text m c.args.channel p c.args.plan more s h shut stop.0 in (
      _,
      inr (subst (λ v. HasFailed (g.M.Medium.seen old.medium) (g.M.Medium.seen v)) (sym c.set.ensures.medium) stop.1, next.1 c.in-Err.trouble c.from.result c.from.ensures),
      c.set.ensures.leads next.0 (subst (λ k. StandsBy (g.M.Medium.seen k.medium).content (g.M.Medium.seen k.medium).tracks (g.M.Medium.seen k.medium).protected k.channels k.told k.text next.0) (sym c.opened.ensures.only.rest)
          (renamed _ _ _ _ _ _ _ _ _ c.opened.ensures.medium.tracks c.opened.ensures.medium.protected next.2)),
    )

-- ---- what is refused

pub returns-in-Ok-Some-clause-spared : goal.returns-in-Ok-Some-clause-spared
returns-in-Ok-Some-clause-spared g c = λ free. not_refused _ _ c.say.ensures.told refl

pub returns-in-Err-clause-spared : goal.returns-in-Err-clause-spared
returns-in-Err-clause-spared g c = λ free is.
    ap (λ v. (g.M.Medium.seen v).content) c.set.ensures.medium ∙ c.in-Err.ensures.writes.guarded free (refused_26 c.in-Err.trouble c.from.result _ c.from.ensures c.set.ensures.told is)

-- ---- what it leaves, on any disk

pub returns-in-Err-clause-leaves : goal.returns-in-Err-clause-leaves
returns-in-Err-clause-leaves g c = record {
  medium = keeps_call g.M.Medium.seen c.args.self.now.medium c.set.new.self.medium c.args.self.now.medium c.opened.new.self.medium c.opened.result refl c.set.ensures.medium c.opened.ensures.medium;
  counted = counted_else g.M.Medium.seen c.args.self.now c.set.new.self c.args.self.now.medium c.opened.new.self.medium refl c.set.ensures.medium c.opened.result c.in-Err.trouble c.in-Err.is c.opened.ensures.medium (ap (λ x. x.status) c.set.ensures.told ∙ c.from.ensures);
  grounded = answer_grounded g.M.Medium.seen c.args.self.now c.set.new.self c.args.self.now.medium c.opened.new.self.medium refl c.set.ensures.medium c.opened.result c.in-Err.trouble c.in-Err.is c.opened.ensures.medium (ap (λ x. x.status) c.set.ensures.told ∙ c.from.ensures);
}

-- ---- the rest of the disk

pub returns-in-Ok-Some-clause-rest : goal.returns-in-Ok-Some-clause-rest
returns-in-Ok-Some-clause-rest g c = λ m p h s.
    let more : c.args.channel < length c.self.inside.channels.items = omega (arith, c.requires.channel, c.opened.ensures.only.count, ap (λ k. length k.channels) c.self.view_is) in
    let now = set_now c.self.inside.channels.items c.say.new.self.channels c.args.channel c.in-Ok-Some.opened c.say.ensures.channels more in
    rest_seen g.M.Medium.seen c.args.self.now.medium c.say.new.self.medium c.args.self.now.medium c.opened.new.self.medium refl (c.say.ensures.medium ∙ ap (λ k. k.medium) c.self.view_is)
    (rest_more (opened_in (Ok c.in-Ok-Some.field-0)) _ _ (λ n free. ap (λ (o : Option Channel). opened_in (Ok o) n) c.in-Ok-Some.field-0-is ∙ sym (ap (λ (y : Channel). appends_on n y) now) ∙ free) (c.in-Ok-Some.ensures.opens.rest m p h s))

pub returns-in-Ok-None-clause-rest : goal.returns-in-Ok-None-clause-rest
returns-in-Ok-None-clause-rest g c = λ m p h s. rest_seen g.M.Medium.seen c.args.self.now.medium c.say-in-Ok-None.new.self.medium c.args.self.now.medium c.opened.new.self.medium refl c.say-in-Ok-None.ensures.medium
    (rest_more (opened_in (Ok c.in-Ok-None.field-0)) _ _ (λ n free. ap (λ (o : Option Channel). opened_in (Ok o) n) c.in-Ok-None.field-0-is) (c.in-Ok-None.ensures.opens.rest m p h s))

pub returns-in-Err-clause-rest : goal.returns-in-Err-clause-rest
returns-in-Err-clause-rest g c = λ m p h s. rest_seen g.M.Medium.seen c.args.self.now.medium c.set.new.self.medium c.args.self.now.medium c.opened.new.self.medium refl c.set.ensures.medium (rest_none _ _ (c.in-Err.ensures.opens.rest m p h s))

-- ---- which file is meant, and what was done, on any disk

pub returns-in-Ok-Some-clause-done : goal.returns-in-Ok-Some-clause-done
returns-in-Ok-Some-clause-done g c = λ fine.
    let more : c.args.channel < length c.self.inside.channels.items = omega (arith, c.requires.channel, c.opened.ensures.only.count, ap (λ k. length k.channels) c.self.view_is) in
    let now = set_now c.self.inside.channels.items c.say.new.self.channels c.args.channel c.in-Ok-Some.opened c.say.ensures.channels more in
    let done = subst (λ (o : Option Channel). IfSome o (PlanWasDone c.args.plan (g.M.Medium.seen c.args.self.now.medium) (g.M.Medium.seen c.opened.new.self.medium))) c.in-Ok-Some.field-0-is c.in-Ok-Some.ensures.done in
    subst (λ v. PlanWasDone c.args.plan (g.M.Medium.seen c.args.self.now.medium) (g.M.Medium.seen v) (slice_index_or c.say.new.self.channels c.args.channel Closed)) (sym (c.say.ensures.medium ∙ ap (λ k. k.medium) c.self.view_is))
    (subst (PlanWasDone c.args.plan (g.M.Medium.seen c.args.self.now.medium) (g.M.Medium.seen c.opened.new.self.medium)) (sym now) done)

pub returns-in-Err-clause-done : goal.returns-in-Err-clause-done
returns-in-Err-clause-done g c = trouble_never c.in-Err.trouble c.from.result c.set.new.self.told Fine refl c.from.ensures c.set.ensures.told
