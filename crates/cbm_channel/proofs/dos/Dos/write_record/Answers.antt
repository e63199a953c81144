use Rattle.std.proofs.Common.{rules, arith, ◌≡◌, IfSome, refl, sym, ap, subst, ◌∙◌, inl, inr, Option, Bool, Ok, Some, true, false, slice_index_or, take}
use Rattle.cbm_medium.specs.Seen.{Seen, HasFailed}
use Rattle.cbm_machine.specs.Machines.{with_status}
use Rattle.cbm_channel.specs.declared.channel.Channel as kept
use Rattle.cbm_channel.proofs.RecordEnds.{records_or_not, put_done, put_large, put_stopped, none_done, put_rest}
use Rattle.cbm_channel.specs.Shown.{records_on, has_records}
use Rattle.cbm_channel.specs.PlaceCalls.{PutsText}
use Rattle.cbm_channel.specs.declared.channel.Channel.TheVariants.{Closed}
use Rattle.cbm_channel.proofs.Stands.{borrowed_at, stood}
use Rattle.cbm_channel.proofs.Stores.{renamed}
use Rattle.cbm_channel.proofs.Counted.{counted_else}
use Rattle.cbm_channel.proofs.Rest.{rest_seen}
use Rattle.cbm_channel.proofs.Spared.{rest_on}
use Rattle.cbm_channel.proofs.dos.Dos.write_record.Goals as goal
use Rattle.cbm_channel.proofs.Goings.{keeps_call}
use Rattle.cbm_channel.proofs.GroundedReports.{answer_grounded}

-- all bytes were written, or the channel has no records
pub returns-in-Ok-Some-false-clause-goes : goal.returns-in-Ok-Some-false-clause-goes
returns-in-Ok-Some-false-clause-goes g c = λ m text s first.
    let old : Seen = g.M.Medium.seen c.self.inside.volume in
    let new : Seen = g.M.Medium.seen c.write_record.new.volume in
    let st = stood g.M.Medium.seen _ _ m c.self.view_is s in
    let x : kept.Channel = c.index_mut.result.now in
    elim (records_or_not x) [
      | inl none ↦ (let quiet = c.in-Ok-Some-false.ensures.quiet none in
          let next = none_done old new c.self.inside.channels.items c.self.inside.telling c.self.inside.text m c.args.channel c.requires c.self.invariant st x c.write_record.new.self c.index_mut.result.now c.index_mut.ensures.value text none quiet.1 (ap (λ v. g.M.Medium.seen v) quiet.2) in
          (m, inl next.0, renamed _ _ _ _ _ _ _ _ _ c.write_record.ensures.call.medium.tracks c.write_record.ensures.call.medium.protected next.1))
      | inr k ↦ (let next = put_done old new c.self.inside.channels.items c.self.inside.telling c.self.inside.text m c.args.channel c.requires c.self.invariant st x c.write_record.new.self c.index_mut.result.now c.index_mut.ensures.value c.args.bytes.now text first c.write_record.ensures.call.medium.tracks false k.0 k.1 (subst (λ (o : Option Bool). IfSome o (λ z. old.protected ≡ false)) (c.in-Ok-Some-false.field-0-is ∙ ap (λ (z : Bool). Some z) c.in-Ok-Some-false.field-0-0-test) (c.in-Ok-Some-false.ensures.allowed (ap has_records k.1))) (subst (λ (o : Option Bool). PutsText old new x c.write_record.new.self c.args.bytes.now (Ok o)) (c.in-Ok-Some-false.field-0-is ∙ ap (λ (z : Bool). Some z) c.in-Ok-Some-false.field-0-0-test) c.in-Ok-Some-false.ensures.put) in
          (next.0, inl next.1, renamed _ _ _ _ _ _ _ _ _ c.write_record.ensures.call.medium.tracks c.write_record.ensures.call.medium.protected next.2))
    ]

-- some didn't fit
pub returns-in-Ok-Some-true-clause-goes : goal.returns-in-Ok-Some-true-clause-goes
returns-in-Ok-Some-true-clause-goes g c = λ m text s first.
    let old : Seen = g.M.Medium.seen c.self.inside.volume in
    let new : Seen = g.M.Medium.seen c.write_record.new.volume in
    let st = stood g.M.Medium.seen _ _ m c.self.view_is s in
    let x : kept.Channel = c.index_mut.result.now in
    elim (records_or_not x) [
      | inl none ↦ absurd (let z = (c.in-Ok-Some-true.ensures.quiet none).0 in let y = c.in-Ok-Some-true.field-0-is in let w = c.in-Ok-Some-true.field-0-0-test in (cc))
      | inr k ↦ (let next = put_done old new c.self.inside.channels.items c.self.inside.telling c.self.inside.text m c.args.channel c.requires c.self.invariant st x c.write_record.new.self c.index_mut.result.now c.index_mut.ensures.value c.args.bytes.now text first c.write_record.ensures.call.medium.tracks true k.0 k.1 (subst (λ (o : Option Bool). IfSome o (λ z. old.protected ≡ false)) (c.in-Ok-Some-true.field-0-is ∙ ap (λ (z : Bool). Some z) c.in-Ok-Some-true.field-0-0-test) (c.in-Ok-Some-true.ensures.allowed (ap has_records k.1))) (subst (λ (o : Option Bool). PutsText old new x c.write_record.new.self c.args.bytes.now (Ok o)) (c.in-Ok-Some-true.field-0-is ∙ ap (λ (z : Bool). Some z) c.in-Ok-Some-true.field-0-0-test) c.in-Ok-Some-true.ensures.put) in
          (_, inl next.1, c.say.ensures.leads next.0 (renamed _ _ _ _ _ _ _ _ _ c.write_record.ensures.call.medium.tracks c.write_record.ensures.call.medium.protected next.2)))
    ]

-- the file would be too large
pub returns-in-Ok-None-clause-goes : goal.returns-in-Ok-None-clause-goes
returns-in-Ok-None-clause-goes g c = λ m text s first.
    let old : Seen = g.M.Medium.seen c.self.inside.volume in
    let new : Seen = g.M.Medium.seen c.write_record.new.volume in
    let st = stood g.M.Medium.seen _ _ m c.self.view_is s in
    let x : kept.Channel = c.index_mut.result.now in
    elim (records_or_not x) [
      | inl none ↦ absurd (let z = (c.in-Ok-None.ensures.quiet none).0 in let y = c.in-Ok-None.field-0-is in (cc))
      | inr k ↦ (let next = put_large old new c.self.inside.channels.items c.self.inside.telling c.self.inside.text m c.args.channel c.requires c.self.invariant st x c.write_record.new.self c.index_mut.result.now c.index_mut.ensures.value c.args.bytes.now text first c.write_record.ensures.call.medium.tracks k.0 k.1 (subst (λ (o : Option Bool). PutsText old new x c.write_record.new.self c.args.bytes.now (Ok o)) c.in-Ok-None.field-0-is c.in-Ok-None.ensures.put) in
          (_, inl next.0, c.say-in-Ok-None.ensures.leads m (renamed _ _ _ _ _ _ _ _ _ c.write_record.ensures.call.medium.tracks c.write_record.ensures.call.medium.protected next.1)))
    ]

-- a write was refused
pub returns-in-Err-clause-goes : goal.returns-in-Err-clause-goes
returns-in-Err-clause-goes g c = λ m text s first.
    let old : Seen = g.M.Medium.seen c.self.inside.volume in
    let new : Seen = g.M.Medium.seen c.write_record.new.volume in
    let st = stood g.M.Medium.seen _ _ m c.self.view_is s in
    let x : kept.Channel = c.index_mut.result.now in
    elim (records_or_not x) [
      | inl none ↦ absurd (let z = (c.in-Err.ensures.quiet none).0 in (cc))
      | inr k ↦ (let next = put_stopped old new c.self.inside.channels.items c.self.inside.telling c.self.inside.text m c.args.channel c.requires c.self.invariant st x c.write_record.new.self c.index_mut.result.now c.index_mut.ensures.value c.args.bytes.now text first c.write_record.ensures.call.medium.tracks c.in-Err.trouble c.from.result k.0 k.1 c.from.ensures c.write_record.ensures.call.guarded c.in-Err.ensures.put in
          (with_status c.from.result next.now, elim next.either [ inl e ↦ inl e | inr f ↦ inr (subst (λ v. HasFailed (g.M.Medium.seen v.medium) (g.M.Medium.seen c.set.new.self.medium)) c.self.view_is (subst (λ v. HasFailed old (g.M.Medium.seen v)) (sym c.set.ensures.medium) f.0), f.1) ], c.set.ensures.leads next.now (renamed _ _ _ _ _ _ _ _ _ c.write_record.ensures.call.medium.tracks c.write_record.ensures.call.medium.protected next.stands)))
    ]

-- ---- what it leaves, on any disk

pub returns-in-Err-clause-leaves : goal.returns-in-Err-clause-leaves
returns-in-Err-clause-leaves g c = record {
  medium = keeps_call g.M.Medium.seen c.args.self.now.medium c.set.new.self.medium c.self.inside.volume c.write_record.new.volume c.write_record.result (ap (λ k. k.medium) c.self.view_is) c.set.ensures.medium c.write_record.ensures.call.medium;
  rest = λ m s.
      let old : Seen = g.M.Medium.seen c.self.inside.volume in
      let new : Seen = g.M.Medium.seen c.write_record.new.volume in
      let st = stood g.M.Medium.seen _ _ m c.self.view_is s in
      let x : kept.Channel = c.index_mut.result.now in
      rest_seen g.M.Medium.seen c.args.self.now.medium c.set.new.self.medium c.self.inside.volume c.write_record.new.volume (ap (λ k. k.medium) c.self.view_is) c.set.ensures.medium (rest_on records_on old new x (slice_index_or c.args.self.now.channels c.args.channel Closed) (c.index_mut.ensures.value ∙ borrowed_at c.args.channel c.index_mut.result.now (ap (λ k. k.channels) c.self.view_is) (omega (arith, c.requires, c.self.invariant.count))) (put_rest old new c.self.inside.channels.items c.self.inside.telling c.self.inside.text m c.args.channel c.requires c.self.invariant st x c.write_record.new.self c.index_mut.result.now c.index_mut.ensures.value (take 256 c.args.bytes.now) c.args.bytes.now refl c.write_record.ensures.call.medium.tracks c.write_record.ensures.rest (λ none. ap g.M.Medium.seen (c.write_record.ensures.quiet none).2)));
  counted = counted_else g.M.Medium.seen c.args.self.now c.set.new.self c.self.inside.volume c.write_record.new.volume (ap (λ k. k.medium) c.self.view_is) c.set.ensures.medium c.write_record.result c.in-Err.trouble c.in-Err.is c.write_record.ensures.call.medium (ap (λ x. x.status) c.set.ensures.told ∙ c.from.ensures);
  grounded = inr (answer_grounded g.M.Medium.seen c.args.self.now c.set.new.self c.self.inside.volume c.write_record.new.volume (ap (λ k. k.medium) c.self.view_is) c.set.ensures.medium c.write_record.result c.in-Err.trouble c.in-Err.is c.write_record.ensures.call.medium (ap (λ x. x.status) c.set.ensures.told ∙ c.from.ensures));
}

pub returns-in-Ok-Some-false-clause-leaves : goal.returns-in-Ok-Some-false-clause-leaves
returns-in-Ok-Some-false-clause-leaves g c = record {
  medium = (search rules);
  rest = λ m s.
      let old : Seen = g.M.Medium.seen c.self.inside.volume in
      let new : Seen = g.M.Medium.seen c.write_record.new.volume in
      let st = stood g.M.Medium.seen _ _ m c.self.view_is s in
      let x : kept.Channel = c.index_mut.result.now in
      rest_seen g.M.Medium.seen c.args.self.now.medium c.write_record.new.volume c.self.inside.volume c.write_record.new.volume (ap (λ k. k.medium) c.self.view_is) refl (rest_on records_on old new x (slice_index_or c.args.self.now.channels c.args.channel Closed) (c.index_mut.ensures.value ∙ borrowed_at c.args.channel c.index_mut.result.now (ap (λ k. k.channels) c.self.view_is) (omega (arith, c.requires, c.self.invariant.count))) (put_rest old new c.self.inside.channels.items c.self.inside.telling c.self.inside.text m c.args.channel c.requires c.self.invariant st x c.write_record.new.self c.index_mut.result.now c.index_mut.ensures.value (take 256 c.args.bytes.now) c.args.bytes.now refl c.write_record.ensures.call.medium.tracks c.write_record.ensures.rest (λ none. ap g.M.Medium.seen (c.write_record.ensures.quiet none).2)));
  counted = (search rules);
  grounded = (search rules);
}

pub returns-in-Ok-Some-true-clause-leaves : goal.returns-in-Ok-Some-true-clause-leaves
returns-in-Ok-Some-true-clause-leaves g c = record {
  medium = (search rules);
  rest = λ m s.
      let old : Seen = g.M.Medium.seen c.self.inside.volume in
      let new : Seen = g.M.Medium.seen c.write_record.new.volume in
      let st = stood g.M.Medium.seen _ _ m c.self.view_is s in
      let x : kept.Channel = c.index_mut.result.now in
      rest_seen g.M.Medium.seen c.args.self.now.medium c.say.new.self.medium c.self.inside.volume c.write_record.new.volume (ap (λ k. k.medium) c.self.view_is) c.say.ensures.medium (rest_on records_on old new x (slice_index_or c.args.self.now.channels c.args.channel Closed) (c.index_mut.ensures.value ∙ borrowed_at c.args.channel c.index_mut.result.now (ap (λ k. k.channels) c.self.view_is) (omega (arith, c.requires, c.self.invariant.count))) (put_rest old new c.self.inside.channels.items c.self.inside.telling c.self.inside.text m c.args.channel c.requires c.self.invariant st x c.write_record.new.self c.index_mut.result.now c.index_mut.ensures.value (take 256 c.args.bytes.now) c.args.bytes.now refl c.write_record.ensures.call.medium.tracks c.write_record.ensures.rest (λ none. ap g.M.Medium.seen (c.write_record.ensures.quiet none).2)));
  counted = (search rules);
  grounded = (search rules);
}

pub returns-in-Ok-None-clause-leaves : goal.returns-in-Ok-None-clause-leaves
returns-in-Ok-None-clause-leaves g c = record {
  medium = (search rules);
  rest = λ m s.
      let old : Seen = g.M.Medium.seen c.self.inside.volume in
      let new : Seen = g.M.Medium.seen c.write_record.new.volume in
      let st = stood g.M.Medium.seen _ _ m c.self.view_is s in
      let x : kept.Channel = c.index_mut.result.now in
      rest_seen g.M.Medium.seen c.args.self.now.medium c.say-in-Ok-None.new.self.medium c.self.inside.volume c.write_record.new.volume (ap (λ k. k.medium) c.self.view_is) c.say-in-Ok-None.ensures.medium (rest_on records_on old new x (slice_index_or c.args.self.now.channels c.args.channel Closed) (c.index_mut.ensures.value ∙ borrowed_at c.args.channel c.index_mut.result.now (ap (λ k. k.channels) c.self.view_is) (omega (arith, c.requires, c.self.invariant.count))) (put_rest old new c.self.inside.channels.items c.self.inside.telling c.self.inside.text m c.args.channel c.requires c.self.invariant st x c.write_record.new.self c.index_mut.result.now c.index_mut.ensures.value (take 256 c.args.bytes.now) c.args.bytes.now refl c.write_record.ensures.call.medium.tracks c.write_record.ensures.rest (λ none. ap g.M.Medium.seen (c.write_record.ensures.quiet none).2)));
  counted = (search rules);
  grounded = (search rules);
}
