use Rattle.std.proofs.Common.{rules, ◌<◌, ◌∙◌, arith, ap, inl, sym, false}
use Rattle.cbm_machine.specs.Calls.{put}
use Rattle.cbm_channel.specs.Going.{put_written}
use Rattle.cbm_channel.proofs.Asked.{below_15, put_15, put_records, put_other}
use Rattle.cbm_channel.specs.Shown.{has_records}
use Rattle.cbm_channel.proofs.Stands.{borrowed_at, stood, stands_here}
use Rattle.cbm_channel.proofs.Goings.{part_same, one_part, keeps_same}
use Rattle.cbm_channel.proofs.Rest.{rest_itself}
use Rattle.cbm_channel.proofs.dos.Dos.put.Goals as goal

-- a text for channel 15
pub returns-then-channel-eq15-clause-goes : goal.returns-then-channel-eq15-clause-goes
returns-then-channel-eq15-clause-goes g c = λ m s.
    (_, one_part (g.M.Medium.seen c.args.self.now.medium) (g.M.Medium.seen c.gather.new.self.medium) c.args.channel (put c.args.channel c.args.byte) m _ (keeps_same {formats = false} _ _ (ap g.M.Medium.seen c.gather.ensures.only.medium)).counted (inl (sym (put_15 c.args.channel c.args.byte m c.if-channel-eq15.true))), c.gather.ensures.leads m s)

-- a text for records
pub returns-then-has_records-clause-goes : goal.returns-then-has_records-clause-goes
returns-then-has_records-clause-goes g c = λ m s.
    let st = stood g.M.Medium.seen _ _ m c.self.view_is s in
    let lt : c.args.channel < 15 = omega (arith, c.requires, c.if-channel-eq15.false) in
    let at = stands_here _ _ _ _ _ _ m c.args.channel c.index.result.now c.index.ensures lt c.self.invariant st in
    let law = put_records c.args.channel m _ (below_15 c.args.channel lt) at c.args.byte (sym c.has_records.ensures ∙ c.if-has_records.true) in
    (_, one_part (g.M.Medium.seen c.args.self.now.medium) (g.M.Medium.seen c.gather-then-has_records.new.self.medium) c.args.channel (put c.args.channel c.args.byte) m _ (keeps_same {formats = false} _ _ (ap g.M.Medium.seen c.gather-then-has_records.ensures.only.medium)).counted (inl (sym law)), c.gather-then-has_records.ensures.leads m s)

-- a file
pub returns-else-has_records-clause-goes : goal.returns-else-has_records-clause-goes
returns-else-has_records-clause-goes g c = λ m s.
    let st = stood g.M.Medium.seen _ _ m c.self.view_is s in
    let lt : c.args.channel < 15 = omega (arith, c.requires, c.if-channel-eq15.false) in
    let at = stands_here _ _ _ _ _ _ m c.args.channel c.index.result.now c.index.ensures lt c.self.invariant st in
    let next = c.store.ensures.goes m s in
    let law = put_other c.args.channel m _ (below_15 c.args.channel lt) at c.args.byte (sym c.has_records.ensures ∙ c.if-has_records.false) in
    (next.0, one_part (g.M.Medium.seen c.args.self.now.medium) (g.M.Medium.seen c.store.new.self.medium) c.args.channel (put c.args.channel c.args.byte) m next.0 c.store.ensures.leaves.medium.counted (part_same _ c.args.channel (put_written c.args.channel c.args.byte) (put c.args.channel c.args.byte) m next.0 law next.1), next.2)

-- ---- what it leaves, on any disk

pub returns-then-channel-eq15-clause-leaves : goal.returns-then-channel-eq15-clause-leaves
returns-then-channel-eq15-clause-leaves g c = record {
  medium = (search rules);
  rest = λ m s. rest_itself _ _ (ap g.M.Medium.seen c.gather.ensures.only.medium);
  counted = (search rules);
  grounded = (search rules);
}

pub returns-then-has_records-clause-leaves : goal.returns-then-has_records-clause-leaves
returns-then-has_records-clause-leaves g c = record {
  medium = (search rules);
  rest = λ m s. rest_itself _ _ (ap g.M.Medium.seen c.gather-then-has_records.ensures.only.medium);
  counted = (search rules);
  grounded = (search rules);
}

pub returns-else-has_records-clause-leaves : goal.returns-else-has_records-clause-leaves
returns-else-has_records-clause-leaves g c = record {
  medium = (search rules);
  rest = c.store.ensures.leaves.rest;
  counted = (search rules);
  grounded = (search rules);
}

-- ---- the byte, on any disk

pub returns-then-channel-eq15-clause-done : goal.returns-then-channel-eq15-clause-done
returns-then-channel-eq15-clause-done g c = λ lt none. absurd (omega (arith, lt, c.if-channel-eq15.true))

pub returns-then-has_records-clause-done : goal.returns-then-has_records-clause-done
returns-then-has_records-clause-done g c = λ lt none.
    let same = c.index.ensures ∙ borrowed_at c.args.channel c.index.result.now (ap (λ k. k.channels) c.self.view_is) (omega (arith, lt, c.self.invariant.count)) in
    let z = sym c.if-has_records.true ∙ c.has_records.ensures ∙ ap has_records same ∙ none in absurd (cc)

pub returns-else-has_records-clause-done : goal.returns-else-has_records-clause-done
returns-else-has_records-clause-done g c = λ lt none. c.store.ensures.done
