use Rattle.std.proofs.Common.{rules, sym, ◌∙◌, inl, refl}
use Rattle.cbm_machine.specs.Machines.{channel}
use Rattle.cbm_channel.specs.Going.{put_written, some_byte_put}
use Rattle.cbm_channel.proofs.Stores.{fills, fills_none}
use Rattle.cbm_channel.proofs.Goings.{part_same}
use Rattle.cbm_channel.proofs.Rest.{rest_itself}
use Rattle.cbm_channel.proofs.dos.Dos.fill.Goals as goal
use Rattle.std.specs.Prelude.{slice_index_or}
use Rattle.cbm_channel.specs.declared.channel.Channel.TheVariants.{Closed}
use Rattle.cbm_channel.proofs.BytesDone.{tested, not_tested, none_empty}

pub returns-then-is_empty-clause-goes : goal.returns-then-is_empty-clause-goes
returns-then-is_empty-clause-goes g c = λ m s.
    let next = c.store.ensures.goes m s in
    (next.0, part_same _ c.args.channel (put_written c.args.channel 13) (some_byte_put c.args.channel) m next.0 (fills c.args.channel (channel m c.args.channel) m (sym (c.is_empty.ensures.value m s) ∙ c.if-is_empty.true)) next.1, next.2)

pub returns-else-is_empty-clause-goes : goal.returns-else-is_empty-clause-goes
returns-else-is_empty-clause-goes g c = λ m s.
    (m, inl (sym (fills_none c.args.channel (channel m c.args.channel) m (sym (c.is_empty.ensures.value m s) ∙ c.if-is_empty.false))), s)

-- ---- what it leaves, on any disk

pub returns-then-is_empty-clause-leaves : goal.returns-then-is_empty-clause-leaves
returns-then-is_empty-clause-leaves g c = record {
  medium = (search rules);
  rest = c.store.ensures.leaves.rest;
  counted = (search rules);
  grounded = (search rules);
}

pub returns-else-is_empty-clause-leaves : goal.returns-else-is_empty-clause-leaves
returns-else-is_empty-clause-leaves g c = record {
  medium = (search rules);
  rest = λ m s. rest_itself _ _ refl;
  counted = (search rules);
  grounded = (search rules);
}

-- ---- the return, on any disk

pub returns-then-is_empty-clause-done : goal.returns-then-is_empty-clause-done
returns-then-is_empty-clause-done g c = tested _ _ c.is_empty.result _ c.is_empty.ensures.holds c.if-is_empty.true c.store.ensures.done

pub returns-else-is_empty-clause-done : goal.returns-else-is_empty-clause-done
returns-else-is_empty-clause-done g c = not_tested _ _ c.is_empty.result _ c.is_empty.ensures.holds c.if-is_empty.false refl

pub returns-then-is_empty-clause-quiet : goal.returns-then-is_empty-clause-quiet
returns-then-is_empty-clause-quiet g c = λ none.
    let z = sym c.if-is_empty.true ∙ c.is_empty.ensures.holds ∙ none_empty (slice_index_or c.args.self.now.channels c.args.channel Closed) none in absurd (cc)
