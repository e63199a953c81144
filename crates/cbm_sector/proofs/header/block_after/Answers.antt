use Rattle.std.proofs.Common.{◌∙◌, sym}
use Rattle.cbm_sector.proofs.Reading.{after_none, after_round, after_some}
use Rattle.cbm_sector.proofs.header.block_after.Goals as goal

pub returns-in_err-place-clause-none : goal.returns-in_err-place-clause-none
returns-in_err-place-clause-none c = rw c.from_residual.ensures (after_none c.args.track.now c.args.from (sym c.next_sync.ensures.value ∙ c.in_err-place.was))

pub returns-then-place-from-clause-none : goal.returns-then-place-from-clause-none
returns-then-place-from-clause-none c = after_round c.args.track.now c.args.from c.in_ok-place.place c.requires (sym c.next_sync.ensures.value ∙ c.in_ok-place.was) c.if-place-from.true

pub returns-clause-some : goal.returns-clause-some
returns-clause-some c = after_some c.args.track.now c.args.from c.in_ok-place.place c.requires (sym c.next_sync.ensures.value ∙ c.in_ok-place.was) c.if-place-from.false
