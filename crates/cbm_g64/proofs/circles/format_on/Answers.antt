use Rattle.std.proofs.Common.{arith}
use Rattle.cbm_g64.proofs.Held.{fresh_content, fresh_id_for}
use Rattle.cbm_g64.proofs.circles.format_on.Goals as goal

pub returns-clause-blank : goal.returns-clause-blank
returns-clause-blank c = fresh_content c.args.id.now c.loop-i.tracks c.fits-id c.told-id (λ i h. c.loop-i.invariant i (omega arith))

pub returns-clause-id : goal.returns-clause-id
returns-clause-id c = fresh_id_for c.args.id.now c.loop-i.tracks c.fits-id c.told-id (λ i h. c.loop-i.invariant i (omega arith))
