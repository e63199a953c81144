use Rattle.std.proofs.Common.{◌≡◌, false, refl, inr, rules}
use Rattle.cbm_direct.specs.Buffered.{has_buffer}
use Rattle.cbm_direct.proofs.Handed.{handed_beside}
use Rattle.cbm_direct.proofs.direct.DirectDos.close.Goals as goal

-- the channel has no buffer
pub returns-else-has-clause-one : goal.returns-else-has-clause-one
returns-else-has-clause-one g c = λ less.
    let none : has_buffer c.args.channel c.args.self.now.buffers ≡ false = search rules in
    inr (none, handed_beside _ _ _ _ c.self.view_is (record { call = c.close-else-has.ensures.goes; buffers = refl; reply = refl }))
