use Rattle.std.proofs.Common.{sym, subst}
use Rattle.cbm_volume.specs.Loose.{IsSpared}
use Rattle.cbm_channel.specs.Standing.{channel_bytes, use_of}
use Rattle.cbm_channel.proofs.channel.Channel.spare.Goals as goal

-- whatever bytes the machine has there
pub returns-in-Writing-clause-spares : goal.returns-in-Writing-clause-spares
returns-in-Writing-clause-spares g c = λ p free y.
    subst (λ k. IsSpared (g.M.Medium.seen c.args.volume.now).content p (use_of k y)) (sym c.in-Writing.is) (λ places wrote few. c.spare_written.ensures.spares p free places (channel_bytes y) wrote few)
