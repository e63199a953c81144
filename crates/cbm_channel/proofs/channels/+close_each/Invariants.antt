use Rattle.std.proofs.Common.{length}
use Rattle.cbm_channel.proofs.channels.+close_each.Given as goal

abbrev pub decreases-close_each : goal.decreases-close_each
decreases-close_each l = length l.channels.now
