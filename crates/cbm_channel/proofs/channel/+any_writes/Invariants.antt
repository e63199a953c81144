use Rattle.std.proofs.Common.{length}
use Rattle.cbm_channel.proofs.channel.+any_writes.Given as goal

abbrev pub decreases-any_writes : goal.decreases-any_writes
decreases-any_writes l = length l.channels.now
