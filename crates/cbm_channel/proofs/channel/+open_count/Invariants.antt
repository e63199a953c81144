use Rattle.std.proofs.Common.{length}
use Rattle.cbm_channel.proofs.channel.+open_count.Given as goal

abbrev pub decreases-open_count : goal.decreases-open_count
decreases-open_count l = length l.channels.now
