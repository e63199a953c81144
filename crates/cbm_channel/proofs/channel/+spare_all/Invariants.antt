use Rattle.std.proofs.Common.{length}
use Rattle.cbm_channel.proofs.channel.+spare_all.Given as goal

abbrev pub decreases-spare_all : goal.decreases-spare_all
decreases-spare_all g l = length l.channels.now
