use Rattle.std.proofs.Common.{length}
use Rattle.cbm_channel.proofs.channel.+any_uses.Given as goal

abbrev pub decreases-any_uses : goal.decreases-any_uses
decreases-any_uses l = length l.channels.now
