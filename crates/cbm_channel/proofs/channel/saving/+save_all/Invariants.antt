use Rattle.std.proofs.Common.{length}
use Rattle.cbm_channel.proofs.channel.saving.+save_all.Given as goal

abbrev pub decreases-save_all : goal.decreases-save_all
decreases-save_all l = length l.channels.now
