use Rattle.std.proofs.Common.{length}
use Rattle.cbm_command.proofs.command_text.+more_names.Given as goal

abbrev pub decreases-more_names : goal.decreases-more_names
decreases-more_names l = length l.text.now
