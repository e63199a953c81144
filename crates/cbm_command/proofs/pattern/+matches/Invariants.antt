use Rattle.std.proofs.Common.{length}
use Rattle.cbm_command.proofs.pattern.+matches.Given as goal

abbrev pub decreases-matches : goal.decreases-matches
decreases-matches l = length l.pattern.now
