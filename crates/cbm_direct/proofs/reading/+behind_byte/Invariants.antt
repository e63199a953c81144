use Rattle.std.proofs.Common.{length}
use Rattle.cbm_direct.proofs.reading.+behind_byte.Given as goal

abbrev pub decreases-behind_byte : goal.decreases-behind_byte
decreases-behind_byte l = length l.text.now
