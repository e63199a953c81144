use Rattle.std.proofs.Common.{length}
use Rattle.bus_wires.proofs.wires.+last_look.Given as goal

abbrev pub decreases-last_look : goal.decreases-last_look
decreases-last_look l = length l.looks.now
