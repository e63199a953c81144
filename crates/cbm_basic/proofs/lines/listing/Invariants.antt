use Rattle.std.proofs.Common.{◌≡◌, ◌++◌, length}
use Rattle.cbm_basic.specs.Lines.{listed_lines, basic_listing}
use Rattle.cbm_basic.proofs.lines.listing.Given as goal

abbrev pub invariant-lines : goal.invariant-lines
invariant-lines l = l.signs.items ++ listed_lines l.rest ≡ basic_listing l.program

abbrev pub decreases-lines : goal.decreases-lines
decreases-lines l = length l.rest
