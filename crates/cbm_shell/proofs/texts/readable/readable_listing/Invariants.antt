use Rattle.std.proofs.Common.{◌≡◌, ◌++◌, length, string_bytes}
use Rattle.cbm_shell.specs.Readable.{readable_lines, readable}
use Rattle.cbm_shell.proofs.texts.readable.readable_listing.Given as goal

abbrev pub invariant-lines : goal.invariant-lines
invariant-lines l = string_bytes l.out ++ readable_lines l.charset l.rest ≡ readable l.charset l.bytes

abbrev pub decreases-lines : goal.decreases-lines
decreases-lines l = length l.rest
