use Rattle.std.proofs.Common.{◌≡◌, ◌++◌}
use Rattle.cbm_shell.specs.Flaws.{header_flaws_on}
use Rattle.cbm_shell.proofs.broken.flaws.headers.add_track.Given as goal

abbrev pub invariant-loop-sector : goal.invariant-loop-sector
invariant-loop-sector g l = l.out.items ≡ l.fn.out.items ++ header_flaws_on (g.M.Medium.seen l.medium).content l.track l.sector
