use Rattle.std.proofs.Common.{◌≡◌, ◌++◌}
use Rattle.cbm_shell.specs.Flaws.{header_flaws}
use Rattle.cbm_shell.proofs.broken.flaws.headers.add_headers.Given as goal

abbrev pub invariant-loop-track : goal.invariant-loop-track
invariant-loop-track g l = l.out.items ≡ l.fn.out.items ++ header_flaws (g.M.Medium.seen l.medium).content l.track
