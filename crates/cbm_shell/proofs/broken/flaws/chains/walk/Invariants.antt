use Rattle.std.proofs.Common.{◌≡◌, ◌≤◌, ◌-◌, ◌++◌, length}
use Rattle.cbm_bam.specs.Marks.{is_marked}
use Rattle.cbm_shell.specs.Flaws.{flaws_along, chain_from}
use Rattle.cbm_shell.proofs.FlawLemmas.{Leads}
use Rattle.cbm_shell.proofs.broken.flaws.chains.walk.Given as goal

abbrev pub invariant-loop-before : goal.invariant-loop-before
invariant-loop-before g l =
    let rest = flaws_along l.whose l.geometry (g.M.Medium.seen l.medium).content (768 - l.before) l.before (is_marked l.found.claimed) l.at in
    let whole = chain_from l.fn.whose l.fn.geometry (g.M.Medium.seen l.fn.medium).content (is_marked l.fn.found.claimed) l.fn.first in
    Leads rest whole l.fn.found.flaws.items l.found.flaws.items × (l.blocks.items ++ rest.blocks ≡ whole.blocks) × (length l.blocks.items ≤ l.before)
