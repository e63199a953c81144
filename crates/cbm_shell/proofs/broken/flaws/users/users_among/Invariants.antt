use Rattle.std.proofs.Common.{◌≡◌, ◌++◌, drop}
use Rattle.cbm_shell.specs.Users.{users_among}
use Rattle.cbm_shell.proofs.broken.flaws.users.users_among.Given as goal

abbrev pub invariant-loop-entry : goal.invariant-loop-entry
invariant-loop-entry g l =
    let content = (g.M.Medium.seen l.medium).content in
    (l.out.items ++ users_among l.geometry content l.at l.slot (drop l.entry-index l.entries) ≡ users_among l.fn.geometry content l.fn.at 0 l.fn.entries)
    × (l.slot ≡ l.entry-index)
