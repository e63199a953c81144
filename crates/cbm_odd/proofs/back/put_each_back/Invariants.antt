use Rattle.std.proofs.Common.{◌≡◌, drop}
use Rattle.cbm_shell.specs.declared.fault.ShellFault.{ShellFault}
use Rattle.cbm_odd.specs.Back.{IsNotBackFrom}
use Rattle.cbm_odd.proofs.AwayLemmas.{Backing}
use Rattle.cbm_odd.proofs.back.put_each_back.Given as goal

abbrev pub invariant-loop-odd : goal.invariant-loop-odd
invariant-loop-odd g l =
    let old = g.M.Medium.seen l.initial.medium in
    let now = g.M.Medium.seen l.medium in
    let left = drop l.odd-index l.odds in
    Backing l.geometry l.odds old.content left now.content × (now.tracks ≡ old.tracks)
    × ((f : ShellFault) → IsNotBackFrom l.geometry left now.content f → IsNotBackFrom l.geometry l.odds old.content f)
    × (now.outside ≡ old.outside)
