use Rattle.std.proofs.Common.{◌≡◌, drop}
use Rattle.cbm_odd.proofs.AwayLemmas.{Putting}
use Rattle.cbm_odd.proofs.away.put_each_away.Given as goal

abbrev pub invariant-loop-odd : goal.invariant-loop-odd
invariant-loop-odd g l =
    let old = g.M.Medium.seen l.initial.medium in
    let now = g.M.Medium.seen l.medium in
    Putting l.geometry l.odds old.content (drop l.odd-index l.odds) now.content × (now.tracks ≡ old.tracks) × (now.outside ≡ old.outside)
