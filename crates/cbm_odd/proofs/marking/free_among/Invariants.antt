use Rattle.std.proofs.Common.{◌≡◌, ◌++◌, drop}
use Rattle.cbm_medium.specs.Place.{directory_head}
use Rattle.cbm_odd.specs.Marking.{free_among}
use Rattle.cbm_odd.proofs.marking.free_among.Given as goal

abbrev pub invariant-loop-at : goal.invariant-loop-at
invariant-loop-at g l =
    let head = (g.M.Medium.seen l.medium).content directory_head in
    l.free.items ++ free_among head (drop l.at-index l.held) ≡ free_among head l.held
