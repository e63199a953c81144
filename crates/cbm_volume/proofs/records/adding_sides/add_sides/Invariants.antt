use Rattle.std.proofs.Common.{◌≤◌, Ok}
use Rattle.cbm_medium.specs.Seen.{OnlyContent}
use Rattle.cbm_volume.proofs.grown.SidesAnswers.{GoesBy, OfRoomFor}
use Rattle.cbm_volume.proofs.records.adding_sides.add_sides.Given as goal

-- the file has so many side sectors so far
abbrev pub invariant-loop-number : goal.invariant-loop-number
invariant-loop-number g l =
    GoesBy (g.M.Medium.seen l.initial.medium).tracks (g.M.Medium.seen l.initial.medium) (g.M.Medium.seen l.medium) l.geometry (OfRoomFor l.file l.sides l.all) (OfRoomFor l.file l.number l.all) (λ p q. p)
    × OnlyContent {A = Unit {0}} l.geometry (Ok tt) (g.M.Medium.seen l.initial.medium) (g.M.Medium.seen l.medium) × (l.sides ≤ l.number)
