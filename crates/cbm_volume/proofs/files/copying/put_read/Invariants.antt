use Rattle.std.proofs.Common.{◌≡◌, Ok}
use Rattle.cbm_medium.specs.Seen.{OnlyContent}
use Rattle.cbm_volume.specs.Copying.{PutsSome}
use Rattle.cbm_volume.proofs.copied.CopySteps.{IsReadOn}
use Rattle.cbm_volume.proofs.files.copying.put_read.Given as goal

-- the bytes so far are put
abbrev pub invariant-loop-passed : goal.invariant-loop-passed
invariant-loop-passed g l =
    IsReadOn (g.M.Medium.seen l.initial.medium) (g.M.Medium.seen l.medium) l.initial.chain l.chain l.initial.reader l.reader l.count l.passed
    × OnlyContent {A = Unit {0}} l.initial.chain.tracks (Ok tt) (g.M.Medium.seen l.initial.medium) (g.M.Medium.seen l.medium)
    × (l.chain.tracks ≡ l.initial.chain.tracks) × (l.reader.tracks ≡ l.initial.reader.tracks)
    × PutsSome (g.M.Medium.seen l.initial.medium).content (g.M.Medium.seen l.medium).content l.initial.chain l.chain
