use Rattle.std.proofs.Common.{◌≡◌, Ok}
use Rattle.cbm_medium.specs.Seen.{OnlyContent}
use Rattle.cbm_volume.specs.Copying.{PutsSome}
use Rattle.cbm_volume.proofs.copied.CopySteps.{IsCopiedOn}
use Rattle.cbm_volume.proofs.files.copying.put_files.Given as goal

-- the files so far are put
abbrev pub invariant-sources : goal.invariant-sources
invariant-sources g l =
    IsCopiedOn (g.M.Medium.seen l.initial.medium) (g.M.Medium.seen l.medium) l.initial.chain l.chain l.sources l.number-index
    × OnlyContent {A = Unit {0}} l.initial.chain.tracks (Ok tt) (g.M.Medium.seen l.initial.medium) (g.M.Medium.seen l.medium)
    × (l.chain.tracks ≡ l.initial.chain.tracks)
    × PutsSome (g.M.Medium.seen l.initial.medium).content (g.M.Medium.seen l.medium).content l.initial.chain l.chain
