use Rattle.std.proofs.Common.{◌≡◌, ◌<◌, drop}
use Rattle.cbm_file.specs.Files.{Disk}
use Rattle.cbm_volume.specs.Holding.{HoldsDisk}
use Rattle.cbm_shell.specs.Images.{IsSoundDisk}
use Rattle.cbm_channel.specs.Going.{IsOutsideKept}
use Rattle.cbm_shell.specs.Several.{any_formats}
use Rattle.cbm_shell.proofs.SeveralLemmas.{UnderWay}
use Rattle.cbm_shell.proofs.changing.several.changed_by.Given as goal

-- the changes that are left, after those that were made, are the whole
abbrev pub invariant-loop-change : goal.invariant-loop-change
invariant-loop-change g l =
    let old = g.M.Medium.seen l.fn.medium in
    let now = g.M.Medium.seen l.disk in
    (now.protected ≡ old.protected) × (now.tracks ≡ old.tracks)
    × ((d : Disk) → HoldsDisk old.tracks old.content d → UnderWay (drop l.change-index l.changes) l.fn.changes old.protected old.tracks d now)
    × (l.change-index ≡ 0 → l.disk ≡ l.fn.medium) × (0 < l.change-index → IsSoundDisk old.tracks old.content)
    × IsOutsideKept (any_formats l.fn.changes) old.outside now.outside
