use Rattle.std.proofs.Common.{subst, sym}
use Rattle.cbm_file.specs.Files.{Disk}
use Rattle.cbm_volume.specs.Holding.{HoldsDisk}
use Rattle.cbm_machine.specs.Machines.{start}
use Rattle.cbm_channel.specs.Standing.{Stands}
use Rattle.cbm_image.specs.AnyDisks.{any_seen}
use Rattle.cbm_shell.proofs.images.drive_of.Goals as goal

pub returns-clause-stands : goal.returns-clause-stands
returns-clause-stands c =
    let seen = any_seen in
    subst (λ x. (d : Disk) → HoldsDisk (seen x).tracks (seen x).content d → Stands seen c.new-2.result (start d (seen x).protected (seen x).tracks)) (sym c.new-2.ensures.medium) c.new-2.ensures.stands
