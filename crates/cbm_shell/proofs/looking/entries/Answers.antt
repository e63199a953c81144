use Rattle.std.proofs.Common.{◌≡◌, ℕ, None}
use Rattle.std.specs.Prelude.{IfOk, IfErr}
use Rattle.cbm_medium.specs.Content.{Content}
use Rattle.cbm_directory.specs.Slots.{directory_of}
use Rattle.cbm_bam.specs.Map.{geometry_of}
use Rattle.cbm_image.specs.AnyDisks.{any_seen}
use Rattle.cbm_shell.specs.Images.{IsOpenFault}
use Rattle.cbm_shell.specs.Reading.{IsReadFault}
use Rattle.cbm_shell.proofs.ImageLemmas.{of_image, or_other}
use Rattle.cbm_shell.proofs.looking.entries.Goals as goal

pub returns-clause-ok : goal.returns-clause-ok
returns-clause-ok c =
    of_image (λ (n : ℕ) (t : Content). IfOk c.entries_of.result (λ v. directory_of (geometry_of n t) t ≡ record { entries = v.items; trouble = None }))
    c.args.image.now (any_seen c.in_ok-disk.disk) c.in_ok-disk.ensures.ok c.entries_of.ensures.ok

pub returns-clause-err : goal.returns-clause-err
returns-clause-err c =
    or_other c.entries_of.result (IsOpenFault c.args.image.now) _
    (of_image (λ (n : ℕ) (t : Content). IfErr c.entries_of.result (IsReadFault (directory_of (geometry_of n t) t).trouble))
    c.args.image.now (any_seen c.in_ok-disk.disk) c.in_ok-disk.ensures.ok c.entries_of.ensures.err)
