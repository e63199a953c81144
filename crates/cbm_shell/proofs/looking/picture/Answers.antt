use Rattle.std.proofs.Common.{◌≡◌, ℕ}
use Rattle.std.specs.Prelude.{IfOk}
use Rattle.cbm_medium.specs.Content.{Content}
use Rattle.cbm_bam.specs.Map.{geometry_of}
use Rattle.cbm_image.specs.AnyDisks.{any_seen}
use Rattle.cbm_shell.specs.Mapping.{picture_of}
use Rattle.cbm_shell.proofs.ImageLemmas.{of_image, memory_alone}
use Rattle.cbm_shell.proofs.looking.picture.Goals as goal

pub returns-clause-ok : goal.returns-clause-ok
returns-clause-ok c =
    of_image (λ (n : ℕ) (t : Content). IfOk c.picture_of.result (λ v. v.items ≡ picture_of (geometry_of n t) t))
    c.args.image.now (any_seen c.in_ok-disk.disk) c.in_ok-disk.ensures.ok c.picture_of.ensures.ok

pub returns-clause-err : goal.returns-clause-err
returns-clause-err c = memory_alone c.args.image.now c.picture_of.result c.picture_of.ensures.err
