use Rattle.std.proofs.Common.{ℕ}
use Rattle.std.specs.Prelude.{IfOk}
use Rattle.cbm_medium.specs.Content.{Content}
use Rattle.cbm_bam.specs.Map.{geometry_of}
use Rattle.cbm_image.specs.AnyDisks.{any_seen}
use Rattle.cbm_shell.specs.Freeing.{AreFreed}
use Rattle.cbm_shell.proofs.ImageLemmas.{of_image, memory_open}
use Rattle.cbm_shell.proofs.images.given_back.Goals as goal

pub returns-clause-err : goal.returns-clause-err
returns-clause-err c = memory_open c.args.image.now c.freed_by.result c.freed_by.ensures.err

pub returns-clause-ok : goal.returns-clause-ok
returns-clause-ok c =
    of_image (λ (n : ℕ) (t : Content). IfOk c.freed_by.result (λ f. AreFreed (geometry_of n t) t (any_seen c.args.new.now).content f.blocks.items f.takes_geos))
    c.args.image.now (any_seen c.in_ok-old.old) c.in_ok-old.ensures.ok c.freed_by.ensures.ok
