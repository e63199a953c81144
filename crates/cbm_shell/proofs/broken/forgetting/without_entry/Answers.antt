use Rattle.cbm_bam.specs.Map.{geometry_of}
use Rattle.cbm_image.specs.AnyDisks.{any_seen}
use Rattle.cbm_shell.proofs.ForgetLemmas.{image_cleared}
use Rattle.cbm_shell.proofs.broken.forgetting.without_entry.Goals as goal

pub returns-clause-cleared : goal.returns-clause-cleared
returns-clause-cleared c =
    let seen = any_seen in
    let old = seen c.args.volume in
    image_cleared (λ v. v.items) c.args.kind (geometry_of old.tracks old.content) c.args.slot old.content (seen c.in_ok-disk.disk) c.saved.result c.saved.ensures.ok c.in_ok-disk.ensures.cleared
