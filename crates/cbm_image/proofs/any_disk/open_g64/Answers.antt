use Rattle.cbm_image.proofs.GcrImages.{refused_memory}
use Rattle.cbm_image.proofs.any_disk.open_g64.Goals as goal

pub returns-in-Err-Memory-clause-refused : goal.returns-in-Err-Memory-clause-refused
returns-in-Err-Memory-clause-refused c = refused_memory c.args.image.now (rw c.in-Err-Memory.field-0-is at c.in-Err-Memory.ensures.refused)
