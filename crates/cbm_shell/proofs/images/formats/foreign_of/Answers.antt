use Rattle.cbm_image.specs.Images.{kind_of}
use Rattle.cbm_shell.proofs.FormatLemmas.{refused_first}
use Rattle.cbm_shell.proofs.images.formats.foreign_of.Goals as goal

pub returns-clause-refused : goal.returns-clause-refused
returns-clause-refused c = refused_first (kind_of c.args.image.now) c.args.image.now (cc)
