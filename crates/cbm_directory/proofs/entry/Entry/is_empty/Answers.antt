use Rattle.std.proofs.Common.{rules}
use Rattle.cbm_directory.proofs.entry.Entry.is_empty.Goals as goal

pub returns : goal.returns
returns c = search rules
