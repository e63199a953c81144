use Rattle.std.proofs.Common.{ℕ, ◌/◌, ◌%◌, List, set, subst}
use Rattle.cbm_directory.specs.EntryChanges.{IsCountedAs}
use Rattle.cbm_directory.proofs.Closed.{counted_as}
use Rattle.cbm_directory.proofs.entry.Entry.counted.Goals as goal

pub returns : goal.returns
returns c = subst (λ (e : List ℕ). IsCountedAs e (set (set c.self.inside.bytes 28 (c.args.blocks % 256)) 29 (c.args.blocks / 256)) c.args.blocks) c.self.view_is (counted_as c.self.inside.bytes c.args.blocks c.self.told)
