use Rattle.std.proofs.Common.{◌∙◌, List, ℕ, subst}
use borrow.Rule.Slice.PartMut.{put_mid}
use Rattle.cbm_directory.specs.EntryChanges.{IsRenamedAs}
use Rattle.cbm_directory.proofs.Named.{renamed_as}
use Rattle.cbm_directory.proofs.entry.Entry.renamed.Goals as goal

pub returns-clause-says : goal.returns-clause-says
returns-clause-says c = subst (λ (e : List ℕ). IsRenamedAs e (put_mid 3 16 c.self.inside.bytes c.copy_from_slice.new.self) c.args.name.now) c.self.view_is
    (renamed_as c.self.inside.bytes c.copy_from_slice.new.self c.args.name.now c.self.told (c.copy_from_slice.ensures.after ∙ c.padded.ensures) c.requires)
