use Rattle.std.proofs.Common.{subst}
use Rattle.cbm_shell.specs.Images.{IsChecked}
use Rattle.cbm_shell.proofs.ImageLemmas.{as_checked}
use Rattle.cbm_shell.proofs.looking.facts.info_of.Goals as goal

pub returns-clause-check : goal.returns-clause-check
returns-clause-check g c =
    let seen = g.M.Medium.seen in
    subst (λ k. IsChecked (seen k).tracks (seen k).content c.check.result) c.open-volume.ensures
    (as_checked (seen c.open-volume.result).tracks (seen c.open-volume.result).content c.check.result c.check.ensures.sound c.check.ensures.err)
