use Rattle.std.proofs.Common.{sym, ap, ◌∙◌, subst}
use Rattle.cbm_channel.proofs.Stands.{means_of}
use Rattle.cbm_volume.specs.Holding.{HoldsDisk}
use Rattle.cbm_drive.proofs.desk.Desk.into_medium.Goals as goal

-- it holds the disk of each machine that the DOS stood for
pub returns-clause-disk : goal.returns-clause-disk
returns-clause-disk g c = λ m stands.
    let seen = g.M.Medium.seen in
    let same = c.into_medium.ensures ∙ ap (λ x. x.medium) c.into_dos.ensures in
    subst (λ k. HoldsDisk (seen k).tracks (seen k).content m.disk) (sym same) (means_of _ _ _ _ _ _ m stands)
