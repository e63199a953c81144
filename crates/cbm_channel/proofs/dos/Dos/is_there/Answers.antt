use Rattle.std.proofs.Common.{refl, sym, ap, subst, ◌∙◌}
use Rattle.cbm_machine.specs.declared.code.Code.TheVariants.{Fine}
use Rattle.cbm_channel.proofs.Refused.{never_told}
use Rattle.std.specs.Prelude.{Ok}
use Rattle.cbm_bam.specs.Map.{geometry_of}
use Rattle.cbm_directory.specs.Slots.{directory_of}
use Rattle.cbm_volume.specs.Holding.{HoldsDisk}
use Rattle.cbm_channel.proofs.Found.{named_as}
use Rattle.cbm_channel.proofs.Stands.{means_of}
use Rattle.cbm_channel.proofs.dos.Dos.is_there.Goals as goal

-- the directory of a sound disk doesn't break off
pub returns-in_err-find-clause-there : goal.returns-in_err-find-clause-there
returns-in_err-find-clause-there g c = λ m s.
    let whole = (c.in_err-find.ensures.means m.disk (subst (λ v. HoldsDisk (g.M.Medium.seen v).tracks (g.M.Medium.seen v).content m.disk) (sym c.volume.ensures) (means_of _ _ _ _ _ _ m s))).whole in
    let bad = sym whole ∙ c.in_err-find.ensures.finds.1 in absurd (cc)

pub returns-clause-there : goal.returns-clause-there
returns-clause-there g c = λ m s.
    ap Ok (c.is_some.ensures ∙ sym (named_as c.args.name.now m.disk (directory_of (geometry_of (g.M.Medium.seen c.volume.result.now).tracks (g.M.Medium.seen c.volume.result.now).content) (g.M.Medium.seen c.volume.result.now).content) c.in_ok-find.field-0 _
    (c.in_ok-find.ensures.means m.disk (subst (λ v. HoldsDisk (g.M.Medium.seen v).tracks (g.M.Medium.seen v).content m.disk) (sym c.volume.ensures) (means_of _ _ _ _ _ _ m s))) c.in_ok-find.ensures.finds refl))

-- ---- on any disk

pub returns-in_err-find-clause-denied : goal.returns-in_err-find-clause-denied
returns-in_err-find-clause-denied g c = never_told c.from_residual.result c.in_err-find.field-0.0 Fine refl c.from_residual.ensures.1
