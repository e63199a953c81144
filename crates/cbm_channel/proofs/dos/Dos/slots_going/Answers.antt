use Rattle.std.proofs.Common.{refl, sym, ap, subst, ◌∙◌}
use Rattle.cbm_machine.specs.declared.code.Code.TheVariants.{Fine, FilesScratched}
use Rattle.cbm_channel.proofs.Refused.{never_told}
use Rattle.std.specs.Prelude.{Ok}
use Rattle.cbm_bam.specs.Map.{geometry_of}
use Rattle.cbm_directory.specs.Slots.{Gives, directory_of, listed_left}
use Rattle.cbm_volume.specs.Holding.{HoldsDisk, TellsOf}
use Rattle.cbm_channel.proofs.Stands.{means_of}
use Rattle.cbm_channel.proofs.Scratches.{numbers_same, gathered_all, never_broken}
use Rattle.cbm_channel.proofs.dos.Dos.slots_going.Goals as goal

pub returns-in_err-entry-clause-means : goal.returns-in_err-entry-clause-means
returns-in_err-entry-clause-means g c = λ m s.
    let now = c.args.self.now.medium in
    let vol = ap (λ k. k.medium) c.self.view_is in
    let tells = subst (λ v. TellsOf m.disk (directory_of (geometry_of (g.M.Medium.seen v).tracks (g.M.Medium.seen v).content) (g.M.Medium.seen v).content)) vol
    (subst (TellsOf m.disk) c.slots-slots.ensures.left (c.slots-slots.ensures.means m.disk (subst (λ v. HoldsDisk (g.M.Medium.seen v).tracks (g.M.Medium.seen v).content m.disk) (sym vol) (means_of _ _ _ _ _ _ m s)))) in
    absurd (never_broken _ _ m.disk _ _ _ _ _ c.in_err-entry.field-0.0 tells c.slots.invariant.1
    (ap (λ v. listed_left (g.M.Medium.seen v).content c.slots.slots) (sym vol) ∙ c.in_err-entry.ensures.gives.0))

pub returns-clause-means : goal.returns-clause-means
returns-clause-means g c = λ m s.
    let now = c.args.self.now.medium in
    let vol = ap (λ k. k.medium) c.self.view_is in
    let tells = subst (λ v. TellsOf m.disk (directory_of (geometry_of (g.M.Medium.seen v).tracks (g.M.Medium.seen v).content) (g.M.Medium.seen v).content)) vol
    (subst (TellsOf m.disk) c.slots-slots.ensures.left (c.slots-slots.ensures.means m.disk (subst (λ v. HoldsDisk (g.M.Medium.seen v).tracks (g.M.Medium.seen v).content m.disk) (sym vol) (means_of _ _ _ _ _ _ m s)))) in
    let end = subst (λ r. Gives (listed_left (g.M.Medium.seen c.self.inside.volume).content c.slots.slots) (listed_left (g.M.Medium.seen c.self.inside.volume).content c.next_slot.new.slots) (Ok r)) c.in_default.is c.in_ok-entry.ensures.gives in
    gathered_all _ _ _ _ _ _ _ c.slots.invariant.1 (ap (λ v. listed_left (g.M.Medium.seen v).content c.slots.slots) (sym vol) ∙ end.0)
    ∙ numbers_same c.args.self.now.channels m s.each c.args.patterns.now 0 m.disk.slots _ tells.each

-- ---- on any disk

pub returns-in_err-entry-clause-denied : goal.returns-in_err-entry-clause-denied
returns-in_err-entry-clause-denied g c = never_told c.from_residual.result c.in_err-entry.field-0.0 FilesScratched refl c.from_residual.ensures.1

pub returns-in_err-entry-clause-not_ok : goal.returns-in_err-entry-clause-not_ok
returns-in_err-entry-clause-not_ok g c = never_told c.from_residual.result c.in_err-entry.field-0.0 Fine refl c.from_residual.ensures.1
