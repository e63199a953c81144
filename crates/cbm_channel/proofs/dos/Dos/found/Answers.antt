use Rattle.std.proofs.Common.{refl, sym, subst, ◌∙◌}
use Rattle.cbm_channel.proofs.Refused.{never_told}
use Rattle.std.specs.Prelude.{Ok}
use Rattle.cbm_bam.specs.Map.{geometry_of}
use Rattle.cbm_directory.specs.Slots.{Finds, directory_of}
use Rattle.cbm_volume.specs.Holding.{HoldsDisk}
use Rattle.cbm_machine.specs.declared.code.Code.TheVariants.{Fine, WrongType, FileNotFound}
use Rattle.cbm_machine.specs.Finding.{found}
use Rattle.cbm_channel.specs.Sought.{is_sought}
use Rattle.cbm_channel.specs.Planned.{FoundAs}
use Rattle.cbm_channel.proofs.Found.{found_as, refused_as, found_none, named_as}
use Rattle.cbm_channel.proofs.Stands.{means_of}
use Rattle.cbm_channel.proofs.dos.Dos.found.Goals as goal

-- the directory of a sound disk doesn't break off
pub returns-in_err-slot-clause-found : goal.returns-in_err-slot-clause-found
returns-in_err-slot-clause-found g c = λ m s.
    let whole = (c.in_err-slot.ensures.means m.disk (subst (λ v. HoldsDisk (g.M.Medium.seen v).tracks (g.M.Medium.seen v).content m.disk) (sym c.volume.ensures) (means_of _ _ _ _ _ _ m s))).whole in
    let bad = sym whole ∙ c.in_err-slot.ensures.finds.1 in absurd (cc)

pub returns-in-Some-clause-found : goal.returns-in-Some-clause-found
returns-in-Some-clause-found g c = λ m s.
    let finds = subst (λ r. Finds (is_sought c.args.pattern.now c.args.kind) (directory_of (geometry_of (g.M.Medium.seen c.volume.result.now).tracks (g.M.Medium.seen c.volume.result.now).content) (g.M.Medium.seen c.volume.result.now).content) (Ok r)) c.in-Some.is c.in_ok-slot.ensures.finds in
    subst (λ v. FoundAs (g.M.Medium.seen v).tracks (g.M.Medium.seen v).content m.disk (found m.disk c.args.pattern.now c.args.kind) (Ok (record { slot = c.in-Some.slot; entry = c.in-Some.entry }))) c.volume.ensures
    (found_as (g.M.Medium.seen c.volume.result.now).tracks (g.M.Medium.seen c.volume.result.now).content c.args.pattern.now c.args.kind m.disk c.in-Some.slot c.in-Some.entry
    (c.in_ok-slot.ensures.means m.disk (subst (λ v. HoldsDisk (g.M.Medium.seen v).tracks (g.M.Medium.seen v).content m.disk) (sym c.volume.ensures) (means_of _ _ _ _ _ _ m s))) finds)

pub returns-in_err-find-clause-found : goal.returns-in_err-find-clause-found
returns-in_err-find-clause-found g c = λ m s.
    let whole = (c.in_err-find.ensures.means m.disk (subst (λ v. HoldsDisk (g.M.Medium.seen v).tracks (g.M.Medium.seen v).content m.disk) (sym c.volume-2.ensures) (means_of _ _ _ _ _ _ m s))).whole in
    let bad = sym whole ∙ c.in_err-find.ensures.finds.1 in absurd (cc)

-- the name is there, and has none of the type
pub returns-then-is_some-clause-found : goal.returns-then-is_some-clause-found
returns-then-is_some-clause-found g c = λ m s.
    let first = subst (λ r. Finds (is_sought c.args.pattern.now c.args.kind) (directory_of (geometry_of (g.M.Medium.seen c.volume.result.now).tracks (g.M.Medium.seen c.volume.result.now).content) (g.M.Medium.seen c.volume.result.now).content) (Ok r)) c.in_default.is c.in_ok-slot.ensures.finds in
    let there = named_as c.args.pattern.now m.disk (directory_of (geometry_of (g.M.Medium.seen c.volume-2.result.now).tracks (g.M.Medium.seen c.volume-2.result.now).content) (g.M.Medium.seen c.volume-2.result.now).content) c.in_ok-find.field-0 _ (c.in_ok-find.ensures.means m.disk (subst (λ v. HoldsDisk (g.M.Medium.seen v).tracks (g.M.Medium.seen v).content m.disk) (sym c.volume-2.ensures) (means_of _ _ _ _ _ _ m s))) c.in_ok-find.ensures.finds (sym c.is_some.ensures ∙ c.if-is_some.true) in
    refused_as (g.M.Medium.seen c.args.self.now.medium).tracks (g.M.Medium.seen c.args.self.now.medium).content c.args.pattern.now c.args.kind m.disk WrongType c.plain.result
    (found_none c.args.pattern.now c.args.kind m.disk (directory_of (geometry_of (g.M.Medium.seen c.volume.result.now).tracks (g.M.Medium.seen c.volume.result.now).content) (g.M.Medium.seen c.volume.result.now).content) _ (c.in_ok-slot.ensures.means m.disk (subst (λ v. HoldsDisk (g.M.Medium.seen v).tracks (g.M.Medium.seen v).content m.disk) (sym c.volume.ensures) (means_of _ _ _ _ _ _ m s))) first.0 there) c.plain.ensures

-- the name isn't there
pub returns-clause-found : goal.returns-clause-found
returns-clause-found g c = λ m s.
    let first = subst (λ r. Finds (is_sought c.args.pattern.now c.args.kind) (directory_of (geometry_of (g.M.Medium.seen c.volume.result.now).tracks (g.M.Medium.seen c.volume.result.now).content) (g.M.Medium.seen c.volume.result.now).content) (Ok r)) c.in_default.is c.in_ok-slot.ensures.finds in
    let there = named_as c.args.pattern.now m.disk (directory_of (geometry_of (g.M.Medium.seen c.volume-2.result.now).tracks (g.M.Medium.seen c.volume-2.result.now).content) (g.M.Medium.seen c.volume-2.result.now).content) c.in_ok-find.field-0 _ (c.in_ok-find.ensures.means m.disk (subst (λ v. HoldsDisk (g.M.Medium.seen v).tracks (g.M.Medium.seen v).content m.disk) (sym c.volume-2.ensures) (means_of _ _ _ _ _ _ m s))) c.in_ok-find.ensures.finds (sym c.is_some.ensures ∙ c.if-is_some.false) in
    refused_as (g.M.Medium.seen c.args.self.now.medium).tracks (g.M.Medium.seen c.args.self.now.medium).content c.args.pattern.now c.args.kind m.disk FileNotFound c.plain-2.result
    (found_none c.args.pattern.now c.args.kind m.disk (directory_of (geometry_of (g.M.Medium.seen c.volume.result.now).tracks (g.M.Medium.seen c.volume.result.now).content) (g.M.Medium.seen c.volume.result.now).content) _ (c.in_ok-slot.ensures.means m.disk (subst (λ v. HoldsDisk (g.M.Medium.seen v).tracks (g.M.Medium.seen v).content m.disk) (sym c.volume.ensures) (means_of _ _ _ _ _ _ m s))) first.0 there) c.plain-2.ensures

-- ---- on any disk

pub returns-in_err-slot-clause-denied : goal.returns-in_err-slot-clause-denied
returns-in_err-slot-clause-denied g c = never_told c.from_residual.result c.in_err-slot.field-0.0 Fine refl c.from_residual.ensures.1

pub returns-in_err-find-clause-denied : goal.returns-in_err-find-clause-denied
returns-in_err-find-clause-denied g c = never_told c.from_residual-in_err-find.result c.in_err-find.field-0.0 Fine refl c.from_residual-in_err-find.ensures.1
