use Rattle.std.proofs.Common.{◌≡◌, ℕ, Bool, Option, None, Ok, subst, MatchBool, refl, inl}
use Rattle.std.proofs.lemmas.Result.{err_from_is_err_and}
use Rattle.cbm_medium.specs.Content.{Content}
use Rattle.cbm_directory.specs.Slots.{directory_of}
use Rattle.cbm_directory.specs.Growth.{Grows, CannotGrow}
use Rattle.cbm_directory.specs.Empties.{FindsEmpty}
use Rattle.cbm_directory.proofs.Codes.{directory_never_26, found_never_26, directory_shown, found_shown}
use Rattle.cbm_medium.proofs.Sequences.{only_then, only_nothing}
use Rattle.cbm_directory.proofs.Emptied.{grown_then, grown_stopped, grown_refused}
use Rattle.cbm_directory.proofs.empty.empty_slot.Goals as goal
use Rattle.cbm_directory.proofs.empty.empty_slot.Given.{Over}

none_empty : (g : Over) (c : goal.After-first_empty-2 g) → FindsEmpty (directory_of c.args.geometry (g.M.Medium.seen c.args.medium.now).content) (Ok None)
none_empty g c = subst (λ (o : Option ℕ). FindsEmpty (directory_of c.args.geometry (g.M.Medium.seen c.args.medium.now).content) (Ok o)) c.in_default.is c.in_ok-slot.ensures

grows : (g : Over) (c : goal.After-first_empty-2 g) → Grows c.args.geometry (g.M.Medium.seen c.args.medium.now).content (g.M.Medium.seen c.grow.new.medium).content
grows g c =
    let old : Content = (g.M.Medium.seen c.args.medium.now).content in
    let new : Content = (g.M.Medium.seen c.grow.new.medium).content in
    subst (λ (b : Bool). MatchBool b (Grows c.args.geometry old new) (CannotGrow c.args.geometry old × (new ≡ old))) c.if-not-branch.false c.in_ok-grow.ensures.grown

pub returns-clause-taken : goal.returns-clause-taken
returns-clause-taken g c =
    grown_then c.args.geometry (g.M.Medium.seen c.args.medium.now).content (g.M.Medium.seen c.grow.new.medium).content c.first_empty-2.result (none_empty g c) (grows g c) c.first_empty-2.ensures

pub returns-clause-stopped : goal.returns-clause-stopped
returns-clause-stopped g c =
    grown_stopped c.args.geometry (g.M.Medium.seen c.args.medium.now).content (g.M.Medium.seen c.grow.new.medium).content c.first_empty-2.result (none_empty g c) (grows g c) c.first_empty-2.ensures

pub returns-clause-cause : goal.returns-clause-cause
returns-clause-cause g c =
    grown_refused c.args.geometry (g.M.Medium.seen c.args.medium.now) (g.M.Medium.seen c.grow.new.medium) c.first_empty-2.result (grows g c) c.first_empty-2.ensures

pub returns-clause-only : goal.returns-clause-only
returns-clause-only g c =
    only_then c.grow.result c.first_empty-2.result c.in_ok-grow.field-0 (g.M.Medium.seen c.args.medium.now) (g.M.Medium.seen c.grow.new.medium) c.in_ok-grow.was c.grow.ensures.only
    (found_never_26 c.args.geometry (g.M.Medium.seen c.grow.new.medium).content c.first_empty-2.result _ (λ q. g.met.M.Medium.codes c.grow.new.medium q) c.first_empty-2.ensures)
    (found_shown c.args.geometry (g.M.Medium.seen c.grow.new.medium) c.first_empty-2.result c.first_empty-2.ensures)

pub returns-in-Some-clause-taken : goal.returns-in-Some-clause-taken
returns-in-Some-clause-taken g c =
    inl (subst (λ (o : Option ℕ). FindsEmpty (directory_of c.args.geometry (g.M.Medium.seen c.args.medium.now).content) (Ok o)) c.in-Some.is c.in_ok-slot.ensures, refl)

-- what breaks the directory off is never told as protection
pub returns-in_err-slot-clause-only : goal.returns-in_err-slot-clause-only
returns-in_err-slot-clause-only g c =
    let p = err_from_is_err_and c.from_residual.result c.from_residual.ensures.1 in
    only_nothing c.from_residual.result (g.M.Medium.seen c.args.medium.now) (g.M.Medium.seen c.args.medium.now) (λ i. g.M.Medium.seen c.args.medium.now)
    (rw (p.1, p.2) (λ is. absurd (directory_never_26 c.args.geometry (g.M.Medium.seen c.args.medium.now).content c.in_err-slot.field-0.0 (λ q. g.met.M.Medium.codes c.args.medium.now q) c.in_err-slot.ensures.1 is)))
    (rw (p.1, p.2) (directory_shown c.args.geometry (g.M.Medium.seen c.args.medium.now) c.in_err-slot.field-0.0 c.in_err-slot.ensures.1))
