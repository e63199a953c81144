use Rattle.std.proofs.Common.{ℕ, [], ◌∷◌, ◌++◌, sym, ◌∙◌, subst, Option}
use Rattle.cbm_drive.proofs.Firsts.{FirstOf, first_stays, first_before, first_then, sooner_than}
use Rattle.cbm_drive.proofs.drives.or_sooner.Goals as goal

-- nothing is due to it
pub returns-in_default-clause-first : goal.returns-in_default-clause-first
returns-in_default-clause-first g c = λ xs at h. first_stays xs c.args.drive.now c.args.first c.in_default.ensures h

-- something is due before, or at the same moment
pub returns-in-Some-first-clause-first : goal.returns-in-Some-first-clause-first
returns-in-Some-first-clause-first g c = λ xs at h.
    subst (λ (o : Option (ℕ × ℕ)). FirstOf (xs ++ c.args.drive.now ∷ []) o) (sym c.in-Some-first.is)
    (first_before xs c.args.drive.now c.in-Some-first.field-0-0 c.in-Some-first.before c.in-Some.moment c.in-Some.ensures c.if-before-moment.true (subst (λ (o : Option (ℕ × ℕ)). FirstOf xs o) c.in-Some-first.is h))

-- it is sooner
pub returns-in_default-first-clause-first : goal.returns-in_default-first-clause-first
returns-in_default-first-clause-first g c = λ xs at h.
    first_then xs c.args.drive.now c.args.first c.args.place c.in-Some.moment c.in-Some.ensures at
    (λ n t e. sooner_than n t c.in-Some-first.field-0-0 c.in-Some-first.before c.in-Some.moment (sym e ∙ c.in-Some-first.is) c.if-before-moment.false) h

-- nothing else is due
pub returns-in_default-first-2-clause-first : goal.returns-in_default-first-2-clause-first
returns-in_default-first-2-clause-first g c = λ xs at h.
    first_then xs c.args.drive.now c.args.first c.args.place c.in-Some.moment c.in-Some.ensures at (λ n t e. absurd (let z = sym e ∙ c.in_default-first.is in cc)) h
