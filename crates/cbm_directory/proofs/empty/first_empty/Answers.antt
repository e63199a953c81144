use Rattle.std.proofs.Common.{ℕ, Option, Some, None, Ok, List, subst}
use Rattle.std.specs.Prelude.{◌==◌}
use Rattle.std.proofs.lemmas.Result.{err_from_is_err_and}
use Rattle.cbm_directory.specs.Entries.{type_byte}
use Rattle.cbm_directory.specs.Slots.{Listed, Finds, directory_of}
use Rattle.cbm_directory.proofs.Emptied.{first_is}
use Rattle.cbm_directory.proofs.empty.first_empty.Goals as goal

pub returns-in_err-number : goal.returns-in_err-number
returns-in_err-number g c =
    let p = err_from_is_err_and c.from_residual.result c.from_residual.ensures.1 in
    rw (p.1, p.2) (first_is 0 (directory_of c.args.geometry (g.M.Medium.seen c.args.medium.now).content).entries None c.in_err-number.ensures.0, c.in_err-number.ensures.1)

pub returns-in_default : goal.returns-in_default
returns-in_default g c =
    let listed : Listed = directory_of c.args.geometry (g.M.Medium.seen c.args.medium.now).content in
    let found : Finds (λ entry. type_byte entry == 0) listed (Ok None) = subst (λ (o : Option (ℕ × List ℕ)). Finds (λ entry. type_byte entry == 0) listed (Ok o)) c.in_default.is c.in_ok-number.ensures in
    (first_is 0 listed.entries None found.0, found.1)

pub returns : goal.returns
returns g c =
    let listed : Listed = directory_of c.args.geometry (g.M.Medium.seen c.args.medium.now).content in
    first_is 0 listed.entries (Some (c.in-Some.number, c.in-Some._entry))
    (subst (λ (o : Option (ℕ × List ℕ)). Finds (λ entry. type_byte entry == 0) listed (Ok o)) c.in-Some.is c.in_ok-number.ensures)
