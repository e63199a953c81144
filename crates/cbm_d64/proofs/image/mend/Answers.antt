use Rattle.std.proofs.Common.{◌≡◌, ap, sym, ◌∙◌, true}
use Rattle.std.specs.Prelude.{is_some}
use Rattle.cbm_d64.specs.Image.{code_of_error, error_at}
use Rattle.cbm_d64.proofs.Sectors.{sector-set, error-set_same, fault_told, mended_fault}
use Rattle.cbm_d64.proofs.image.mend.Goals as goal

-- where there is a fault, there are error bytes
pub returns-then-is_some-clause-sectors : goal.returns-then-is_some-clause-sectors
returns-then-is_some-clause-sectors c = λ j h. sector-set c.args.image.now c.args.place j 1
    (fault_told c.args.image.now c.args.place (ap is_some (sym c.code_at.ensures) ∙ sym c.is_some.ensures ∙ c.if-is_some.true)) h

pub returns-then-is_some-clause-error : goal.returns-then-is_some-clause-error
returns-then-is_some-clause-error c =
    let fault : is_some (code_of_error (error_at c.args.image.now c.args.place)) ≡ true
    = ap is_some (sym c.code_at.ensures) ∙ sym c.is_some.ensures ∙ c.if-is_some.true in
    error-set_same c.args.image.now c.args.place (fault_told c.args.image.now c.args.place fault) c.requires.place
    ∙ sym (mended_fault (error_at c.args.image.now c.args.place) fault)
