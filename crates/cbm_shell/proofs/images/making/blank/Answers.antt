use Rattle.std.proofs.Common.{refl, inl, inr, subst, sym}
use Rattle.std.specs.Prelude.{IfOk}
use Rattle.cbm_shell.specs.declared.images.making.Form.{Form}
use Rattle.cbm_shell.specs.declared.images.making.Form.TheVariants as form
use Rattle.cbm_shell.specs.Making.{IsBlankImage}
use Rattle.cbm_shell.proofs.NewImages.{blank_if}
use Rattle.cbm_shell.proofs.images.making.blank.Goals as goal

pub returns-in-D64 : goal.returns-in-D64
returns-in-D64 c = subst (λ (f : Form). IfOk c.zeros.result (λ v. IsBlankImage f v.items)) (sym c.in-D64.is) (blank_if c.zeros.result (λ v. v.items) form.D64 174848 refl (inl refl) refl refl c.zeros.ensures)

pub returns-in-LongD64 : goal.returns-in-LongD64
returns-in-LongD64 c = subst (λ (f : Form). IfOk c.zeros-in-LongD64.result (λ v. IsBlankImage f v.items)) (sym c.in-LongD64.is) (blank_if c.zeros-in-LongD64.result (λ v. v.items) form.LongD64 196608 refl (inr (inr refl)) refl refl c.zeros-in-LongD64.ensures)
