use Rattle.std.proofs.Common.{sym, ap, ◌∙◌, inl, inr}
use Rattle.cbm_volume.proofs.loose.looking.is_loose.Goals as goal

pub returns-in_default : goal.returns-in_default
returns-in_default g c = inl (c.in_default.field-0, c.in_default.ensures.err)

pub returns-then-has : goal.returns-then-has
returns-then-has g c = (let k = c.in-Ok.ensures.ok in inr (inl (k.0, ap (λ f. f c.args.at) k.1 ∙ sym c.has.ensures ∙ c.if-has.true)))

pub returns : goal.returns
returns g c = (let k = c.in-Ok.ensures.ok in (k.0, ap (λ f. f c.args.at) k.1 ∙ sym c.has.ensures ∙ c.if-has.false, sym c.has-2.ensures ∙ c.if-has-2.false))
