use Rattle.std.proofs.Common.{[], ◌∷◌, ◌++◌, sym, ap, ◌∙◌}
use Rattle.cbm_machine.specs.Calls.{without_return}
use Rattle.cbm_channel.proofs.Texts.{return_dropped, last_stays}
use Rattle.cbm_direct.proofs.reading.without_return.Goals as goal

pub returns-then-last-eq13 : goal.returns-then-last-eq13
returns-then-last-eq13 c =
    sym (ap without_return (c.in-Some.ensures.cases.0 ∙ ap (λ b. c.in-Some.front.now ++ b ∷ []) c.if-last-eq13.true) ∙ return_dropped c.in-Some.front.now)

pub returns-else-last-eq13 : goal.returns-else-last-eq13
returns-else-last-eq13 c =
    c.in-Some.ensures.cases.0 ∙ sym (ap without_return c.in-Some.ensures.cases.0 ∙ last_stays c.in-Some.front.now c.in-Some.last.now c.if-last-eq13.false)
