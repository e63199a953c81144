use Rattle.cbm_basic.proofs.SignLemmas.{letters-more, letters-none, letters-space}
use Rattle.cbm_basic.proofs.sign.add_letters.Goals as goal

pub returns-then-letter-eq-SPACE : goal.returns-then-letter-eq-SPACE
returns-then-letter-eq-SPACE c =
    letters-space c.letters.signs.items _ c.letters.rest.now c.in-Some.afterwards.now _ c.letters.invariant c.in-Some.ensures.cases.0 c.if-letter-eq-SPACE.true

pub letters-preserved : goal.letters-preserved
letters-preserved c =
    letters-more c.letters.signs.items _ _ c.letters.rest.now c.in-Some.afterwards.now _ c.letters.invariant c.in-Some.ensures.cases.0 c.if-letter-eq-SPACE.false c.in_ok-add.ensures

pub returns : goal.returns
returns c = letters-none c.letters.signs.items _ c.letters.rest.now c.letters.invariant c.in_default.ensures.cases
