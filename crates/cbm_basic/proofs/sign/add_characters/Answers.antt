use Rattle.cbm_basic.proofs.SignLemmas.{characters-more, characters-none}
use Rattle.cbm_basic.proofs.sign.add_characters.Goals as goal

pub codes-preserved : goal.codes-preserved
codes-preserved c =
    characters-more c.codes.signs.items _ _ c.codes.rest.now c.in-Some.afterwards.now _ c.codes.invariant c.in-Some.ensures.cases.0 c.in_ok-add.ensures

pub returns : goal.returns
returns c = characters-none c.codes.signs.items _ c.codes.rest.now c.codes.invariant c.in_default.ensures.cases
