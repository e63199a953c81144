use Rattle.cbm_medium.specs.Content.{written}
use Rattle.cbm_medium.proofs.Walks.{chain_same, same_apart}
use Rattle.cbm_medium.proofs.link.writes_elsewhere_change_no_chain.Goals as goal

pub returns : goal.returns
returns c = λ tracks content a blocks p bytes chain apart.
    chain_same tracks content (written content p bytes) a blocks (same_apart content p bytes blocks apart) chain
