use Rattle.cbm_relfile.proofs.Positions.{chain_most, chain_least}
use Rattle.cbm_volume.proofs.laws.blocks_bound_bytes.Goals as goal

pub returns : goal.returns
returns c = λ tracks content a blocks whole chain. (chain_least tracks content a blocks whole chain, chain_most tracks content a blocks whole chain)
