use Rattle.cbm_volume.proofs.checked.PlainSound.{sound_plain, plain_sound}
use Rattle.cbm_volume.proofs.laws.is_sound_by_its_sectors.Goals as goal

pub returns : goal.returns
returns c = λ tracks content wide. ((λ x. sound_plain tracks content x.0 x.1 wide), (λ k. plain_sound tracks content k))
