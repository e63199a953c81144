-- A DOS with no channel open is what its four parts say.
use Rattle.std.proofs.Common.{◌≡◌, None, replicate}
use Rattle.cbm_channel.specs.Standing.{Kept}
use Rattle.cbm_channel.specs.declared.channel.Channel.TheVariants.{Closed}
use Rattle.cbm_machine.specs.Told.{ToldStatus}
use Rattle.cbm_drive.specs.Afresh.{all_closed}

pub all_closed_is : {M : Type 0} (k : Kept M) (medium : M) (told : ToldStatus) → k.medium ≡ medium → k.channels ≡ replicate 15 Closed → k.told ≡ told → k.text ≡ None → k ≡ all_closed medium told
all_closed_is k medium told m c t x = λ i. record { medium = m i; channels = c i; told = t i; text = x i }
