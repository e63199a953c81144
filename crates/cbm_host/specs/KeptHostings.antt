-- A hosted drive above a medium, in a word for who doesn't stand on the DOS.
use Rattle.cbm_channel.specs.Standing.{Kept}
use Rattle.cbm_host.specs.Hosted.{Hosting}

-- what a hosted drive holds whose DOS has a medium of this kind
abbrev pub KeptHosting : Type 0 → Type 0
KeptHosting M = Hosting (Kept M)
