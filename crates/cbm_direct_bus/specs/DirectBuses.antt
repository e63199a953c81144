-- Drives with direct access on one bus.
use Rattle.std.specs.Prelude.{List, map}
use Rattle.cbm_direct.specs.declared.vouch.Vouch.{Vouch}
use Rattle.cbm_direct_desk.specs.DirectDesks.{DirectAddressed}
use Rattle.cbm_drive.specs.Seats.{Seated}

-- WHAT IS KNOWN OF THE DISKS in these drives, one after another
abbrev pub vouches_of : {M : Type 0} → List (Seated (DirectAddressed M)) → List Vouch
vouches_of xs = map (λ x. x.machine.dos.vouched.vouch) xs
