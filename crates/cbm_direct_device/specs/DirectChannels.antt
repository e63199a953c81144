-- Bytes to a channel of a drive with direct access and from it by calls.
use Rattle.std.specs.Prelude.{ℕ, ◌≡◌, Bool, List, Option}
use Rattle.cbm_iec.specs.Machines.{IsShownAfter}
use Rattle.cbm_iec.specs.declared.machine.Act.{Act}
use Rattle.cbm_direct_desk.specs.DirectDesks.{DirectAddressed, direct_desk_shows}
use Rattle.cbm_device.specs.Channels.{IsToldAll, Talks}
use Rattle.cbm_device.specs.ImageDisks.{Counted}
use Rattle.cbm_direct_device.specs.DirectDevices.{DirectOnLines, vouch_in}

-- IT IS TOLD AN ACT by a call: what it shows then is what a machine may show that acts so, and what is known of its disk stays.
pub record DirectIsTold (act : Act) (old new : DirectAddressed Counted) : Type 0 where
  pub shown : IsShownAfter act (direct_desk_shows old) (direct_desk_shows new)
  pub vouch : new.dos.vouched.vouch ≡ old.dos.vouched.vouch

-- this is what it shows
abbrev pub DirectShows : DirectAddressed Counted → Option (ℕ × Bool) → Type 0
DirectShows x shown = shown ≡ direct_desk_shows x

-- A DRIVE WITH DIRECT ACCESS WAS TOLD ACTS BY A CALL: its port, what is known of its disk, the format of that and its latest moment stay.
pub record HasBeenToldDirect (acts : List Act) (old new : DirectOnLines) : Type 0 where
  pub machine : IsToldAll DirectIsTold acts old.seat.machine new.seat.machine
  pub port : new.seat.port ≡ old.seat.port
  pub vouch : vouch_in new ≡ vouch_in old
  pub kind : new.kind ≡ old.kind
  pub latest : new.latest ≡ old.latest

-- IT TALKED TO A CALL: these bytes were shown, one after another, and taken.
pub record HasTalkedDirect (channel most : ℕ) (bytes : List ℕ) (marked : Bool) (old new : DirectOnLines) : Type 0 where
  pub machine : Talks DirectIsTold DirectShows old.seat.port.party.device channel most bytes marked old.seat.machine new.seat.machine
  pub port : new.seat.port ≡ old.seat.port
  pub vouch : vouch_in new ≡ vouch_in old
  pub kind : new.kind ≡ old.kind
  pub latest : new.latest ≡ old.latest
