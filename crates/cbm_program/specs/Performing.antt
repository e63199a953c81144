-- A drive that carries out the requests of a script, and what it prints of them.
use Rattle.std.specs.Prelude.{ℕ, ◌≡◌, ◌+◌, ◌≤◌, List, Bool, Option, Result, OnOk, OnErr, IfErr}
use Rattle.cbm_machine.specs.Machines.{Machine, start}
use Rattle.cbm_file.specs.Files.{Disk}
use Rattle.cbm_host.specs.Engines.{channel_of}
use Rattle.cbm_host.specs.Hosted.{Rests, IsGoingOn, tracks_on}
use Rattle.cbm_host.specs.Performers.{Performing}
use Rattle.cbm_host.specs.Requests.{longest}
use Rattle.cbm_host.specs.Served.{served, IsModest}
use Rattle.cbm_host.specs.declared.request.Request.{Request}
use Rattle.cbm_medium.specs.Seen.{Seen}
use Rattle.cbm_volume.specs.Holding.{HoldsDisk}
use Rattle.cbm_program.specs.declared.fault.RunFault.{RunFault}
use Rattle.cbm_program.specs.Output.{AppendsMore, Prints, PrintsPart}
use Rattle.cbm_program.specs.Running.{IsOfWriting}
use Rattle.cbm_program.specs.Scripts.{Printed}
use Rattle.cbm_program.specs.Units.{PrintsRest, PrintsRestPart}
use Rattle.cbm_host.specs.KeptHostings.{KeptHosting}

module _ {M : Type 0} (seen : M → Seen) where
  -- the drive rests at power up, with each disk that a medium which shows this holds
  abbrev pub RestsOn : Seen → KeptHosting M → Type 0
  RestsOn shows drive = (d : Disk) → HoldsDisk shows.tracks shows.content d → Rests seen drive (start d shows.protected shows.tracks)

  -- THE DRIVE GOES ON after a request, which takes no longer than the longest one: at its pace, with a disk of as many tracks.
  pub record GoesOnHosting (was now : KeptHosting M) : Type 0 where
    pub soon : now.moment ≤ was.moment + longest was.pace
    pub pace : now.pace ≡ was.pace
    pub tracks : tracks_on seen now ≡ tracks_on seen was

  -- WHAT THE DRIVE'S MACHINE PRINTS was written, and the drive rests for the machine after it; at a fault, which is one of writing, a beginning of it was written.
  pub record HasPrinted {A : Type 0} (result : Result A RunFault) (old new : Option (List ℕ)) (was now : KeptHosting M) (step : Machine → Printed) : Type 0 where
    pub ok : OnOk result (Prints old new (Rests seen was) (Rests seen now) step)
    pub err : OnErr result (PrintsPart old new (Rests seen was) step)
    pub grows : AppendsMore old new
    pub fault : IfErr result IsOfWriting

  -- THE REST OF WHAT A CHANNEL SAYS was written, where a request is under way of which these bytes were taken; at a fault, which is one of writing, a beginning of it was written.
  pub record SaysRest {A : Type 0} (result : Result A RunFault) (old new : Option (List ℕ)) (was now : KeptHosting M) (performer : Performing) : Type 0 where
    pub ok : (m : Machine) (request : Request) (bytes : List ℕ) (last : Bool) → channel_of request ≤ 15 → IsModest request → IsGoingOn seen was performer m request bytes last
        → OnOk result (Rests seen now (served was.pace request m).machine × PrintsRest old new bytes last (served was.pace request m))
    pub err : (m : Machine) (request : Request) (bytes : List ℕ) (last : Bool) → channel_of request ≤ 15 → IsModest request → IsGoingOn seen was performer m request bytes last
        → OnErr result (PrintsRestPart old new bytes last (served was.pace request m))
    pub grows : AppendsMore old new
    pub fault : IfErr result IsOfWriting
