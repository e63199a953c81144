use Rattle.std.proofs.Common.{◌≡◌, ◌+◌, ℕ, Bool, List, ◌≤◌}
use Rattle.cbm_machine.specs.Machines.{Machine}
use Rattle.cbm_drive.specs.Desks.{desk_shows}
use Rattle.cbm_host.specs.AnyDisk.{RestsAnyway, IsUnderWayAnyway}
use Rattle.cbm_host.specs.Hosted.{Rests, IsUnderWay, tracks_on, HasNotFailed, hosted_failures}
use Rattle.cbm_host.specs.Progress.{left_of}
use Rattle.cbm_host.specs.Requests.{longest}
use Rattle.cbm_host.specs.Served.{IsModest}
use Rattle.cbm_host.proofs.hosted.Hosted.carry_out.Given as goal

-- whatever was taken, the request goes on
abbrev pub invariant-bytes : goal.invariant-bytes
invariant-bytes g l = record {
  under_way : HasNotFailed g.M.Medium.seen l.fn.self l.self → (m : Machine) → IsModest l.fn.request → Rests g.M.Medium.seen l.fn.self m → (bytes : List ℕ) × (last : Bool) × IsUnderWay g.M.Medium.seen l.self l.performer m l.fn.request bytes last;
  counted : hosted_failures g.M.Medium.seen l.fn.self ≤ hosted_failures g.M.Medium.seen l.self;
  limit : l.performer.limit ≡ l.fn.self.moment + longest l.fn.self.pace;
  tracks : tracks_on g.M.Medium.seen l.self ≡ tracks_on g.M.Medium.seen l.fn.self;
  device : l.self.device ≡ l.fn.self.device;
  pace : l.self.pace ≡ l.fn.self.pace;
  anyway : RestsAnyway desk_shows l.fn.self → IsUnderWayAnyway desk_shows l.self.pace l.self.device l.fn.self.moment l.self.bus l.performer l.fn.request;
}

abbrev pub decreases-bytes : goal.decreases-bytes
decreases-bytes g l = left_of l.performer l.self.bus
