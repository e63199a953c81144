use Rattle.std.proofs.Common.{◌≡◌, ◌+◌, Bool}
use Rattle.cbm_machine.specs.Machines.{Machine}
use Rattle.cbm_host.specs.Hosted.{Rests, IsUnderWay, tracks_on}
use Rattle.cbm_host.specs.Progress.{left_of}
use Rattle.cbm_host.specs.Requests.{longest}
use Rattle.cbm_host.specs.declared.request.Request.TheVariants.{Status}
use Rattle.cbm_program.proofs.performing.status.status_line.Given as goal

-- the bytes so far are those that were taken
abbrev pub invariant-bytes : goal.invariant-bytes
invariant-bytes g l = record {
  under_way : (m : Machine) → Rests g.M.Medium.seen l.fn.drive m → (last : Bool) × IsUnderWay g.M.Medium.seen l.drive l.performer m Status l.line.items last;
  limit : l.performer.limit ≡ l.fn.drive.moment + longest l.fn.drive.pace;
  paced : l.drive.pace ≡ l.fn.drive.pace;
  tracks : tracks_on g.M.Medium.seen l.drive ≡ tracks_on g.M.Medium.seen l.fn.drive;
}

abbrev pub decreases-bytes : goal.decreases-bytes
decreases-bytes g l = left_of l.performer l.drive.bus
