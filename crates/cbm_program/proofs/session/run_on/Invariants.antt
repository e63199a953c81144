use Rattle.std.proofs.Common.{ℕ, ◌≡◌, ◌-◌, ◌*◌, ◌<◌, ◌≤◌, List, Option, Ok}
use Rattle.std.specs.Prelude.{IfSome}
use Rattle.cbm_host.specs.Hosted.{Rests, tracks_on}
use Rattle.bus_traces.specs.Lines.{source_bytes_left}
use Rattle.cbm_program.specs.Output.{AppendsMore}
use Rattle.cbm_program.specs.Running.{LineRead, LineIsInRange}
use Rattle.cbm_program.proofs.RunLemmas.{RunningOn}
use Rattle.cbm_program.proofs.session.run_on.Given as goal

abbrev pub invariant-lines : goal.invariant-lines
invariant-lines g l = record {
  running : (input : Option (List ℕ)) → LineRead input (source_bytes_left g.R.Read.remaining l.initial.lines) 1 (Ok l.fn.first)
      → RunningOn l.initial.drive.pace (g.W.Write.contents l.initial.writer) (g.W.Write.contents l.writer) input (source_bytes_left g.R.Read.remaining l.lines) (Rests g.M.Medium.seen l.initial.drive) (Rests g.M.Medium.seen l.drive) l.number l.next;
  range : IfSome l.next LineIsInRange;
  few : l.number ≤ 1000001;
  fewer : IfSome l.next (λ line. l.number < 1000001);
  grown : AppendsMore (g.W.Write.contents l.initial.writer) (g.W.Write.contents l.writer);
  soon : l.drive.moment ≤ 320000000 * l.number;
  tracks : tracks_on g.M.Medium.seen l.drive ≡ tracks_on g.M.Medium.seen l.initial.drive;
  paced : l.drive.pace ≡ l.initial.drive.pace;
}

abbrev pub decreases-lines : goal.decreases-lines
decreases-lines g l = 1000001 - l.number
