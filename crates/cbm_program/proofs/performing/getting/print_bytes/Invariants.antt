use Rattle.std.proofs.Common.{◌≡◌}
use Rattle.cbm_host.specs.Hosted.{tracks_on}
use Rattle.cbm_host.specs.Progress.{left_of}
use Rattle.cbm_program.specs.Output.{AppendsMore}
use Rattle.cbm_program.proofs.BytesPrinted.{Goes}
use Rattle.cbm_program.proofs.performing.getting.print_bytes.Given as goal

abbrev pub invariant-bytes : goal.invariant-bytes
invariant-bytes g l = record {
  goes : Goes g.M.Medium.seen (g.W.Write.contents l.fn.writer) (g.W.Write.contents l.writer) l.fn.drive l.fn.performer l.drive l.performer;
  limit : l.performer.limit ≡ l.fn.performer.limit;
  moment : l.drive.moment ≡ l.fn.drive.moment;
  paced : l.drive.pace ≡ l.fn.drive.pace;
  tracks : tracks_on g.M.Medium.seen l.drive ≡ tracks_on g.M.Medium.seen l.fn.drive;
  grown : AppendsMore (g.W.Write.contents l.fn.writer) (g.W.Write.contents l.writer);
}

abbrev pub decreases-bytes : goal.decreases-bytes
decreases-bytes g l = left_of l.performer l.drive.bus
