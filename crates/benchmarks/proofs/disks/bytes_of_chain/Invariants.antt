use Rattle.std.proofs.Common.{◌≤◌}
use Rattle.benchmarks.proofs.disks.bytes_of_chain.Given as goal

abbrev pub invariant-bytes : goal.invariant-bytes
invariant-bytes g l = l.reader.tracks ≤ (g.M.Medium.seen l.disk).tracks
