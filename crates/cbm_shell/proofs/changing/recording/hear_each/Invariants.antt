use Rattle.std.proofs.Common.{drop}
use Rattle.std.specs.Prelude.{map, ◌==◌}
use Rattle.cbm_channel.specs.Standing.{Stands}
use Rattle.cbm_channel.specs.Going.{KeepsMedium}
use Rattle.cbm_shell.proofs.RecordLemmas.{Records}
use Rattle.cbm_shell.proofs.changing.recording.hear_each.Given as goal

abbrev pub invariant-loop-record : goal.invariant-loop-record
invariant-loop-record g l =
    Records (Stands g.M.Medium.seen l.initial.dos) (Stands g.M.Medium.seen l.dos) l.channel (map (λ r. r.now) l.records) (map (λ r. r.now) (drop l.record-index l.records))
    × KeepsMedium (l.channel == 15) (g.M.Medium.seen l.initial.dos.medium) (g.M.Medium.seen l.dos.medium)
