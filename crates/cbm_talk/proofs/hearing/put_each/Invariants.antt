use Rattle.std.proofs.Common.{drop, false}
use Rattle.cbm_channel.specs.Standing.{Stands}
use Rattle.cbm_channel.specs.Going.{KeepsMedium}
use Rattle.cbm_talk.proofs.PutLemmas.{Puts}
use Rattle.cbm_talk.proofs.hearing.put_each.Given as goal

abbrev pub invariant-loop-byte : goal.invariant-loop-byte
invariant-loop-byte g l = Puts (Stands g.M.Medium.seen l.initial.dos)
    (Stands g.M.Medium.seen l.dos) l.channel l.bytes (drop l.byte-index l.bytes) × KeepsMedium false (g.M.Medium.seen l.initial.dos.medium) (g.M.Medium.seen l.dos.medium)
