use Rattle.std.proofs.Common.{◌-◌, ◌≡◌}
use Rattle.cbm_channel.specs.Standing.{Stands}
use Rattle.cbm_talk.proofs.SayingLemmas.{Sends}
use Rattle.cbm_talk.proofs.saying.said.Given as goal

abbrev pub invariant-bytes : goal.invariant-bytes
invariant-bytes g l = Sends (Stands g.M.Medium.seen l.fn.dos) (Stands g.M.Medium.seen l.dos) l.most (l.most - l.done) l.channel l.bytes.items × (l.dos.medium ≡ l.fn.dos.medium)
