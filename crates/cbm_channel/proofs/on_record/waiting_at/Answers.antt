use Rattle.std.proofs.Common.{◌∙◌}
use Rattle.cbm_channel.proofs.OnRecords.{waits_is}
use Rattle.cbm_channel.proofs.on_record.waiting_at.Goals as goal

pub returns-in_err-read_record-clause-means : goal.returns-in_err-read_record-clause-means
returns-in_err-read_record-clause-means g c = λ d f w b s rs h at is. absurd (c.in_err-read_record.ensures.means d f w b s rs h at is)

pub returns-clause-means : goal.returns-clause-means
returns-clause-means g c = λ d f w b s rs h at is.
    waits_is w b s c.args.number rs _ c.if-number-eq0.false (c.waiting_of.ensures.same ∙ c.in_ok-read_record.ensures.means d f w b s rs h at is) c.waiting_of.ensures.whole
