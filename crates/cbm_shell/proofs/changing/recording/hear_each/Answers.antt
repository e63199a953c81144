use Rattle.std.proofs.Common.{◌∙◌, ℕ, List, Err, Bor, ap, refl}
use Rattle.std.specs.Prelude.{map}
use Rattle.std.proofs.lemmas.Result.{err_from_is_err_and}
use Rattle.cbm_channel.specs.Standing.{Stands}
use Rattle.cbm_channel.proofs.Goings.{keeps_then, keeps_same}
use Rattle.cbm_shell.proofs.RecordLemmas.{records-start, records-on, records-stopped, next_off}
use Rattle.cbm_shell.proofs.changing.recording.hear_each.Goals as goal

pub loop-record-init : goal.loop-record-init
loop-record-init g c = (records-start (Stands g.M.Medium.seen c.args.dos.now) c.args.channel _ _ refl, keeps_same _ _ refl)

pub returns-in_err-told-clause-stopped : goal.returns-in_err-told-clause-stopped
returns-in_err-told-clause-stopped g c = λ m s.
    let stands = Stands g.M.Medium.seen in
    let p = err_from_is_err_and c.from_residual.result c.from_residual.ensures.1 in
    rw (p.1 ∙ ap Err p.2) (records-stopped (stands c.args.dos.now) (stands c.hear.new.dos) c.args.channel _ _ _ _
    (records-on (stands c.args.dos.now) (stands c.loop-record.dos) (stands c.hear.new.dos) c.args.channel _ _ _ _ c.loop-record.invariant.0
    (ap (λ (t : List (Bor (List ℕ))). map (λ r. r.now) t) (next_off c.args.records.now c.loop-record.record-index _ c.loop-record-test.true)) c.hear.ensures.leads)
    (λ n h. c.status.ensures.status n h) c.in_err-told.ensures.0 c.in_err-told.ensures.1 m s)

pub loop-record-preserved : goal.loop-record-preserved
loop-record-preserved g c =
    let stands = Stands g.M.Medium.seen in (
      records-on (stands c.args.dos.now) (stands c.loop-record.dos) (stands c.hear.new.dos) c.args.channel _ _ _ _ c.loop-record.invariant.0
          (ap (λ (t : List (Bor (List ℕ))). map (λ r. r.now) t) (next_off c.args.records.now c.loop-record.record-index _ c.loop-record-test.true)) c.hear.ensures.leads,
      keeps_then _ _ _ c.loop-record.invariant.1 c.hear.ensures.medium,
    )

-- ---- what it makes of the medium

pub returns-in_err-told-clause-medium : goal.returns-in_err-told-clause-medium
returns-in_err-told-clause-medium g c = keeps_then _ _ _ c.loop-record.invariant.1 c.hear.ensures.medium
