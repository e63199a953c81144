use Rattle.std.proofs.Common.{subst, inl, inr, refl}
use Rattle.std.specs.Prelude.{◌==◌}
use Rattle.cbm_volume.specs.RecordWrites.{IsRecordCall}
use Rattle.cbm_channel.specs.ChannelCalls.{OfPlaced, KeepsRest}
use Rattle.cbm_channel.proofs.RecordPuts.{no_place}
use Rattle.cbm_channel.proofs.on_record.OnRecord.write.Goals.{then-self-eq0-via-then-self-eq0, then-self-eq0-via-else-self-eq0+then-self-eq0-2}
use Rattle.cbm_channel.proofs.Rest.{rest_itself, record_rest}
use Rattle.cbm_channel.proofs.on_record.OnRecord.write.Goals as goal

-- a place has no number 0
pub returns-then-self-eq0-clause-put : goal.returns-then-self-eq0-clause-put
returns-then-self-eq0-clause-put g c = λ d uses b s rs can. absurd (no_place _ _ d uses _ c.args.self.now b s rs c.self.view_is can
    (elim c.then-self-eq0.branch [ then-self-eq0-via-then-self-eq0 w ↦ inl w.if-self-eq0.true | then-self-eq0-via-else-self-eq0+then-self-eq0-2 w ↦ inr w.if-self-eq0-2.true ]))

pub returns-clause-put : goal.returns-clause-put
returns-clause-put g c =
    subst (λ r. OfPlaced (g.M.Medium.seen c.args.volume.now) r (λ d uses b s rs. IsRecordCall c.write_record.result (g.M.Medium.seen c.args.volume.now) (g.M.Medium.seen c.write_record.new.self) d uses r.slot r.width b s rs r.number r.position c.args.bytes.now)) c.self.view_is
    (λ d uses b s rs can. c.write_record.ensures.put d uses _ b s rs can.has can.inside)

-- ---- the rest of the disk

pub returns-then-self-eq0-clause-rest : goal.returns-then-self-eq0-clause-rest
returns-then-self-eq0-clause-rest g c = λ d uses b s rs can. rest_itself _ _ refl

pub returns-clause-rest : goal.returns-clause-rest
returns-clause-rest g c =
    subst (λ r. OfPlaced (g.M.Medium.seen c.args.volume.now) r (λ d uses b s rs. KeepsRest (g.M.Medium.seen c.args.volume.now) (g.M.Medium.seen c.write_record.new.self) (λ n. r.slot == n))) c.self.view_is
    (λ d uses b s rs can. record_rest (λ x. x.cut) c.write_record.result (g.M.Medium.seen c.args.volume.now) (g.M.Medium.seen c.write_record.new.self) d uses _ _ b s rs _ _ c.args.bytes.now c.write_record.ensures.only refl can.has.holds (c.write_record.ensures.put d uses _ b s rs can.has can.inside).put (c.write_record.ensures.put d uses _ b s rs can.has can.inside).untouched)
