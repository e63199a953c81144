use Rattle.std.proofs.Common.{◌≡◌, refl, sym, ap, subst, ◌∙◌}
use Rattle.std.specs.Prelude.{◌==◌, MatchResult}
use Rattle.cbm_medium.specs.Seen.{Seen}
use Rattle.cbm_channel.specs.ChannelCalls.{KeepsRest}
use Rattle.cbm_channel.specs.Placed.{Placed}
use Rattle.cbm_channel.specs.Recorded.{CanPut, IsTextEnded, IsTextStopped}
use Rattle.cbm_channel.proofs.RecordEnds.{placed_in}
use Rattle.cbm_channel.proofs.Rest.{rest_itself}
use Rattle.cbm_channel.proofs.channel.Channel.write_record.Goals as goal

pub returns-in-Records-clause-put : goal.returns-in-Records-clause-put
returns-in-Records-clause-put g c = λ r e d uses b s rs can.
    let old : Seen = g.M.Medium.seen c.args.volume.now in
    let new : Seen = g.M.Medium.seen c.write_record.new.volume in
    let same : c.in-Records.on ≡ r = ap (placed_in r) (sym c.in-Records.is ∙ e) in (
      c.write_record.new.self,
      refl,
      subst (λ (y : Placed). MatchResult c.write_record.result (IsTextEnded old new d uses y c.write_record.new.self b s rs c.args.bytes.now) (IsTextStopped old new d uses y c.write_record.new.self b s rs c.args.bytes.now)) same
          (c.write_record.ensures.put d uses b s rs (subst (λ (y : Placed). CanPut old.tracks old.content d uses y b s rs) (sym same) can)),
    )

-- ---- the rest of the disk

pub returns-in-Records-clause-rest : goal.returns-in-Records-clause-rest
returns-in-Records-clause-rest g c = λ r e d uses b s rs can.
    let old : Seen = g.M.Medium.seen c.args.volume.now in
    let same : c.in-Records.on ≡ r = ap (placed_in r) (sym c.in-Records.is ∙ e) in
    subst (λ (y : Placed). KeepsRest old (g.M.Medium.seen c.write_record.new.volume) (λ n. y.slot == n)) same
    (c.write_record.ensures.rest d uses b s rs (subst (λ (y : Placed). CanPut old.tracks old.content d uses y b s rs) (sym same) can))

pub returns-in_default-clause-rest : goal.returns-in_default-clause-rest
returns-in_default-clause-rest g c = λ r e d uses b s rs can. rest_itself _ _ refl
