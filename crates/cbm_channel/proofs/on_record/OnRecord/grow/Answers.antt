use Rattle.std.proofs.Common.{subst, inl, refl}
use Rattle.std.specs.Prelude.{◌==◌}
use Rattle.cbm_channel.proofs.RecordPuts.{no_place, grows_by}
use Rattle.cbm_channel.specs.ChannelCalls.{OfPlaced, KeepsRest}
use Rattle.cbm_channel.proofs.Rest.{rest_itself, growth_rest}
use Rattle.cbm_channel.specs.PlaceCalls.{GrowsToPlace}
use Rattle.cbm_channel.proofs.on_record.OnRecord.grow.Goals as goal

-- a place has no number 0
pub returns-then-self-eq0-clause-grown : goal.returns-then-self-eq0-clause-grown
returns-then-self-eq0-clause-grown g c = λ d uses b s rs can none. absurd (no_place _ _ d uses _ c.args.self.now b s rs c.self.view_is can (inl c.if-self-eq0.true))

pub returns-clause-grown : goal.returns-clause-grown
returns-clause-grown g c =
    subst (λ r. GrowsToPlace (g.M.Medium.seen c.args.volume.now) (g.M.Medium.seen c.grow_records.new.self) r c.grow_records.result) c.self.view_is
    (λ d uses b s rs can none. (let call = c.grow_records.ensures.call d uses _ b s rs can.has in
    grows_by (g.M.Medium.seen c.args.volume.now) (g.M.Medium.seen c.grow_records.new.self) d uses _ b s rs c.grow_records.result none call.grown call.full call.stopped))

-- ---- the rest of the disk

pub returns-then-self-eq0-clause-rest : goal.returns-then-self-eq0-clause-rest
returns-then-self-eq0-clause-rest g c = λ d uses b s rs can. rest_itself _ _ refl

pub returns-clause-rest : goal.returns-clause-rest
returns-clause-rest g c =
    subst (λ r. OfPlaced (g.M.Medium.seen c.args.volume.now) r (λ d uses b s rs. KeepsRest (g.M.Medium.seen c.args.volume.now) (g.M.Medium.seen c.grow_records.new.self) (λ n. r.slot == n))) c.self.view_is
    (λ d uses b s rs can. growth_rest c.grow_records.result (g.M.Medium.seen c.args.volume.now) (g.M.Medium.seen c.grow_records.new.self) d uses _ _ b s rs _ c.grow_records.ensures.only refl can.has.holds (c.grow_records.ensures.call d uses _ b s rs can.has))
