use Rattle.cbm_medium.specs.Seen.{Seen}
use Rattle.cbm_volume.specs.Copies.{IsCopyCut}
use Rattle.cbm_volume.proofs.copied.CopySteps.{handed}
use Rattle.cbm_volume.proofs.copied.CopyEnds.{begin_cut, begin_place, begin_ready}
use Rattle.cbm_volume.proofs.records_made.RecordsPlaced.{claims_cut, lacks_none, has_two}
use Rattle.std.proofs.Common.{rules}
use Rattle.cbm_medium.proofs.Sequences.{readable_after}
use Rattle.cbm_volume.proofs.OneAfterAnother.{second_refused, both_done}
use Rattle.cbm_volume.proofs.records.making.begin.Goals as goal

pub returns-in_err-number-clause-begun : goal.returns-in_err-number-clause-begun
returns-in_err-number-clause-begun g c = λ d uses ch h idle some room size.
    let old : Seen = g.M.Medium.seen c.args.medium.now in
    let new : Seen = g.M.Medium.seen c.empty_slot.new.medium in
    handed c.from_residual.result c.in_err-number.field-0.0 _ (IsCopyCut old new old.content h.layout d uses) c.from_residual.ensures.1
    (begin_cut old new c.args.geometry c.in_err-number.field-0.0 d uses h size c.in_err-number.ensures.stopped c.in_err-number.ensures.cause)

pub returns-in_default-clause-begun : goal.returns-in_default-clause-begun
returns-in_default-clause-begun g c = λ d uses ch h idle some room size.
    absurd (begin_place (g.M.Medium.seen c.args.medium.now) (g.M.Medium.seen c.empty_slot.new.medium) c.args.geometry c.in_ok-number.field-0 d uses h size c.in_default.is c.in_ok-number.ensures.taken some)

pub returns-in_err-sectors-clause-begun : goal.returns-in_err-sectors-clause-begun
returns-in_err-sectors-clause-begun g c = λ d uses ch h idle some room size.
    let old : Seen = g.M.Medium.seen c.args.medium.now in
    let mid : Seen = g.M.Medium.seen c.empty_slot.new.medium in
    let new : Seen = g.M.Medium.seen c.claim_two.new.medium in
    handed c.from_residual-in_err-sectors.result c.in_err-sectors.field-0.0 _ (IsCopyCut old new old.content h.layout d uses) c.from_residual-in_err-sectors.ensures.1
    (claims_cut old mid new c.args.geometry c.in-Some.number c.in_err-sectors.field-0.0 d uses h (begin_ready old mid c.args.geometry c.in-Some.number c.in_ok-number.field-0 d uses h size c.in-Some.is c.in_ok-number.ensures.taken)
    c.empty_slot.ensures.only.protected c.empty_slot.ensures.only.counted size c.in_err-sectors.ensures.stopped)

pub returns-in_default-2-clause-begun : goal.returns-in_default-2-clause-begun
returns-in_default-2-clause-begun g c = λ d uses ch h idle some room size.
    let old : Seen = g.M.Medium.seen c.args.medium.now in
    let mid : Seen = g.M.Medium.seen c.empty_slot.new.medium in
    absurd (lacks_none old mid (g.M.Medium.seen c.claim_two.new.medium) c.args.geometry c.in-Some.number c.in_ok-sectors.field-0 d uses h
    (begin_ready old mid c.args.geometry c.in-Some.number c.in_ok-number.field-0 d uses h size c.in-Some.is c.in_ok-number.ensures.taken) size room c.in_default-2.is c.in_ok-sectors.ensures.claimed)

pub returns-clause-begun : goal.returns-clause-begun
returns-clause-begun g c = λ d uses ch h idle some room size.
    let old : Seen = g.M.Medium.seen c.args.medium.now in
    let mid : Seen = g.M.Medium.seen c.empty_slot.new.medium in
    has_two old mid (g.M.Medium.seen c.claim_two.new.medium) c.args.geometry c.in-Some.number c.in_ok-sectors.field-0 c.in-Some-2.sectors d uses ch h idle
    (begin_ready old mid c.args.geometry c.in-Some.number c.in_ok-number.field-0 d uses h size c.in-Some.is c.in_ok-number.ensures.taken) size c.in-Some-2.is c.in_ok-sectors.ensures.claimed

pub returns-in_err-sectors-clause-only : goal.returns-in_err-sectors-clause-only
returns-in_err-sectors-clause-only g c = second_refused c.from_residual-in_err-sectors.result c.in_ok-number.was c.in_err-sectors.was c.from_residual-in_err-sectors.ensures.1 c.empty_slot.ensures.only c.claim_two.ensures.only

pub returns-in_default-2-clause-only : goal.returns-in_default-2-clause-only
returns-in_default-2-clause-only g c = record {
  tracks = (search rules);
  protected = (search rules);
  id = (search rules);
  outside = (search rules);
  counted = (search rules);
  once = (search rules);
  uncounted = (search rules);
  own = (search rules);
  guarded = (search rules);
  shown = (search rules);
  beyond = (search rules);
  readable = readable_after _ _ _ c.in_ok-number.ensures.only.readable c.in_ok-sectors.ensures.only.readable;
}

pub returns-clause-only : goal.returns-clause-only
returns-clause-only g c = both_done _ c.in_ok-number.was c.in_ok-sectors.was c.empty_slot.ensures.only c.claim_two.ensures.only

-- ---- on any disk

pub returns-clause-led : goal.returns-clause-led
returns-clause-led g c = ((g.M.Medium.seen c.empty_slot.new.medium).content, rw c.in-Some.is at c.in_ok-number.ensures.taken, rw c.in-Some-2.is at c.in_ok-sectors.ensures.claimed)
