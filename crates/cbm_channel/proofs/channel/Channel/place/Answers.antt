use Rattle.std.proofs.Common.{refl, sym, subst, ◌∙◌, arith}
use Rattle.cbm_channel.specs.Placed.{IsOnRecord}
use Rattle.cbm_channel.specs.Standing.{WaitsFor}
use Rattle.cbm_channel.proofs.Placings.{place_closed, place_plain, place_beyond, place_reached}
use Rattle.cbm_channel.proofs.channel.Channel.place.Goals as goal

-- nothing is open
pub returns-in-Closed-clause-well : goal.returns-in-Closed-clause-well
returns-in-Closed-clause-well g c = λ d uses ch x h e s w. place_closed _ _ d uses ch c.args.number c.args.position x _ _ c.in-Closed.is refl h e s w

-- no records are
pub returns-in_default-clause-well : goal.returns-in_default-clause-well
returns-in_default-clause-well g c = λ d uses ch x h e s w. place_plain _ _ d uses ch c.args.number c.args.position x _ c.in_default.not-Closed c.in_default.not-Records h e s w

-- the place lies after the record
pub returns-then-position-length-clause-well : goal.returns-then-position-length-clause-well
returns-then-position-length-clause-well g c = λ d uses ch x h e s w.
    place_beyond _ _ d uses ch c.args.number c.args.position x _ c.in-Records.on c.in-Records.is (omega (arith, c.length.ensures, c.if-position-length.true)) h e s w

-- it is reached
pub returns-then-is_absent-clause-well : goal.returns-then-is_absent-clause-well
returns-then-is_absent-clause-well g c = λ d uses ch x h e s w.
    let on : IsOnRecord d c.in-Records.on = subst (WaitsFor d) c.in-Records.is w in
    let next = c.in_ok-go-in-Records.ensures.well d on.file on.blocks on.sides on.records (record { layout = h.layout; stands = h.so.stands }) on.in_slot on.closed on.body in
    place_reached _ _ d uses ch c.args.number c.args.position x _ c.in-Records.on _ _ c.in-Records.is (omega (arith, c.length.ensures, c.if-position-length.false)) c.in_ok-go-in-Records.ensures.place next.1 (sym c.is_absent.ensures ∙ c.if-is_absent.true) h e s w

pub returns-else-is_absent-clause-well : goal.returns-else-is_absent-clause-well
returns-else-is_absent-clause-well g c = λ d uses ch x h e s w.
    let on : IsOnRecord d c.in-Records.on = subst (WaitsFor d) c.in-Records.is w in
    let next = c.in_ok-go-in-Records.ensures.well d on.file on.blocks on.sides on.records (record { layout = h.layout; stands = h.so.stands }) on.in_slot on.closed on.body in
    place_reached _ _ d uses ch c.args.number c.args.position x _ c.in-Records.on _ _ c.in-Records.is (omega (arith, c.length.ensures, c.if-position-length.false)) c.in_ok-go-in-Records.ensures.place next.1 (sym c.is_absent.ensures ∙ c.if-is_absent.false) h e s w

-- on a sound disk each record reads
pub returns-in_err-go-in-Records-clause-well : goal.returns-in_err-go-in-Records-clause-well
returns-in_err-go-in-Records-clause-well g c = λ d uses ch x h e s w.
    let on : IsOnRecord d c.in-Records.on = subst (WaitsFor d) c.in-Records.is w in
    let bad = (c.in_err-go-in-Records.ensures.well d on.file on.blocks on.sides on.records (record { layout = h.layout; stands = h.so.stands }) on.in_slot on.closed on.body).0 in absurd (cc)
