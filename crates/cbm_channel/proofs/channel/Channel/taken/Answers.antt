use Rattle.std.proofs.Common.{subst, refl, sym, ap, ◌∙◌}
use Rattle.cbm_machine.specs.Talking.{taken_on}
use Rattle.cbm_channel.specs.Standing.{ChannelStands, WaitsFor}
use Rattle.cbm_channel.proofs.Stands.{listing_on, let_go_now}
use Rattle.cbm_channel.proofs.Takes.{nothing_taken, file_left, file_taken, records_taken, relative_is}
use Rattle.cbm_channel.proofs.channel.Channel.taken.Goals as goal

pub returns-in_default-clause-well : goal.returns-in_default-clause-well
returns-in_default-clause-well g c = λ d uses ch x h e s w.
    let on = nothing_taken (g.M.Medium.seen c.args.volume.now).tracks (g.M.Medium.seen c.args.volume.now).content d uses ch c.args.self.now x c.in_default.not-Listing c.in_default.not-File c.in_default.not-Records h e s in (refl, on.0, w, on.1)

-- what writes nothing and reads nothing uses nothing of the disk
pub returns-in-Listing-clause-well : goal.returns-in-Listing-clause-well
returns-in-Listing-clause-well g c = λ d uses ch x h e s w.
    let stands = subst (λ k. ChannelStands k x) c.in-Listing.is s in
    (refl, listing_on d c.in-Listing.listing c.next_byte.new.self x c.next_byte.ensures.moved stands, tt, let_go_now _ _ d uses ch h)

-- on a sound disk nothing breaks off
pub returns-in_err-read_on-in-File-clause-well : goal.returns-in_err-read_on-in-File-clause-well
returns-in_err-read_on-in-File-clause-well g c = λ d uses ch x h e s w.
    let at = file_left c.args.self.now c.in-File.field-0 c.in-File.reader x (uses ch) c.in-File.is s e in
    absurd (let bad = (c.in_err-read_on-in-File.ensures.reads d uses ch c.in-File.field-0 at.0 h at.2).0 in (cc))

pub returns-in_ok-read_on-in-File-clause-well : goal.returns-in_ok-read_on-in-File-clause-well
returns-in_ok-read_on-in-File-clause-well g c = λ d uses ch x h e s w.
    let at = file_left c.args.self.now c.in-File.field-0 c.in-File.reader x (uses ch) c.in-File.is s e in
    let on = file_taken (g.M.Medium.seen c.args.volume.now).tracks (g.M.Medium.seen c.args.volume.now).content d uses ch c.in-File.field-0 c.read_on.new.reader at.0 x at.1 (c.in_ok-read_on-in-File.ensures.reads d uses ch c.in-File.field-0 at.0 h at.2).1 in (refl, on.0, tt, on.1)

-- the place goes on
pub returns-in_ok-taken-in-Records-clause-well : goal.returns-in_ok-taken-in-Records-clause-well
returns-in_ok-taken-in-Records-clause-well g c = λ d uses ch x h e s w.
    let next = c.in_ok-taken-in-Records.ensures.well d (record { layout = h.layout; stands = h.so.stands }) (subst (WaitsFor d) c.in-Records.is w) in
    let is = ap (taken_on d) (relative_is c.args.self.now c.in-Records.on x c.in-Records.is s) ∙ sym next.1.1 in
    let on = records_taken _ _ d uses ch c.args.self.now c.in-Records.on c.taken.new.self x (taken_on d x) c.in-Records.is s h e c.in_ok-taken-in-Records.ensures.slot is in (refl, on.0, next.1.0, on.1)
