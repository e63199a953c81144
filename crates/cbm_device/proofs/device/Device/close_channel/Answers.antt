use Rattle.std.proofs.Common.{OnOk, refl, subst}
use Rattle.cbm_device.specs.Channels.{closing_acts, HasBeenTold}
use Rattle.cbm_device.specs.Devices.{OnLines}
use Rattle.cbm_device.proofs.Called.{has_been_told, on_ok}
use Rattle.cbm_device.proofs.device.Device.close_channel.Goals as goal

pub returns-clause-told : goal.returns-clause-told
returns-clause-told c =
    let old : OnLines = record { seat = c.self.inside.drive; kind = c.self.inside.kind; latest = c.self.inside.latest } in
    let now : OnLines = record { seat = c.call_close.new.drive; kind = c.self.inside.kind; latest = c.self.inside.latest } in
    subst (λ (o : OnLines). OnOk c.call_close.result (HasBeenTold (closing_acts o.seat.port.party.device c.args.channel) o now)) c.self.view_is
    (on_ok c.call_close.result (λ told. has_been_told (closing_acts c.self.inside.drive.port.party.device c.args.channel) old now told c.call_close.ensures.port refl refl) c.call_close.ensures.told)
