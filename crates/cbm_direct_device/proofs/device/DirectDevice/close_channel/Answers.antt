use Rattle.std.proofs.Common.{OnOk, refl, subst}
use Rattle.cbm_device.proofs.Called.{on_ok}
use Rattle.cbm_device.specs.Channels.{closing_acts}
use Rattle.cbm_direct_device.proofs.DirectCalled.{has_been_told_direct}
use Rattle.cbm_direct_device.proofs.device.DirectDevice.close_channel.Goals as goal
use Rattle.cbm_direct_device.specs.DirectChannels.{HasBeenToldDirect}
use Rattle.cbm_direct_device.specs.DirectDevices.{DirectOnLines}

pub returns-clause-told : goal.returns-clause-told
returns-clause-told c =
    let old : DirectOnLines = record { seat = c.self.inside.drive; kind = c.self.inside.kind; latest = c.self.inside.latest } in
    let now : DirectOnLines = record { seat = c.call_close.new.drive; kind = c.self.inside.kind; latest = c.self.inside.latest } in
    subst (λ (o : DirectOnLines). OnOk c.call_close.result (HasBeenToldDirect (closing_acts o.seat.port.party.device c.args.channel) o now)) c.self.view_is
    (on_ok c.call_close.result (λ told. has_been_told_direct (closing_acts c.self.inside.drive.port.party.device c.args.channel) old now told c.call_close.ensures.port refl refl) c.call_close.ensures.told)
