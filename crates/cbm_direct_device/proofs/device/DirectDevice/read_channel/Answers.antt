use Rattle.std.proofs.Common.{◌≡◌, ◌++◌, ℕ, List, IfOk, drop, length, refl, subst}
use Rattle.cbm_device.proofs.Called.{if_ok}
use Rattle.cbm_direct_device.proofs.DirectCalled.{has_talked_direct}
use Rattle.cbm_direct_device.proofs.device.DirectDevice.read_channel.Goals as goal
use Rattle.cbm_direct_device.specs.DirectChannels.{HasTalkedDirect}
use Rattle.cbm_direct_device.specs.DirectDevices.{DirectOnLines}

pub returns-clause-talked : goal.returns-clause-talked
returns-clause-talked c =
    let out = c.args.out.now in
    let old : DirectOnLines = record { seat = c.self.inside.drive; kind = c.self.inside.kind; latest = c.self.inside.latest } in
    let now : DirectOnLines = record { seat = c.call_read.new.drive; kind = c.self.inside.kind; latest = c.self.inside.latest } in
    subst (λ (o : DirectOnLines). IfOk c.call_read.result (λ came. (bytes : List ℕ) × (length bytes ≡ came.count) × (c.call_read.new.out ≡ bytes ++ drop came.count out)
    × HasTalkedDirect c.args.channel (length out) bytes came.marked o now)) c.self.view_is
    (if_ok c.call_read.result (λ came t. (t.0, t.1, t.2, has_talked_direct c.args.channel (length out) t.0 came.marked old now t.3 c.call_read.ensures.port refl refl)) c.call_read.ensures.talked)
