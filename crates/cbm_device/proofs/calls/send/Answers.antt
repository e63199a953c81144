use Rattle.std.proofs.Common.{◌+◌, ◌++◌, subst}
use Rattle.cbm_iec.specs.Attentions.{listen, unlisten}
use Rattle.cbm_device.specs.Channels.{attention_acts, leaving_acts, heard_each, by_call, IsToldAll}
use Rattle.cbm_device.proofs.Calling.{told_then}
use Rattle.cbm_device.proofs.calls.send.Goals as goal

pub returns-clause-told : goal.returns-clause-told
returns-clause-told g c =
    let tells = by_call g.A.From.from_gives g.D.Takes.takes in
    let second = c.args.second in
    let first = attention_acts (listen + c.device-listen.result) second in
    let now = c.args.drive.now.machine in
    subst (λ n. IsToldAll tells (attention_acts (listen + n) second ++ heard_each c.args.bytes.now ++ leaving_acts unlisten) now c.leave.new.drive.machine) c.device-listen.ensures
    (told_then tells (first ++ heard_each c.args.bytes.now) (leaving_acts unlisten) now c.hear.new.drive.machine c.leave.new.drive.machine
    (told_then tells first (heard_each c.args.bytes.now) now c.attend.new.drive.machine c.hear.new.drive.machine c.attend.ensures.told c.hear.ensures.told) c.leave.ensures.told)
