use Rattle.std.proofs.Common.{◌<◌, ◌≤◌, length, sym, ◌∙◌, [], ◌∷◌, arith}
use Rattle.cbm_channel.proofs.Kept.{take_all, take_room, take_front}
use Rattle.cbm_drive.proofs.addressee.keep.Goals as goal

-- there is room for the byte
pub returns-then-len-lt-KEPT : goal.returns-then-len-lt-KEPT
returns-then-len-lt-KEPT c =
    let room : length c.args.name.now.items < 256 = omega (arith, c.len.ensures.value, c.if-len-lt-KEPT.true) in
    c.push.ensures.items ∙ sym (take_room 256 c.args.name.now.items c.args.byte room)

-- none is left
pub returns-else-len-lt-KEPT : goal.returns-else-len-lt-KEPT
returns-else-len-lt-KEPT c =
    let full : 256 ≤ length c.args.name.now.items = omega (arith, c.len.ensures.value, c.if-len-lt-KEPT.false) in
    let fits : length c.args.name.now.items ≤ 256 = omega (arith, c.len.ensures.value, c.len.ensures.fits) in
    sym (take_front 256 c.args.name.now.items (c.args.byte ∷ []) full ∙ take_all 256 c.args.name.now.items fits)
