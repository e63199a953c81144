use Rattle.std.proofs.Common.{◌<◌, ◌≤◌, ℕ, List, [], ◌∷◌, ◌++◌, length, take, sym, ap, ◌∙◌, arith}
use Rattle.cbm_channel.proofs.Kept.{take_all, take_room, take_front, same_pair}
use Rattle.cbm_channel.proofs.gathered.Gathered.add.Goals as goal

-- there is room for the byte
pub returns-then-len-lt-KEPT : goal.returns-then-len-lt-KEPT
returns-then-len-lt-KEPT c =
    let room : length c.self.inside.bytes.items < 256 = omega (arith, c.len.ensures.value, c.if-len-lt-KEPT.true) in
    same_pair (ap (λ (t : ℕ × List ℕ). t.0) c.self.view_is)
    (c.push.ensures.items ∙ sym (take_room 256 c.self.inside.bytes.items c.args.byte room)
    ∙ ap (λ (t : ℕ × List ℕ). take 256 (t.1 ++ c.args.byte ∷ [])) c.self.view_is)

-- none is left
pub returns-else-len-lt-KEPT : goal.returns-else-len-lt-KEPT
returns-else-len-lt-KEPT c =
    let full : 256 ≤ length c.self.inside.bytes.items = omega (arith, c.len.ensures.value, c.if-len-lt-KEPT.false) in
    sym c.self.view_is
    ∙ same_pair (ap (λ (t : ℕ × List ℕ). t.0) c.self.view_is)
    (sym (take_front 256 c.self.inside.bytes.items (c.args.byte ∷ []) full ∙ take_all 256 c.self.inside.bytes.items c.self.invariant.1)
    ∙ ap (λ (t : ℕ × List ℕ). take 256 (t.1 ++ c.args.byte ∷ [])) c.self.view_is)
