use Rattle.std.proofs.Common.{ℕ, List, ◌-◌, ◌++◌, take, sym, ap, ◌∙◌, arith}
use Rattle.std.specs.Prelude.{replicate}
use Rattle.cbm_relfile.proofs.Changed.{changed_is}
use Rattle.cbm_relfile.proofs.changing.changed.Goals as goal

pub returns : goal.returns
returns c = changed_is c.args.old.now.items c.args.bytes.now c.joined-front.result.items c.joined.result.items c.args.position c.min-room.result c.len.result c.len.ensures.value c.requires.0 c.requires.1 (omega (arith, c.len.ensures.value, c.len.ensures.fits)) c.min-room.ensures
    (c.joined-front.ensures ∙ ap (λ (ys : List ℕ). take (c.args.position - 1) ys ++ take c.min-room.result c.args.bytes.now) c.deref.ensures.0)
    (c.joined.ensures ∙ (λ i. c.deref-2.ensures.0 i ++ take ((c.len-2.ensures.value ∙ sym c.len.ensures.value) i - c.len-3.ensures.value i) (replicate 254 0)))
