use Rattle.std.proofs.Common.{refl}
use Rattle.cbm_drive.proofs.Ahead.{none_of}
use Rattle.cbm_drive.proofs.Alone.{heard_nobody}
use Rattle.cbm_drive.proofs.drives.hear_others.Goals as goal

-- nobody else is there
pub returns-then-is_empty-2-clause-heard : goal.returns-then-is_empty-2-clause-heard
returns-then-is_empty-2-clause-heard g c = λ u v own bs hs when toggles counts b h.
    heard_nobody _ g.D.Machine.State g.D.Machine.stands g.D.Machine.step g.D.Machine.says c.args.changes.now c.args.wires own c.args.front.now c.args.back.now bs hs (none_of c.args.front.now _ c.if-is_empty.ensures refl)
    (none_of c.args.back.now _ c.if-is_empty-2.ensures refl) toggles counts b h
