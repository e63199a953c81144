use Rattle.cbm_drive.proofs.Handed.{handed_so}
use Rattle.cbm_drive.proofs.Kept.{kept_from}
use Rattle.cbm_session.specs.Playing.{at_rest}
use Rattle.cbm_drive.proofs.bus.Bus.play.Goals as goal

pub returns-in-Ok-clause-handed : goal.returns-in-Ok-clause-handed
returns-in-Ok-clause-handed g c = λ u bs ms unlike swift h.
    handed_so _ g.D.Machine.State g.D.Machine.stands g.D.Machine.step g.D.Machine.says c.play_on.new.bus.host c.args.end c.play_on.new.bus.drives c.args.events.now.items c.play_on.new.events.items c.args.changes.now bs ms unlike swift c.in-Ok.ensures.settled
    (c.in-Ok.ensures.played u (at_rest g.D.Machine.State g.D.Machine.step g.D.Machine.says ms bs) h)

-- what was played from rest
pub returns-in-Ok-clause-loosely : goal.returns-in-Ok-clause-loosely
returns-in-Ok-clause-loosely g c = λ u bs ms fault is_bus bus.
    kept_from _ g.D.Machine.State g.D.Machine.stands g.D.Machine.step g.D.Machine.says g.met.D.Machine.more bs ms c.play_on.new.bus.host c.args.end c.play_on.new.bus.drives c.args.events.now.items c.play_on.new.events.items c.args.changes.now
    (c.in-Ok.ensures.played u (at_rest g.D.Machine.State g.D.Machine.step g.D.Machine.says ms bs) bus) c.in-Ok.ensures.settled is_bus

pub returns-in-Ok-clause-kept : goal.returns-in-Ok-clause-kept
returns-in-Ok-clause-kept g c = λ u bs ms fault is_bus bus. (returns-in-Ok-clause-loosely g c u bs ms fault is_bus bus).play
