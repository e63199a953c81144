-- What is due after a change and after a reaction, in the words of this crate.
use Rattle.std.specs.Prelude.{◌≡◌, ℕ, ◌≤◌, Bool, Option, Some}
use Rattle.cbm_iec.specs.Ports.{port_due, told, reacted}
use Rattle.cbm_iec.specs.declared.lines.Lines.{Lines}
use Rattle.cbm_iec.specs.declared.port.Port.{Port}
use Rattle.cbm_session.proofs.handed.Later as session
use Rattle.cbm_session.specs.Playing.{IsLaterDue}
use Rattle.cbm_drive.specs.Progress.{IsKeptOrLater}

pub told_kept : (t : ℕ) (others : Lines) (p : Port) → 1 ≤ p.party.reaction → IsKeptOrLater t (port_due p) (port_due (told t others p))
told_kept t others p h = session.told_kept t others p h

pub reacted_later : (t : ℕ) (peek : Option (ℕ × Bool)) (p : Port) → 1 ≤ p.party.reaction → port_due p ≡ Some t → IsLaterDue t (port_due (reacted t peek p))
reacted_later t peek p h e = session.reacted_later t peek p h e
