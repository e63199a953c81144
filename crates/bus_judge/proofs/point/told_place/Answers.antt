use Rattle.std.proofs.Common.{◌≡◌, ◌+◌, Bool, false, sym, subst, ◌∙◌, ap, if◌then◌else◌}
use Rattle.bus_judge.specs.Views.{told_of}
use Rattle.cbm_iec.specs.Profile.{next_byte}
use Rattle.cbm_session.specs.Frames.{is_last}
use Rattle.cbm_session.specs.Pieces.{Open, Leading}
use Rattle.bus_judge.proofs.point.told_place.Goals as goal

-- the next frame comes so long after the accept
pub returns : goal.returns
returns c =
    let e : is_last (told_of c.args.frame.now) ≡ false = sym c.is_last.ensures ∙ c.if-is_last.false in
    subst (λ (b : Bool). Leading c.in_ok-next.next ≡ (if b then Open else Leading (c.args.frame.now.accept + next_byte))) (sym e) (ap Leading c.in_ok-next.ensures)
