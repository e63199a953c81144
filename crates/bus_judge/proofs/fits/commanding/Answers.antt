use Rattle.std.proofs.Common.{sym, subst}
use Rattle.bus_judge.specs.Views.{bus_place_of}
use Rattle.bus_judge.specs.declared.whole.Place.{Place as OwnPlace}
use Rattle.cbm_session.specs.Pieces.{IsCommanding, commanding}
use Rattle.bus_judge.proofs.fits.commanding.Goals as goal

pub returns-in-Commanding : goal.returns-in-Commanding
returns-in-Commanding c = subst (λ (w : OwnPlace). IsCommanding (bus_place_of w)) (sym c.in-Commanding.is) commanding
