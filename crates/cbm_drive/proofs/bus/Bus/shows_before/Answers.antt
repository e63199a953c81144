use Rattle.std.proofs.Common.{◌≡◌, List, sym, ap, subst, ◌∙◌}
use Rattle.std.specs.List.{AllZip}
use Rattle.cbm_drive.specs.Cables.{Cabled}
use Rattle.cbm_drive.specs.Playback.{Playback, IsPlayedBack}
use Rattle.cbm_drive.specs.Seats.{Seated, IsSeat, wires_held_by}
use Rattle.cbm_drive.proofs.bus.Bus.shows_before.Goals as goal

pub returns-clause-recorded : goal.returns-clause-recorded
returns-clause-recorded g c = λ later ss h.
    let all = wires_held_by c.args.self.now.host c.args.self.now.drives in
    let seen : c.as_slice.result.now ≡ c.args.self.now.drives = c.as_slice.ensures ∙ ap (λ (b : Cabled _). b.drives) c.self.view_is in
    c.any_shows.ensures.recorded later all ss (subst (λ (xs : List (Seated _)). AllZip (IsSeat _ Playback (IsPlayedBack g.D.Machine.shows later) all) xs ss) (sym seen) h)
