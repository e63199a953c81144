use Rattle.std.proofs.Common.{rules, ◌≡◌, ◌≤◌, ◌+◌, ℕ, List, [], ◌++◌, length, sym, ap, subst, ◌∙◌}
use Rattle.std.specs.Prelude.{MatchOption, IsSome}
use Rattle.cbm_iec.specs.declared.lines.Lines.{Lines}
use Rattle.cbm_session.specs.Playing.{drive_events}
use Rattle.cbm_drive.specs.Cables.{Cabled}
use Rattle.cbm_drive.specs.Playback.{Playback, IsPlayedBack, played_says, played_step}
use Rattle.cbm_drive.specs.Played.{HasSettled}
use Rattle.cbm_drive.specs.Seats.{Seated}
use Rattle.cbm_drive.specs.Silence.{AnyShows}
use Rattle.cbm_drive.proofs.Alone.{IsBack}
use Rattle.cbm_drive.proofs.bus.Bus.first_shown.Goals as goal

pub returns-clause-shown : goal.returns-clause-shown
returns-clause-shown g c = record {
  played = (search rules);
  some = (search rules);
  -- the array holds the one drive
  recorded = λ one.
      let host : c.args.self.now.host ≡ c.self.inside.host = sym (ap (λ (b : Cabled _). b.host) c.self.view_is) in
      let drives : c.args.self.now.drives ≡ c.as_mut_slice.result.now = sym (c.as_mut_slice.ensures.value ∙ ap (λ (b : Cabled _). b.drives) c.self.view_is) in
      let found = c.first_shown.ensures.shown.recorded (ap (λ (xs : List (Seated _)). length xs) c.as_mut_slice.ensures.value ∙ c.self.told ∙ one) in (
        found.0,
        (λ later ss h.
            subst (λ (l : Lines). ((n until : ℕ) → n ≤ until → c.args.limit ≤ until → MatchOption c.first_shown.result
            (HasSettled _ Playback (IsPlayedBack g.D.Machine.shows later) played_step played_says l until c.first_shown.new.drives [] [] n ss)
            (λ r. HasSettled _ Playback (IsPlayedBack g.D.Machine.shows later) played_step played_says l (r.0 + 1) c.first_shown.new.drives [] (drive_events r.1.device r.1.changes.items) n ss))
            × (AnyShows Playback played_step played_says c.args.limit ss → IsSome c.first_shown.result)) (sym host)
            (found.1 later ss
            (subst (λ (l : Lines). IsBack g.D.Machine.shows (found.0 ++ later) l c.as_mut_slice.result.now ss) host (subst (λ (xs : List (Seated _)). IsBack g.D.Machine.shows (found.0 ++ later) c.args.self.now.host xs ss) drives h)))),
      );
}
