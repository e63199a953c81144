-- What was shown in two calls, one after the other, and later.
use Rattle.std.proofs.Common.{ℕ, Bool, List, ◌++◌, subst}
use Rattle.std.proofs.lemmas.List.{append_assoc}
use Rattle.cbm_drive.specs.Cables.{Cabled}
use Rattle.cbm_host.specs.Engines.{Engined}
use Rattle.cbm_host.specs.Hosted.{IsTaking}
use Rattle.cbm_host.specs.Performers.{Performing}
use Rattle.cbm_drive.specs.Playback.{Shown, Playback, played_says, played_step, IsPlayedBack}
use Rattle.cbm_session.specs.Playing.{Station}

pub regrouped : {D : Type 0} (shows : D → Shown) (first second later : List Shown) (e : Engined) (limit : ℕ) (p : Performing) (b : Cabled D) (bytes : List ℕ) (last : Bool) (ss : List (Station Playback)) → IsTaking D Playback (IsPlayedBack shows ((first ++ second) ++ later)) played_step played_says e limit p b bytes last ss
    → IsTaking D Playback (IsPlayedBack shows (first ++ (second ++ later))) played_step played_says e limit p b bytes last ss
regrouped shows first second later e limit p b bytes last ss t = subst (λ (l : List Shown). IsTaking _ Playback (IsPlayedBack shows l) played_step played_says e limit p b bytes last ss) (append_assoc first second later) t
