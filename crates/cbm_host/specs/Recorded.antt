-- What the drive showed after each act of a call, on any disk: where a machine plays that back, and then what it shows later, the call is one of that machine.
use Rattle.std.specs.Prelude.{◌≡◌, ℕ, Bool, List, [], ◌∷◌, ◌++◌, Option, MatchOption}
use Rattle.cbm_drive.specs.Cables.{Cabled}
use Rattle.cbm_drive.specs.Players.{IsStill}
use Rattle.cbm_host.specs.Engines.{Engined, engine_due}
use Rattle.cbm_host.specs.Hosted.{IsTaking, HasTaken, TakesOn}
use Rattle.cbm_host.specs.Performed.{IsPerforming, IsCutShort, HasPerformed}
use Rattle.cbm_host.specs.Performers.{Performing, IsAsked, IsGoing, IsHeldBack, IsUnmoved, HasStopped, HasCome, HasNext}
use Rattle.cbm_drive.specs.Playback.{Shown, Playback, played_says, played_step, IsPlayedBack}
use Rattle.cbm_iec.specs.declared.event.Event.{Event}
use Rattle.cbm_iec.specs.declared.lines.Change.{Change}
use Rattle.cbm_session.specs.Playing.{Station}

module _ {D : Type 0} (shows : D → Shown) where
  -- as `GoesUpTo`, for a machine that plays back what the drive showed
  abbrev pub GoesUpToRecorded : ℕ → Performing → Performing → Cabled D → Cabled D → Option Event → Type 0
  GoesUpToRecorded upto old new b c result = (trail : List Shown) × ((later : List Shown) (n : ℕ) (ss : List (Station Playback)) (es : List Event) → (g : IsGoing D Playback (IsPlayedBack shows (trail ++ later)) played_step played_says old b n ss es) → IsAsked upto old.player.waiting (engine_due old.engine)
      → MatchOption result ((trail ≡ []) × IsStill D Playback (IsPlayedBack shows later) played_step played_says old.player new.player b c upto g.after.stations) (HasCome D Playback (IsPlayedBack shows later) played_step played_says old new c n ss es))

  -- as `GoesOn`, for a machine that plays back what the drive showed
  abbrev pub GoesOnRecorded : Performing → Performing → Cabled D → Cabled D → Option Event → Type 0
  GoesOnRecorded old new b c result = (trail : List Shown) × ((later : List Shown) (n : ℕ) (ss : List (Station Playback)) (es : List Event) → IsGoing D Playback (IsPlayedBack shows (trail ++ later)) played_step played_says old b n ss es
      → MatchOption result (HasStopped D Playback (IsPlayedBack shows later) played_step played_says old new c n ss es) (HasCome D Playback (IsPlayedBack shows later) played_step played_says old new c n ss es))

  -- the host's change comes, or the drive's before it; where none comes the drive showed nothing
  abbrev pub PlaysRecorded : Change → Performing → Performing → Cabled D → Cabled D → Option Event → Type 0
  PlaysRecorded change old new b c result = (trail : List Shown) × ((later : List Shown) (n : ℕ) (ss : List (Station Playback)) (es : List Event) → IsGoing D Playback (IsPlayedBack shows (trail ++ later)) played_step played_says old b n ss es
      → MatchOption result ((trail ≡ []) × IsHeldBack D Playback (IsPlayedBack shows later) played_step played_says old new b c change) (HasCome D Playback (IsPlayedBack shows later) played_step played_says old new c n ss es))

  -- the drive's comes before a moment; where none comes it showed nothing
  abbrev pub ComesRecorded : ℕ → Performing → Performing → Cabled D → Cabled D → Option Event → Type 0
  ComesRecorded until old new b c result = (trail : List Shown) × ((later : List Shown) (n : ℕ) (ss : List (Station Playback)) (es : List Event) → IsGoing D Playback (IsPlayedBack shows (trail ++ later)) played_step played_says old b n ss es
      → MatchOption result ((trail ≡ []) × IsUnmoved D Playback (IsPlayedBack shows later) played_step played_says old new b c until n ss es) (HasCome D Playback (IsPlayedBack shows later) played_step played_says old new c n ss es))

  -- the next event of a request, or none
  abbrev pub NextRecorded : Performing → Performing → Cabled D → Cabled D → Option Event → Type 0
  NextRecorded old new b c result = (trail : List Shown) × ((later : List Shown) (n : ℕ) (ss : List (Station Playback)) (es : List Event) → IsGoing D Playback (IsPlayedBack shows (trail ++ later)) played_step played_says old b n ss es
      → MatchOption result (HasStopped D Playback (IsPlayedBack shows later) played_step played_says old new c n ss es) (HasNext D Playback (IsPlayedBack shows later) played_step played_says old new c n ss es))

  -- a request under way, where the drive will show these
  abbrev pub IsPerformingBack : List Shown → Engined → ℕ → Performing → Cabled D → List Event → List Event → List ℕ → Bool → List (Station Playback) → Type 0
  IsPerformingBack shown = IsPerforming D Playback (IsPlayedBack shows shown) played_step played_says

  -- no more events come of it
  abbrev pub HasPerformedBack : List Shown → Engined → ℕ → Performing → Cabled D → List Event → List Event → List ℕ → Bool → List (Station Playback) → Type 0
  HasPerformedBack shown = HasPerformed D Playback (IsPlayedBack shows shown) played_step played_says

  -- memory ran out
  abbrev pub IsCutShortBack : List Shown → Cabled D → List Event → List Event → List (Station Playback) → Type 0
  IsCutShortBack shown = IsCutShort D Playback (IsPlayedBack shows shown) played_step played_says

  -- the next byte that the host takes, or the end of the request
  abbrev pub TakesRecorded : Performing → Performing → Cabled D → Cabled D → Option (ℕ × Bool) → Type 0
  TakesRecorded old new b c result = (trail : List Shown) × ((later : List Shown) (e : Engined) (limit : ℕ) (bytes : List ℕ) (last : Bool) (ss : List (Station Playback)) → IsTaking D Playback (IsPlayedBack shows (trail ++ later)) played_step played_says e limit old b bytes last ss
      → MatchOption result (HasTaken D Playback (IsPlayedBack shows later) played_step played_says e limit new c bytes last ss) (λ x. IsTaking D Playback (IsPlayedBack shows later) played_step played_says e limit new c (bytes ++ x.0 ∷ []) x.1 ss))

  -- where no byte was taken, whatever the drive shows later
  abbrev pub TakesOnRecorded : Performing → Performing → Cabled D → Cabled D → Type 0
  TakesOnRecorded old new b c = (later : List Shown) → TakesOn D Playback (IsPlayedBack shows later) played_step played_says old new b c
