-- What is promised of a request that is carried out on a bus: whatever kind of machine the drive represents, and on any disk of the machine that plays back
-- what the drive showed.
use Rattle.std.specs.Prelude.{ℕ, ◌≡◌, ◌≤◌, ◌+◌, Some, Bool, List, [], ◌∷◌, ◌++◌, Option, Result, IfOk, IfErr, OnOk, MatchBool, MatchResult}
use Rattle.cbm_drive.specs.Cables.{Cabled}
use Rattle.cbm_drive.specs.Playback.{Shown, Playback}
use Rattle.cbm_drive.specs.Seats.{IsBusAt, Unfailed}
use Rattle.cbm_drive.specs.declared.fault.PlayFault.{PlayFault}
use Rattle.cbm_drive.specs.declared.fault.PlayFault.TheVariants.{Memory}
use Rattle.cbm_host.specs.AnyDisk.{IsCarriedOutAnyway, IsCutShortAnyway}
use Rattle.cbm_host.specs.CarriedOut.{IsShort, HasCarriedOut}
use Rattle.cbm_host.specs.Engines.{Engined, channel_of, engine_at, stage_end}
use Rattle.cbm_host.specs.Performed.{IsPerforming, IsCutShort, HasPerformed, HasRun}
use Rattle.cbm_host.specs.Performers.{Performing}
use Rattle.cbm_host.specs.Requests.{longest}
use Rattle.cbm_host.specs.Recorded.{IsPerformingBack, HasPerformedBack, IsCutShortBack}
use Rattle.cbm_host.specs.declared.done.Done.{Done}
use Rattle.cbm_host.specs.declared.request.Request.{Request}
use Rattle.cbm_iec.specs.declared.machine.Act.{Act}
use Rattle.cbm_iec.specs.declared.event.Event.{Event}
use Rattle.cbm_iec.specs.declared.pace.Pace.TheVariants.{Profile}
use Rattle.cbm_iec.specs.declared.pace.Pace.{Pace}
use Rattle.cbm_iec.specs.declared.party.Party.{Party}
use Rattle.cbm_session.specs.Playing.{Station, at_rest}
use Rattle.cbm_session.specs.Seats.{at_pace}
use Rattle.cbm_session.specs.Sessions.{IsDrive}

module _ (D M : Type 0) (stands : D → M → Type 0) (step : M → Act → M) (says : M → Option (ℕ × Bool)) where
  -- A request of at most 200,000 bytes to a drive that was at rest is carried out, where the call is Ok.
  abbrev pub CarriesOut : {E : Type 0} → Party → ℕ → (ℕ → M) → ℕ → Request → Cabled D → Cabled D → List Event → List Event → Result Done E → Type 0
  CarriesOut b device ms start request x y old new result = IsShort M step says device (ms device) request →
      IsBusAt D M stands x.host x.drives (at_rest M step says ms (b ∷ [])) →
      IfOk result (λ done. HasCarriedOut D M stands step says b ms start request y old new done.bytes.items done.last done.end)

  -- So it is for each drive of this device number and pace, if the drive's machine didn't fail in it.
  abbrev pub CarriesOutAt : {E : Type 0} → (D → ℕ) → Pace → ℕ → ℕ → Request → Cabled D → Cabled D → List Event → List Event → Result Done E → Type 0
  CarriesOutAt failures pace device start request x y old new result = Unfailed failures x.drives y.drives → (b : Party) (ms : ℕ → M) → IsDrive b → b.device ≡ device → b.pace ≡ pace →
      CarriesOut b device ms start request x y old new result

  -- The same at the profile's pace.
  abbrev pub CarriesOutAtProfile : {E : Type 0} → (D → ℕ) → ℕ → ℕ → Request → Cabled D → Cabled D → List Event → List Event → Result Done E → Type 0
  CarriesOutAtProfile failures device start request x y old new result = Unfailed failures x.drives y.drives → (v : Party) (ms : ℕ → M) → let b = at_pace Profile v in IsDrive b → b.device ≡ device →
      CarriesOut b device ms start request x y old new result

  -- Each change of the host comes at the moment that the request's stages say, and so does the end.
  abbrev pub KeepsMoments : {E : Type 0} → Engined → ℕ → Cabled D → List Event → List Event → Result Done E → Type 0
  KeepsMoments e limit x old new result = (ss : List (Station M)) → IsBusAt D M stands x.host x.drives ss →
      IfOk result (λ done. HasRun M step says e limit old new done.bytes.items done.last done.end ss)

  -- So it is if the drive's machine didn't fail in it.
  abbrev pub KeepsMomentsUnfailed : {E : Type 0} → (D → ℕ) → Engined → ℕ → Cabled D → Cabled D → List Event → List Event → Result Done E → Type 0
  KeepsMomentsUnfailed failures e limit x y old new result = Unfailed failures x.drives y.drives → KeepsMoments e limit x old new result

  -- The one error is want of memory: what was added is a beginning of a play.
  abbrev pub LacksMemory : {A : Type 0} → Cabled D → Cabled D → List Event → List Event → Result A PlayFault → Type 0
  LacksMemory x y old new result = (ss : List (Station M)) → IsBusAt D M stands x.host x.drives ss →
      IfErr result (λ e. (e ≡ Memory) × IsCutShort D M stands step says y old new ss)

  -- So it is if the drive's machine didn't fail in it.
  abbrev pub LacksMemoryUnfailed : {A : Type 0} → (D → ℕ) → Cabled D → Cabled D → List Event → List Event → Result A PlayFault → Type 0
  LacksMemoryUnfailed failures x y old new result = Unfailed failures x.drives y.drives → LacksMemory x y old new result

  -- WHERE NO MORE EVENTS COME of a request to a drive that was at rest, of either pace, it was carried out, and its end is reported.
  abbrev pub EndsCarriedOut : Performing → Cabled D → Type 0
  EndsCarriedOut p bus = (b : Party) (ms : ℕ → M) (start : ℕ) (request : Request) (old new : List Event) (bytes : List ℕ) (last : Bool) → IsDrive b → channel_of request ≤ 15 →
      IsShort M step says b.device (ms b.device) request →
      HasPerformed D M stands step says (engine_at start b.device request) (start + longest b.pace) p bus old new bytes last (at_rest M step says ms (b ∷ [])) →
      (end : ℕ) × (stage_end p.engine.stage ≡ Some end) × HasCarriedOut D M stands step says b ms start request bus old new bytes last end

  -- ---- a request under way

  -- The next event comes, or no more do.
  abbrev pub Steps : {E : Type 0} → (D → ℕ) → Performing → Performing → Cabled D → Cabled D → List Event → List Event → Done → Done → Result Bool E → Type 0
  Steps failures p q x y was now done made result = Unfailed failures x.drives y.drives → (e : Engined) (limit : ℕ) (old : List Event) (ss : List (Station M)) →
      IsPerforming D M stands step says e limit p x old was done.bytes.items done.last ss → IfOk result (λ more. MatchBool more
      (IsPerforming D M stands step says e limit q y old now made.bytes.items made.last ss)
      (HasPerformed D M stands step says e limit q y old now made.bytes.items made.last ss))

  -- All events come, up to the end.
  abbrev pub RunsOut : {E : Type 0} → (D → ℕ) → Performing → Performing → Cabled D → Cabled D → List Event → List Event → Done → Done → Result (Unit {0}) E → Type 0
  RunsOut failures p q x y was now done made result = Unfailed failures x.drives y.drives → (e : Engined) (limit : ℕ) (old : List Event) (ss : List (Station M)) →
      IsPerforming D M stands step says e limit p x old was done.bytes.items done.last ss →
      OnOk result (HasPerformed D M stands step says e limit q y old now made.bytes.items made.last ss)

  -- Memory ran out on the way.
  abbrev pub IsCutOnTheWay : {A E : Type 0} → (D → ℕ) → Performing → Cabled D → Cabled D → List Event → List Event → Done → Result A E → Type 0
  IsCutOnTheWay failures p x y was now done result = Unfailed failures x.drives y.drives → (e : Engined) (limit : ℕ) (old : List Event) (ss : List (Station M)) →
      IsPerforming D M stands step says e limit p x old was done.bytes.items done.last ss →
      IfErr result (λ x. IsCutShort D M stands step says y old now ss)

module _ {D : Type 0} (shows : D → Shown) where
  -- The request is carried out for a machine that plays back what the drive showed; or memory ran out.
  abbrev pub CarriesOutAnyway : {E : Type 0} → Party → ℕ → Request → Cabled D → Cabled D → List Event → List Event → Result Done E → Type 0
  CarriesOutAnyway b start request x y old new result = MatchResult result
      (λ done. IsCarriedOutAnyway shows b start request x y old new done.bytes.items done.last done.end)
      (λ e. IsCutShortAnyway shows b x y old new)

  -- `Steps` for such a machine, or memory ran out
  abbrev pub StepsBack : {E : Type 0} → Performing → Performing → Cabled D → Cabled D → List Event → List Event → Done → Done → Result Bool E → Type 0
  StepsBack p q x y was now done made result = (trail : List Shown) × ((later : List Shown) (e : Engined) (limit : ℕ) (old : List Event) (ss : List (Station Playback)) →
      IsPerformingBack shows (trail ++ later) e limit p x old was done.bytes.items done.last ss → MatchResult result
      (λ more. MatchBool more (IsPerformingBack shows later e limit q y old now made.bytes.items made.last ss)
      (HasPerformedBack shows later e limit q y old now made.bytes.items made.last ss))
      (λ x. IsCutShortBack shows later y old now ss))

  -- `RunsOut` for such a machine, or memory ran out
  abbrev pub RunsOutBack : {E : Type 0} → Performing → Performing → Cabled D → Cabled D → List Event → List Event → Done → Done → Result (Unit {0}) E → Type 0
  RunsOutBack p q x y was now done made result = (trail : List Shown) × ((later : List Shown) (e : Engined) (limit : ℕ) (old : List Event) (ss : List (Station Playback)) →
      IsPerformingBack shows (trail ++ later) e limit p x old was done.bytes.items done.last ss → MatchResult result
      (λ u. HasPerformedBack shows later e limit q y old now made.bytes.items made.last ss)
      (λ x. IsCutShortBack shows later y old now ss))
