-- A request on any disk was carried out, for the machine that plays back what the drive showed.
use Rattle.std.proofs.Common.{◌≡◌, ℕ, ◌+◌, ◌≤◌, Bool, List, [], ◌∷◌, Some, sym, ap, ◌∙◌, arith}
use Rattle.cbm_drive.specs.Cables.{Cabled}
use Rattle.cbm_drive.specs.Seats.{IsBusAt}
use Rattle.cbm_drive.specs.PlayedBack.{played_machine}
use Rattle.cbm_host.proofs.AnyDisk.{rests_again, is_short}
use Rattle.cbm_host.proofs.CarriedOut.{some_end, carried_soon, carried_out_then}
use Rattle.cbm_host.specs.AnyDisk.{IsCarriedOutAnyway}
use Rattle.cbm_host.specs.CarriedOut.{HasCarriedOut}
use Rattle.cbm_host.specs.Engines.{engine_at, stage_end, channel_of}
use Rattle.cbm_host.specs.Performed.{HasPerformed}
use Rattle.cbm_host.specs.Performers.{Performing}
use Rattle.cbm_drive.specs.Playback.{Shown, Playback, played_says, played_step, IsPlayedBack}
use Rattle.cbm_host.specs.Requests.{longest}
use Rattle.cbm_host.specs.Served.{IsModest}
use Rattle.cbm_host.specs.declared.request.Request.{Request}
use Rattle.cbm_iec.specs.declared.event.Event.{Event}
use Rattle.cbm_iec.specs.declared.party.Party.{Party}
use Rattle.cbm_session.specs.Playing.{at_rest}
use Rattle.cbm_session.specs.Sessions.{IsDrive}

module _ {D : Type 0} (shows : D → Shown) (b : Party) (drive : IsDrive b) (start : ℕ) (request : Request) (channel : channel_of request ≤ 15) (before now : Cabled D) (trail : List Shown) (m : Playback)
    (began : IsBusAt D Playback (IsPlayedBack shows trail) before.host before.drives (at_rest Playback played_step played_says (λ d. m) (b ∷ []))) where
  pub carried_anyway : (p : Performing) (old new : List Event) (bytes : List ℕ) (last : Bool) (end : ℕ)
      → HasPerformed D Playback (IsPlayedBack shows []) played_step played_says (engine_at start b.device request) (start + longest b.pace) p now old new bytes last (at_rest Playback played_step played_says (λ d. m) (b ∷ []))
      → ((t : ℕ) → stage_end p.engine.stage ≡ Some t → t ≤ p.limit → end ≡ t) → IsCarriedOutAnyway shows b start request before now old new bytes last end
  carried_anyway p old new bytes last end h over = record {
    played = m;
    trail = trail;
    began = began;
    done = λ small. done small;
    rests = λ small. (let k = done small in rests_again shows b now [] k.machine k.now);
  }
    where
      done : IsModest request → HasCarriedOut D Playback (IsPlayedBack shows []) played_step played_says b (λ d. m) start request now old new bytes last end
      done small =
          let short = is_short b.device m request small in
          let some = some_end D Playback (IsPlayedBack shows []) played_step played_says played_machine b drive (λ d. m) start request channel short p now old new bytes last h in
          let soon = carried_soon D Playback (IsPlayedBack shows []) played_step played_says played_machine b drive (λ d. m) start request channel short p now old new bytes last h some.0 some.1 in
          let until = h.until in
          let same = over some.0 some.1 (omega (arith, soon, until)) in
          carried_out_then D Playback (IsPlayedBack shows []) played_step played_says played_machine b drive (λ d. m) start request channel short p now old new bytes last h end (some.1 ∙ ap (λ (t : ℕ). Some t) (sym same))
