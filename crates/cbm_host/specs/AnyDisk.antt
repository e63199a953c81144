-- A request to a drive on any disk: what the drive showed is played back by a machine, and for that machine the request was carried out.
use Rattle.std.specs.Prelude.{◌≡◌, false, ◌<◌, ◌≤◌, ◌+◌, ◌++◌, ℕ, Bool, List, [], ◌∷◌, None, IfSome}
use Rattle.cbm_drive.specs.Cables.{Cabled}
use Rattle.cbm_channel.specs.Standing.{Kept}
use Rattle.cbm_file.specs.Files.{Disk}
use Rattle.cbm_machine.specs.Machines.{Machine}
use Rattle.cbm_machine.specs.Machines as files
use Rattle.cbm_medium.specs.Seen.{Seen}
use Rattle.cbm_volume.specs.Holding.{HoldsDisk}
use Rattle.cbm_drive.specs.Desks.{Desk, desk_shows}
use Rattle.cbm_drive.specs.Seats.{IsBusAt}
use Rattle.cbm_host.specs.CarriedOut.{HasCarriedOut}
use Rattle.cbm_host.specs.Engines.{engine_at}
use Rattle.cbm_host.specs.Hosted.{IsTaking, Hosting, Rests, IsUnderWay, tracks_on, party_of}
use Rattle.cbm_host.specs.Performed.{IsCutShort}
use Rattle.cbm_drive.specs.Playback.{Shown, Playback, played_says, played_step, IsPlayedBack}
use Rattle.cbm_host.specs.Performers.{Performing}
use Rattle.cbm_host.specs.Requests.{longest}
use Rattle.cbm_host.specs.Served.{IsModest}
use Rattle.cbm_host.specs.declared.request.Request.{Request}
use Rattle.cbm_iec.specs.declared.event.Event.{Event}
use Rattle.cbm_iec.specs.declared.pace.Pace.{Pace}
use Rattle.cbm_iec.specs.declared.party.Party.{Party}
use Rattle.cbm_session.specs.Playing.{at_rest}

module _ {D : Type 0} (shows : D → Shown) where
  -- THE DRIVE IS AT REST: all lines are free and nothing is due; it shows a byte, or nothing to say.
  abbrev pub IsAtRestAnyway : Party → Cabled D → Type 0
  IsAtRestAnyway b bus = IsBusAt D (Unit {0}) (λ x u. IfSome (shows x) (λ s. s.0 < 256)) bus.host bus.drives (at_rest (Unit {0}) (λ u act. u) (λ u. None) (λ d. tt) (b ∷ []))

  -- THE REQUEST WAS CARRIED OUT, whatever the disk: this machine plays back what the drive showed from the beginning on, for it the request was carried out,
  -- and the drive is at rest again, so that another request may come. Nothing is asked of the drive or its disk, only that the request is of at most 200,000
  -- bytes.
  pub record IsCarriedOutAnyway (b : Party) (start : ℕ) (request : Request) (before now : Cabled D) (old new : List Event) (bytes : List ℕ) (last : Bool) (end : ℕ) : Type 0 where
    pub played : Playback
    pub trail : List Shown
    pub began : IsBusAt D Playback (IsPlayedBack shows trail) before.host before.drives (at_rest Playback played_step played_says (λ d. played) (b ∷ []))
    pub done : IsModest request → HasCarriedOut D Playback (IsPlayedBack shows []) played_step played_says b (λ d. played) start request now old new bytes last end
    pub rests : IsModest request → IsAtRestAnyway b now

  -- MEMORY RAN OUT, whatever the disk: the events that were added are a beginning of what such a machine made.
  pub record IsCutShortAnyway (b : Party) (before now : Cabled D) (old new : List Event) : Type 0 where
    pub played : Playback
    pub trail : List Shown
    pub began : IsBusAt D Playback (IsPlayedBack shows trail) before.host before.drives (at_rest Playback played_step played_says (λ d. played) (b ∷ []))
    pub cut : IsCutShort D Playback (IsPlayedBack shows []) played_step played_says now old new (at_rest Playback played_step played_says (λ d. played) (b ∷ []))

-- ---- a request taken byte by byte

module _ {D : Type 0} (shows : D → Shown) where
  -- A REQUEST IS UNDER WAY since this moment to the drive of this pace and device number, which was at rest, whatever its disk: where a machine plays back what
  -- the drive showed so far, and then these, it is one to that machine.
  pub record IsUnderWayAnyway (pace : Pace) (device start : ℕ) (bus : Cabled D) (p : Performing) (request : Request) : Type 0 where
    pub before : Cabled D
    pub rested : IsAtRestAnyway shows (party_of pace device) before
    pub trail : List Shown
    pub goes : (later : List Shown) (m : Playback) → IsBusAt D Playback (IsPlayedBack shows (trail ++ later)) before.host before.drives (at_rest Playback played_step played_says (λ d. m) (party_of pace device ∷ []))
        → (bytes : List ℕ) × (last : Bool) × IsTaking D Playback (IsPlayedBack shows later) played_step played_says (engine_at start device request) (start + longest pace) p bus bytes last (at_rest Playback played_step played_says (λ d. m) (party_of pace device ∷ []))

  -- IT IS OVER at that moment: where it was a request of at most 200,000 bytes, the drive is at rest again, and the moment isn't before the start.
  pub record IsOverAnyway (pace : Pace) (device start : ℕ) (bus : Cabled D) (moment : ℕ) (request : Request) : Type 0 where
    pub rests : IsModest request → IsAtRestAnyway shows (party_of pace device) bus
    pub later : IsModest request → start ≤ moment

-- THE DRIVE RESTS, on any disk.
abbrev pub RestsAnyway : {K : Type 0} → (Desk K → Shown) → Hosting K → Type 0
RestsAnyway shows h = IsAtRestAnyway shows (party_of h.pace h.device) h.bus

module _ {M : Type 0} (seen : M → Seen) where
  -- A DRIVE AT POWER UP with this medium, alone on a cable with a host.
  pub record IsPoweredUp (h : Hosting (Kept M)) (medium : M) (given : Pace) : Type 0 where
    -- With a sound disk it rests, for the machine that starts with that disk.
    pub rests : (d : Disk) → HoldsDisk (seen medium).tracks (seen medium).content d → Rests seen h (files.start d (seen medium).protected (seen medium).tracks)
    -- It rests on any disk.
    pub anyway : RestsAnyway desk_shows h
    pub tracks : tracks_on seen h ≡ (seen medium).tracks ∷ []
    -- The first request begins at this moment.
    pub moment : h.moment ≡ 1000
    pub pace : h.pace ≡ given

  -- A REQUEST BEGINS to a drive that rests, when the last one was over.
  pub record RequestBegins (h : Hosting (Kept M)) (p : Performing) (request : Request) : Type 0 where
    pub under_way : (m : Machine) → Rests seen h m → IsUnderWay seen h p m request [] false
    -- So it is on any disk.
    pub anyway : RestsAnyway desk_shows h → IsUnderWayAnyway desk_shows h.pace h.device h.moment h.bus p request
    -- The host gives up no later than such a drive may take.
    pub limit : p.limit ≡ h.moment + longest h.pace
