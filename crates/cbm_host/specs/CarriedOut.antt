-- A request carried out on a bus with one drive, from rest: what the drive's machine ran, and what the host has of it.
use Rattle.std.specs.List.{All}
use Rattle.std.specs.Prelude.{replicate, ◌≡◌, ◌≤◌, ◌<◌, ◌⊎◌, ℕ, ◌+◌, Bool, true, false, List, [], ◌∷◌, ◌++◌, length, Option, Some}
use Rattle.cbm_iec.specs.declared.machine.Act.TheVariants.{Pulled, Attention, Released, Heard, Said, Silent}
use Rattle.cbm_iec.specs.declared.machine.Act.{Act}
use Rattle.cbm_iec.specs.declared.event.Event.{Event}
use Rattle.cbm_iec.specs.declared.party.Party.{Party}
use Rattle.cbm_session.specs.Answers.{Run, run_acts}
use Rattle.cbm_session.specs.Playing.{at_rest, IsKept}
use Rattle.cbm_session.specs.Timing.{HostKeeps}
use Rattle.cbm_drive.specs.Cables.{Cabled}
use Rattle.cbm_drive.specs.Seats.{IsBusAt}
use Rattle.cbm_iec.specs.Attentions.{listen, unlisten, talk, untalk, data_on, close_on, open_on}
use Rattle.cbm_host.specs.Engines.{is_last_byte, sent_by, most_bytes, most_of}
use Rattle.cbm_host.specs.Requests.{longest}
use Rattle.cbm_host.specs.declared.request.Request.{Request}
use Rattle.cbm_host.specs.declared.request.Request.TheVariants.{Open, Put, Fill, Get, Close, Status}

-- the acts of bytes heard, the last with EOI
abbrev pub acts_heard : List ℕ → List Act
acts_heard [] = []
acts_heard (byte ∷ left) = Heard byte (is_last_byte left) ∷ acts_heard left

-- the acts of bytes said, of which this is the first, the last with EOI or not
abbrev pub spoken : Bool → ℕ → List ℕ → List Act
spoken last byte [] = Said byte last ∷ []
spoken last byte (next ∷ more) = Said byte false ∷ spoken last next more

-- the acts of bytes said; of none of them silence
abbrev pub said : List ℕ → Bool → List Act
said [] last = Silent ∷ []
said (byte ∷ more) last = spoken last byte more

-- the acts of an attention of two bytes up to ATN's release
abbrev pub acts_called : ℕ → ℕ → List Act
acts_called one two = Pulled ∷ Attention one ∷ Attention two ∷ Released ∷ []

-- the acts of the attention after the bytes, of this byte alone
abbrev pub left_by : ℕ → List Act
left_by byte = Pulled ∷ Attention byte ∷ Released ∷ []

-- WHAT A REQUEST IS TO A DRIVE'S MACHINE with this device number, where it says these bytes
abbrev pub acts_carried_out : ℕ → Request → List ℕ → Bool → List Act
acts_carried_out d (Open channel text) bytes last = acts_called (listen + d) (open_on + channel) ++ (acts_heard text.now ++ left_by unlisten)
acts_carried_out d (Put channel sent) bytes last = acts_called (listen + d) (data_on + channel) ++ (acts_heard sent.now ++ left_by unlisten)
acts_carried_out d (Fill channel count byte) bytes last = acts_called (listen + d) (data_on + channel) ++ (acts_heard (replicate count byte) ++ left_by unlisten)
acts_carried_out d (Get channel most) bytes last = acts_called (talk + d) (data_on + channel) ++ (said bytes last ++ left_by untalk)
acts_carried_out d (Close channel) bytes last = Pulled ∷ Attention (listen + d) ∷ Attention (close_on + channel) ∷ Attention unlisten ∷ Released ∷ []
acts_carried_out d Status bytes last = acts_called (talk + d) (data_on + 15) ++ (said bytes last ++ left_by untalk)

-- how many bytes the host takes: none; or up to the one with EOI, and without EOI as many as were wanted
abbrev pub IsTakenUpTo : ℕ → List ℕ → Bool → Type 0
IsTakenUpTo most bytes last = (length bytes ≤ most) × (((last ≡ true) × (1 ≤ length bytes)) ⊎ ((last ≡ false) × ((bytes ≡ []) ⊎ (length bytes ≡ most))))

-- the bytes that the host takes in a request: those of a talker so, and of any other request none
abbrev pub AreTakenBy : Request → List ℕ → Bool → Type 0
AreTakenBy (Get channel most) bytes last = IsTakenUpTo most bytes last
AreTakenBy Status bytes last = IsTakenUpTo (most_of Status) bytes last
AreTakenBy request bytes last = (bytes ≡ []) × (last ≡ false)

-- each of these is a byte
abbrev pub AreBytes : List ℕ → Type 0
AreBytes [] = Unit {0}
AreBytes (byte ∷ bytes) = (byte < 256) × AreBytes bytes

module _ (M : Type 0) (step : M → Act → M) (says : M → Option (ℕ × Bool)) where
  -- these bytes the machine says one after another, none with EOI
  abbrev pub SaysOn : M → List ℕ → Type 0
  SaysOn m [] = Unit {0}
  SaysOn m (byte ∷ bytes) = (says m ≡ Some (byte, false)) × SaysOn (step m (Said byte false)) bytes

  -- of a talker at least one byte is wanted, and before the host has all that it wants, or EOI, the talker says fewer than 200,000
  abbrev pub SaysFew : ℕ → M → Type 0
  SaysFew most m = (1 ≤ most) × ((bytes : List ℕ) → SaysOn m bytes → length bytes < most → length bytes < most_bytes)

  -- A REQUEST OF AT MOST 200,000 BYTES: no more are sent, or the talker says no more.
  abbrev pub IsShort : ℕ → M → Request → Type 0
  IsShort d m (Get channel most) = SaysFew most (run_acts M step says m (acts_called (talk + d) (data_on + channel)))
  IsShort d m Status = SaysFew (most_of Status) (run_acts M step says m (acts_called (talk + d) (data_on + 15)))
  IsShort d m request = (length (sent_by request) ≤ most_bytes) × AreBytes (sent_by request)

  -- A REQUEST WAS CARRIED OUT, by these events, none before the start or after this end: the host kept the bus's timing; the events are a beginning of
  -- a session in which each byte said is the machine's answer, and no reaction was late; the machine ran exactly the acts of the request with these bytes;
  -- and with it the bus is at rest.
  pub record IsCarriedOut (b : Party) (ms : ℕ → M) (start : ℕ) (request : Request) (made : List Event) (bytes : List ℕ) (last : Bool) (end : ℕ) (machine : M) : Type 0 where
    pub timing : HostKeeps (b ∷ []) made end
    pub kept : IsKept M step says (b ∷ []) ms made end (at_rest M step says (λ d. machine) (b ∷ []))
    pub ran : Run M step says (ms b.device) (acts_carried_out b.device request bytes last) machine
    pub taken : AreTakenBy request bytes last
    pub within : All (λ (e : Event). (start ≤ e.change.moment) × (e.change.moment ≤ end)) made
    pub later : start ≤ end
    pub soon : end ≤ start + longest b.pace

module _ (D M : Type 0) (stands : D → M → Type 0) (step : M → Act → M) (says : M → Option (ℕ × Bool)) where
  -- The events were added, and the bus is at rest with the machine that carried out the request, so that another request may come.
  pub record HasCarriedOut (b : Party) (ms : ℕ → M) (start : ℕ) (request : Request) (bus : Cabled D) (old new : List Event) (bytes : List ℕ) (last : Bool) (end : ℕ) : Type 0 where
    pub made : List Event
    pub added : new ≡ old ++ made
    pub machine : M
    pub now : IsBusAt D M stands bus.host bus.drives (at_rest M step says (λ d. machine) (b ∷ []))
    pub done : IsCarriedOut M step says b ms start request made bytes last end machine
