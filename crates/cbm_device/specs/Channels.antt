-- Bytes to a channel of a drive and from it by calls: the acts that the drive is told, in place of those that its wires bring.
use Rattle.std.specs.Prelude.{ℕ, zero, suc, ◌≡◌, ◌≢◌, ◌≤◌, ◌<◌, ◌+◌, ◌⊎◌, ◌==◌, Bool, true, false, List, [], ◌∷◌, ◌++◌, length, Option, Some, None, if◌then◌else◌}
use Rattle.cbm_iec.specs.Attentions.{listen, talk, unlisten, untalk, data_on, close_on, open_on}
use Rattle.cbm_iec.specs.Machines.{IsShownAfter}
use Rattle.cbm_iec.specs.Ports.{resting}
use Rattle.cbm_iec.specs.declared.machine.Act.{Act}
use Rattle.cbm_iec.specs.declared.machine.Act.TheVariants.{Pulled, Attention, Released, Heard, Said}
use Rattle.cbm_iec.specs.declared.port.Port.{Port}
use Rattle.cbm_channel.specs.Standing.{Kept}
use Rattle.cbm_machine.specs.Machines.{Machine}
use Rattle.cbm_drive.specs.Desks.{Desk, DeskStands, desk_step, desk_says, desk_shows}
use Rattle.cbm_device.specs.Devices.{OnLines}
use Rattle.cbm_device.specs.ImageDisks.{Counted, counted_seen}

-- ---- the acts of a call

-- two bytes in attention
abbrev pub attention_acts : ℕ → ℕ → List Act
attention_acts first second = Pulled ∷ Attention first ∷ Attention second ∷ Released ∷ []

-- the byte in attention that ends the drive's role
abbrev pub leaving_acts : ℕ → List Act
leaving_acts byte = Pulled ∷ Attention byte ∷ Released ∷ []

-- bytes that come to the listener, the last with EOI
abbrev pub heard_each : List ℕ → List Act
heard_each [] = []
heard_each (byte ∷ rest) = Heard byte (length rest == 0) ∷ heard_each rest

-- LISTEN to this device, a secondary address, these bytes, UNLISTEN
abbrev pub sending_acts : ℕ → ℕ → List ℕ → List Act
sending_acts device second bytes = attention_acts (listen + device) second ++ heard_each bytes ++ leaving_acts unlisten

-- OPEN of a channel with a text, or on 15 a command
abbrev pub opening_acts : ℕ → ℕ → List ℕ → List Act
opening_acts device channel text = sending_acts device (open_on + channel) text

-- bytes for a channel
abbrev pub writing_acts : ℕ → ℕ → List ℕ → List Act
writing_acts device channel bytes = sending_acts device (data_on + channel) bytes

-- CLOSE of a channel, all in one attention
abbrev pub closing_acts : ℕ → ℕ → List Act
closing_acts device channel = Pulled ∷ Attention (listen + device) ∷ Attention (close_on + channel) ∷ Attention unlisten ∷ Released ∷ []

-- ---- what a machine becomes with them

module _ {D : Type 0} (tells : Act → D → D → Type 0) where
  -- IT IS TOLD THESE ACTS, one after another.
  abbrev pub IsToldAll : List Act → D → D → Type 0
  IsToldAll [] x y = y ≡ x
  IsToldAll (act ∷ acts) x y = (z : D) × tells act x z × IsToldAll acts z y

  module _ (is_shown : D → Option (ℕ × Bool) → Type 0) where
    -- IT SAYS THESE BYTES, at most so many, and each is taken: up to the one that is marked as the last, or until it has none to say.
    pub data Speaks : ℕ → List ℕ → Bool → D → D → Type 0 where
      full : {n : ℕ} {bytes : List ℕ} {marked : Bool} {x y : D} → n ≡ 0 → bytes ≡ [] → marked ≡ false → y ≡ x → Speaks n bytes marked x y
      silent : {n : ℕ} {bytes : List ℕ} {marked : Bool} {x y : D} → is_shown x None → bytes ≡ [] → marked ≡ false → y ≡ x → Speaks n bytes marked x y
      last : {n : ℕ} {bytes : List ℕ} {marked : Bool} {x y : D} (m byte : ℕ) → n ≡ suc m → is_shown x (Some (byte, true)) → tells (Said byte true) x y
          → bytes ≡ byte ∷ [] → marked ≡ true → Speaks n bytes marked x y
      more : {n : ℕ} {bytes : List ℕ} {marked : Bool} {x y : D} (m byte : ℕ) (rest : List ℕ) (z : D) → n ≡ suc m → is_shown x (Some (byte, false)) → tells (Said byte false) x z
          → bytes ≡ byte ∷ rest → Speaks m rest marked z y → Speaks n bytes marked x y

    -- IT TALKS ON A CHANNEL, of which at most so many bytes are taken: TALK to this device, the secondary address, the bytes, UNTALK.
    pub record Talks (device channel most : ℕ) (bytes : List ℕ) (marked : Bool) (x y : D) : Type 0 where
      pub asked : D
      pub spoken : D
      pub begins : IsToldAll (attention_acts (talk + device) (data_on + channel)) x asked
      pub speaks : Speaks most bytes marked asked spoken
      pub ends : IsToldAll (leaving_acts untalk) spoken y

-- an act as a call tells it: what is made of it is taken
abbrev pub by_call : {A D : Type 0} → (Act → A → Type 0) → (A → D → D → Type 0) → Act → D → D → Type 0
by_call makes takes act x y = (a : _) × makes act a × takes a x y

-- this is what a machine shows, whatever it represents, and what each state says that it represents
abbrev pub IsPeeked : {D S : Type 0} → (D → Option (ℕ × Bool)) → (D → S → Type 0) → (S → Option (ℕ × Bool)) → D → Option (ℕ × Bool) → Type 0
IsPeeked shows stands says x shown = (shown ≡ shows x) × ((m : _) → stands x m → shown ≡ says m)

-- ---- when a call may be made

-- The channel is one, the drive's number is one of the bus, and the wires are at rest: the drive has no role, nobody pulls a line, and nothing is due.
abbrev pub IsCallable : ℕ → Port → Type 0
IsCallable channel p = (channel ≤ 15) × (p.party.device ≤ 30) × (p ≡ resting p.party)

-- one of them isn't so
abbrev pub IsUncallable : ℕ → Port → Type 0
IsUncallable channel p = (15 < channel) ⊎ ((30 < p.party.device) ⊎ (p ≢ resting p.party))

-- ---- a drive with the disk of an image

-- A DESK IS TOLD AN ACT by a call: what it shows then is what a machine may show that acts so, its disk has as many tracks, and the act leads from each machine that it
-- represents to that machine's next state.
pub record DeskIsTold (act : Act) (old new : Desk (Kept Counted)) : Type 0 where
  pub shown : IsShownAfter act (desk_shows old) (desk_shows new)
  pub tracks : (counted_seen new.dos.medium).tracks ≡ (counted_seen old.dos.medium).tracks
  pub stands : (m : Desk Machine) → DeskStands counted_seen old m → DeskStands counted_seen new (desk_step m act)

-- the machine after acts
abbrev pub desk_after : List Act → Desk Machine → Desk Machine
desk_after [] m = m
desk_after (act ∷ acts) m = desk_after acts (desk_step m act)

-- what a machine says, up to so many bytes: the bytes, whether the last is marked so, and the machine then
pub record DeskSaid : Type 0 where
  pub bytes : List ℕ
  pub marked : Bool
  pub machine : Desk Machine

-- a byte before these
abbrev pub said_after : ℕ → DeskSaid → DeskSaid
said_after byte said = record said { bytes = byte ∷ said.bytes }

-- up to the byte that is marked as the last, or until it has none to say
abbrev pub desk_speaks : ℕ → Desk Machine → DeskSaid
desk_speaks zero m = record { bytes = []; marked = false; machine = m }
desk_speaks (suc n) m = elim (desk_says m) [
  | None ↦ record { bytes = []; marked = false; machine = m }
  | Some p ↦
      if p.1 then record { bytes = p.0 ∷ []; marked = true; machine = desk_step m (Said p.0 true) }
      else said_after p.0 (desk_speaks n (desk_step m (Said p.0 false)))
]

-- a machine talks on a channel, of which at most so many bytes are taken
abbrev pub desk_talks : ℕ → ℕ → ℕ → Desk Machine → DeskSaid
desk_talks device channel most m =
    let said = desk_speaks most (desk_after (attention_acts (talk + device) (data_on + channel)) m) in
    record said { machine = desk_after (leaving_acts untalk) said.machine }

-- THE DRIVE WAS TOLD ACTS BY A CALL, and each machine that it represents with it. Its port, the format of its disk and its latest moment stay.
pub record HasBeenTold (acts : List Act) (old new : OnLines) : Type 0 where
  pub machine : IsToldAll DeskIsTold acts old.seat.machine new.seat.machine
  pub stands : (m : Desk Machine) → DeskStands counted_seen old.seat.machine m → DeskStands counted_seen new.seat.machine (desk_after acts m)
  pub port : new.seat.port ≡ old.seat.port
  pub kind : new.kind ≡ old.kind
  pub latest : new.latest ≡ old.latest

-- what a desk shows, and each machine says that it represents
abbrev pub DeskShows : Desk (Kept Counted) → Option (ℕ × Bool) → Type 0
DeskShows x shown = IsPeeked desk_shows (λ y m. DeskStands counted_seen y m) desk_says x shown

-- THE DRIVE TALKED TO A CALL: these bytes were taken, which each machine that it represents says, too.
pub record HasTalked (channel most : ℕ) (bytes : List ℕ) (marked : Bool) (old new : OnLines) : Type 0 where
  pub machine : Talks DeskIsTold DeskShows old.seat.port.party.device channel most bytes marked old.seat.machine new.seat.machine
  pub stands : (m : Desk Machine) → DeskStands counted_seen old.seat.machine m → (let said = desk_talks old.seat.port.party.device channel most m in
      (bytes ≡ said.bytes) × (marked ≡ said.marked) × DeskStands counted_seen new.seat.machine said.machine)
  pub port : new.seat.port ≡ old.seat.port
  pub kind : new.kind ≡ old.kind
  pub latest : new.latest ≡ old.latest
