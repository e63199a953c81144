-- The wires moment by moment: as they were read, and as the parties' events make them.
use Rattle.std.specs.Prelude.{◌≡◌, ◌≤◌, ◌<◌, ◌^◌, ℕ, true, false, is_some, length, List, [], ◌∷◌, ◌++◌, if◌then◌else◌, nat_le, filter}
use Rattle.cbm_iec.specs.Changes.{lines_changed}
use Rattle.bus_wires.specs.Cable.{Parties, parties_of, parties_at_rest, Shows, parties_after}
use Rattle.bus_wires.specs.declared.looks.Look.{Look}
use Rattle.bus_wires.specs.declared.wires.Wires.{Wires}
use Rattle.bus_wires.specs.declared.wires.Unread.{Unread}
use Rattle.bus_wires.specs.declared.wires.Unread.TheVariants as unread
use Rattle.cbm_iec.specs.declared.event.Event.{Event}
use Rattle.cbm_iec.specs.declared.lines.Change.{Change}
use Rattle.cbm_iec.specs.declared.lines.Lines.{Lines}
use Rattle.cbm_iec.specs.declared.party.Party.{Party}

-- the wires after these changes, one after another
abbrev pub all_changed : List Change → Lines → Lines
all_changed [] lines = lines
all_changed (c ∷ cs) lines = all_changed cs (lines_changed c lines)

-- what the parties pull after these events, one after another
abbrev pub all_after : List Event → Parties → Parties
all_after [] p = p
all_after (e ∷ es) p = all_after es (parties_after e p)

-- the changes, and the events, up to a moment
abbrev pub changes_upto : ℕ → List Change → List Change
changes_upto m cs = filter (λ c. nat_le c.moment m) cs

abbrev pub events_upto : ℕ → List Event → List Event
events_upto m es = filter (λ e. nat_le e.change.moment m) es

-- all wires are free
abbrev pub no_line_low : Lines
no_line_low = record { atn_low = false; clock_low = false; data_low = false }

-- the wires at a moment, by the changes that were read: all are free before the first
abbrev pub read_at : ℕ → List Change → Lines
read_at m cs = all_changed (changes_upto m cs) no_line_low

-- what the parties pull at a moment, by their events: nothing before the first
abbrev pub pulled_at : ℕ → List Party → List Event → Parties
pulled_at m bs es = all_after (events_upto m es) (parties_at_rest bs)

-- THE EVENTS HAVE EXACTLY THE WIRES THAT WERE READ: at each moment a line is pulled by some party where its wire is pulled, and by none where it is free.
abbrev pub HaveWires : List Party → List Event → List Change → Type 0
HaveWires bs es cs = (m : ℕ) → Shows (pulled_at m bs es) (read_at m cs)

-- the wires at a moment, from those before the first of what is ahead
abbrev pub wires_at : ℕ → Lines → List Look → Lines
wires_at m before [] = before
wires_at m before (k ∷ ks) = if nat_le k.moment m then wires_at m k.wires ks else before

-- these come one after another, none before a moment
abbrev pub InTurn : ℕ → List Look → Type 0
InTurn from [] = Unit {0}
InTurn from (k ∷ ks) = (from ≤ k.moment) × InTurn k.moment ks

-- none of these events comes after a moment
abbrev pub AllUpto : ℕ → List Event → Type 0
AllUpto m [] = Unit {0}
AllUpto m (e ∷ es) = (e.change.moment ≤ m) × AllUpto m es

-- these changes were read and these events given: what the parties pull, the present moment with its wires, and what is ahead
pub record WiresStandAt (bs : List Party) (p : Parties) (moment : ℕ) (wires : Lines) (looks : List Look) (cs : List Change) (es : List Event) : Type 0 where
  pub parties : p ≡ all_after es (parties_at_rest bs)
  pub given : AllUpto moment es
  pub before : (m : ℕ) → m < moment → Shows (pulled_at m bs es) (read_at m cs)
  pub ahead : (m : ℕ) → moment ≤ m → read_at m cs ≡ wires_at m wires looks
  pub in_turn : InTurn moment looks

abbrev pub WiresStand : List Party → Wires → List Change → List Event → Type 0
WiresStand bs w cs es = WiresStandAt bs (parties_of w.hands) w.moment w.wires w.ahead.items cs es

-- this holds of the parties, the changes that were read and the events that were given, whatever these are
abbrev pub OfWires : Wires → (List Party → List Change → List Event → Type 0) → Type 0
OfWires w P = (bs : List Party) (cs : List Change) (es : List Event) → WiresStand bs w cs es → P bs cs es

-- one more change, and one more event
abbrev pub and_read : List Change → Change → List Change
and_read cs c = cs ++ c ∷ []

abbrev pub and_given : List Event → Event → List Event
and_given es e = es ++ e ∷ []

-- the last of these looks, or the one before them
abbrev pub last_look : Look → List Look → Look
last_look before [] = before
last_look before (k ∷ ks) = last_look k ks

-- the present moment, and its wires
abbrev pub present : Wires → Look
present w = record { moment = w.moment; wires = w.wires }

-- the last moment that is known, and its wires
abbrev pub last_known : Wires → Look
last_known w = last_look (present w) w.ahead.items

-- the moment of a change that is read next, and the wires after it
abbrev pub look_at : Wires → Change → Look
look_at w change = record { moment = change.moment; wires = lines_changed change (last_known w).wires }

-- WHY A CHANGE ISN'T READ: as many wait as may, it comes before the last one, its moment is too great, or the capture has ended.
abbrev pub IsUnread : Wires → Change → Unread → Type 0
IsUnread w change unread.Full = length w.ahead.items ≡ 16
IsUnread w change unread.Early = change.moment < (last_known w).moment
IsUnread w change unread.Far = 2 ^ 50 ≤ change.moment
IsUnread w change unread.Ended = is_some w.end ≡ true

-- what is ahead comes later than a moment; or not before it
abbrev pub FirstAfter : ℕ → List Look → Type 0
FirstAfter m [] = Unit {0}
FirstAfter m (k ∷ ks) = m < k.moment

abbrev pub NoneBefore : ℕ → List Look → Type 0
NoneBefore m [] = Unit {0}
NoneBefore m (k ∷ ks) = m ≤ k.moment

-- nothing more of the present moment is ahead
abbrev pub IsLookWhole : Wires → Type 0
IsLookWhole w = FirstAfter w.moment w.ahead.items

-- where that is so, the parties pull what the wires show
abbrev pub AreWiresSettled : Wires → Type 0
AreWiresSettled w = IsLookWhole w → Shows (parties_of w.hands) w.wires

-- as much is read and given as before, and the capture's end is the same
abbrev pub IsSameLook : Wires → Wires → Type 0
IsSameLook v w = (v.moment ≡ w.moment) × (v.wires ≡ w.wires) × (v.ahead.items ≡ w.ahead.items) × (v.end ≡ w.end)
