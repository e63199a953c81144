-- What a drive's machine is handed, whatever the host does with the lines and whenever: also where no timing is kept.
use Rattle.std.specs.Prelude.{◌≡◌, ◌+◌, ◌≤◌, ◌||◌, ℕ, zero, suc, Bool, true, false, not, List, [], ◌∷◌, ◌++◌, map, length, nat_eq, nat_le, nat_lt, if◌then◌else◌, Option, Some, None}
use Rattle.cbm_iec.specs.Changes.{is_pull}
use Rattle.cbm_iec.specs.Hearing.{ear_due, ear_row, is_same, after_lines, after_release}
use Rattle.cbm_iec.specs.Roles.{role_with}
use Rattle.cbm_iec.specs.declared.machine.Act.TheVariants.{Pulled, Attention, Released, Heard, Said, Silent}
use Rattle.cbm_iec.specs.declared.machine.Act.{Act}
use Rattle.cbm_iec.specs.declared.ear.Ear.TheVariants.{Idle, Starting, Leaving, Returning}
use Rattle.cbm_iec.specs.declared.ear.Ear.{Ear}
use Rattle.cbm_iec.specs.declared.event.Event.{Event}
use Rattle.cbm_iec.specs.declared.event.Who.TheVariants.{Host, Drive}
use Rattle.cbm_iec.specs.declared.event.Who.{Who}
use Rattle.cbm_iec.specs.declared.lines.Line.TheVariants.{Atn, Clock, Data}
use Rattle.cbm_iec.specs.declared.lines.Line.{Line}
use Rattle.cbm_iec.specs.declared.lines.Way.TheVariants.{Pull, Free}
use Rattle.cbm_iec.specs.declared.lines.Way.{Way}
use Rattle.cbm_iec.specs.declared.lines.Lines.{Lines}
use Rattle.cbm_iec.specs.declared.pace.Pace.{Pace}
use Rattle.cbm_iec.specs.declared.party.Party.{Party}
use Rattle.cbm_iec.specs.declared.party.Role.TheVariants.{Absent, Listener, Talker}
use Rattle.cbm_iec.specs.declared.party.Role.{Role}
use Rattle.cbm_session.specs.Among.{Rest, wires_of, after_another, after_the_host}
use Rattle.cbm_session.specs.Answers.{Run}
use Rattle.cbm_session.specs.Bits.{number_of}
use Rattle.cbm_session.specs.Playing.{Station, nobody, AllLater, Plays, at_rest}
use Rattle.cbm_session.specs.Sessions.{AllUnlike}

-- ---- what a drive hears

-- A DRIVE THAT LISTENS, and its machine has no part in it: its role, what all others hold, and what it waits for. While it may talk it waits for nothing but ATN.
pub record Hearer : Type 0 where
  pub party : Party
  pub role : Role
  pub rest : Rest
  pub ear : Option Ear  -- none while it may talk

-- as it is switched on
abbrev pub newly : Party → Hearer
newly b = record { party = b; role = Absent; rest = nobody; ear = Some Idle }

-- when its next reaction is due
abbrev pub ear_time : Option Ear → Option ℕ
ear_time None = None
ear_time (Some ear) = ear_due ear

-- ATN was freed: a talker hears nothing from then on, a listener goes back to hold, and who has no role leaves the bus
abbrev pub ear_freed : ℕ → ℕ → Role → Option Ear → Option Ear
ear_freed r moment Absent ear = Some (Leaving (moment + r))
ear_freed r moment Listener None = Some (Returning (moment + r))
ear_freed r moment Listener (Some ear) = Some (after_release r moment ear)
ear_freed r moment Talker ear = None

-- CLOCK or DATA changed
abbrev pub ear_lined : ℕ → ℕ → Lines → Lines → Option Ear → Option Ear
ear_lined r moment was now None = None
ear_lined r moment was now (Some ear) = Some (after_lines r moment was now ear)

-- the others held these lines, and now hold those
abbrev pub ear_told : ℕ → ℕ → Lines → Lines → Role → Option Ear → Option Ear
ear_told r moment was now role ear =
    if is_same was.atn_low now.atn_low then ear_lined r moment was now ear else (if now.atn_low then Some (Starting (moment + r)) else ear_freed r moment role ear)

-- a drive that listens, told that all others hold this now
abbrev pub hears : ℕ → Rest → Hearer → Hearer
hears moment r h = record { party = h.party; role = h.role; rest = r; ear = ear_told h.party.reaction moment (wires_of h.rest) (wires_of r) h.role h.ear }

-- a change of ATN counts with its moment
abbrev pub atn_act : Lines → Lines → Option Act
atn_act was now = if is_same was.atn_low now.atn_low then None else Some (if now.atn_low then Pulled else Released)

-- what a drive that listens waits for after its own reaction
abbrev pub ear_moved : Pace → ℕ → ℕ → Lines → Option Ear → Option Ear
ear_moved e r moment others None = None
ear_moved e r moment others (Some ear) = Some ((ear_row e ear).next r moment others)

-- the act that counts with its own reaction: a byte counts with its accept
abbrev pub ear_act : Pace → Lines → Option Ear → Option Act
ear_act e others None = None
ear_act e others (Some ear) = (ear_row e ear).act others

-- a drive that listens, after its own reaction at this moment; a byte in attention makes its role
abbrev pub moves : ℕ → Hearer → Hearer
moves moment h = record {
  party = h.party;
  role = role_with h.party.device (ear_act h.party.pace (wires_of h.rest) h.ear) h.role;
  rest = h.rest;
  ear = ear_moved h.party.pace h.party.reaction moment (wires_of h.rest) h.ear;
}

-- ---- the trace, as a drive sees it

-- an event and those after it; a drive's own is left out
abbrev pub unless_own : ℕ → Who → Event → List Event → List Event
unless_own d Host e es = e ∷ es
unless_own d (Drive o) e es = if nat_eq d o then es else e ∷ es

-- what the host and the other drives did
abbrev pub others_of : ℕ → List Event → List Event
others_of d [] = []
others_of d (e ∷ es) = unless_own d e.who e (others_of d es)

-- what all others hold after an event of theirs
abbrev pub rest_afterwards : Who → Line → Way → Rest → Rest
rest_afterwards Host line way r = after_the_host line way r
rest_afterwards (Drive o) line way r = after_another line way r

-- whether it is one of these device numbers
abbrev pub is_one_of : ℕ → List ℕ → Bool
is_one_of d [] = false
is_one_of d (x ∷ xs) = nat_eq d x || is_one_of d xs

-- A reaction at t comes before this event of another party: at one moment the host is first, then the drives are in the order of the bus. `later` are
-- the devices after this one in that order.
abbrev pub is_before : List ℕ → ℕ → Who → ℕ → Bool
is_before later t Host moment = nat_lt t moment
is_before later t (Drive o) moment = if is_one_of o later then nat_le t moment else nat_lt t moment

-- before all that is to come, or, where nothing comes, up to the end
abbrev pub comes_next : List ℕ → ℕ → ℕ → List Event → Bool
comes_next later end t [] = nat_le t end
comes_next later end t (e ∷ es) = is_before later t e.who e.change.moment

-- nothing that is due comes before what comes next
abbrev pub IsNothingDue : List ℕ → ℕ → Option ℕ → List Event → Type 0
IsNothingDue later end None es = Unit {0}
IsNothingDue later end (Some t) es = comes_next later end t es ≡ false

-- ---- the acts

-- acts with one before them, or none
abbrev pub with_act : Option Act → List Act → List Act
with_act None acts = acts
with_act (Some act) acts = act ∷ acts

-- what a drive that talks answers: its byte was taken, or it has none
abbrev pub is_answer : Act → Bool
is_answer Pulled = false
is_answer (Attention byte) = false
is_answer Released = false
is_answer (Heard byte eoi) = false
is_answer (Said byte last) = true
is_answer Silent = true

-- the acts but for its answers
abbrev pub heard_of : List Act → List Act
heard_of [] = []
heard_of (act ∷ acts) = if is_answer act then heard_of acts else act ∷ heard_of acts

-- THE WIRES HAND THESE ACTS to a drive, by what the host and the other drives do up to an end: ATN's changes, and the bytes that it accepts, each in its
-- turn; and, while it may talk, its answers.
pub data Hands (later : List ℕ) (end : ℕ) : Hearer → List Event → List Act → Type 0 where
  ends : {h : Hearer} {es : List Event} {acts : List Act} → es ≡ [] → acts ≡ [] → IsNothingDue later end (ear_time h.ear) es → Hands later end h es acts
  tells : {h : Hearer} {es : List Event} {acts : List Act} (e : Event) (more : List Event) (rest : List Act) → es ≡ e ∷ more → IsNothingDue later end (ear_time h.ear) es
      → acts ≡ with_act (atn_act (wires_of h.rest) (wires_of (rest_afterwards e.who e.change.line e.change.way h.rest))) rest
      → Hands later end (hears e.change.moment (rest_afterwards e.who e.change.line e.change.way h.rest) h) more rest → Hands later end h es acts
  reacts : {h : Hearer} {es : List Event} {acts : List Act} (t : ℕ) (rest : List Act) → ear_time h.ear ≡ Some t → comes_next later end t es ≡ true
      → acts ≡ with_act (ear_act h.party.pace (wires_of h.rest) h.ear) rest → Hands later end (moves t h) es rest → Hands later end h es acts
  answers : {h : Hearer} {es : List Event} {acts : List Act} (act : Act) (rest : List Act) → h.ear ≡ None → is_answer act ≡ true → acts ≡ act ∷ rest
      → Hands later end h es rest → Hands later end h es acts

-- WHAT A DRIVE HEARS IS A FUNCTION OF THE WIRES: of two lists of acts that they hand to it, all but its answers are the same.
abbrev pub HearsOne : Type 0
HearsOne = (later : List ℕ) (end : ℕ) (h : Hearer) (es : List Event) (xs ys : List Act) → Hands later end h es xs → Hands later end h es ys → heard_of xs ≡ heard_of ys

-- ---- what a drive says

-- WHAT THE WIRES SHOWED OF A DRIVE THAT TALKS: whether ATN is pulled, whether the drive holds DATA, and the bits of the byte under way, none before it offers one.
pub record Voice : Type 0 where
  pub atn : Bool
  pub low : Bool
  pub bits : Option (List Bool)

-- what the wires showed at first: nothing
abbrev pub quiet_voice : Voice
quiet_voice = record { atn = false; low = false; bits = None }

-- its CLOCK was freed: it offers a byte, or a bit of it stands on the wire, 1 where it leaves DATA free
abbrev pub clocked : Bool → Option (List Bool) → Option (List Bool)
clocked low None = Some []
clocked low (Some bits) = Some (bits ++ not low ∷ [])

-- what the wires showed, after a change of the drive's own
abbrev pub voiced : Line → Way → Voice → Voice
voiced Atn way v = v
voiced Clock Pull v = v
voiced Clock Free v = record { atn = v.atn; low = v.low; bits = clocked v.low v.bits }
voiced Data Pull v = record { atn = v.atn; low = true; bits = v.bits }
voiced Data Free v = record { atn = v.atn; low = false; bits = v.bits }

-- what they showed, after a change of the host: one of ATN cuts the byte
abbrev pub cut_by : Line → Way → Voice → Voice
cut_by Atn way v = if is_same v.atn (is_pull way) then v else (record { atn = is_pull way; low = v.low; bits = None })
cut_by Clock way v = v
cut_by Data way v = v

-- what they showed, after a change of any party: another drive's shows nothing of this one
abbrev pub voice_by : ℕ → Who → Line → Way → Voice → Voice
voice_by d Host line way v = cut_by line way v
voice_by d (Drive o) line way v = if nat_eq d o then voiced line way v else v

-- whether the act is that a byte was taken
abbrev pub is_said : Act → Bool
is_said Pulled = false
is_said (Attention byte) = false
is_said Released = false
is_said (Heard byte eoi) = false
is_said (Said byte last) = true
is_said Silent = false

-- the bytes that were taken
abbrev pub said_of : List Act → List Act
said_of [] = []
said_of (act ∷ acts) = if is_said act then act ∷ said_of acts else said_of acts

-- THE WIRES SHOWED THESE BYTES: each one that was taken is the number of the eight bits that the drive showed since it offered it, and is taken once.
pub data HasSaid (d : ℕ) : Voice → List Event → List Act → Type 0 where
  over : {v : Voice} {es : List Event} {acts : List Act} → es ≡ [] → acts ≡ [] → HasSaid d v es acts
  passes : {v : Voice} {es : List Event} {acts : List Act} (e : Event) (more : List Event) → es ≡ e ∷ more → HasSaid d (voice_by d e.who e.change.line e.change.way v) more acts → HasSaid d v es acts
  says : {v : Voice} {es : List Event} {acts : List Act} (byte : ℕ) (last : Bool) (bits : List Bool) (rest : List Act) → v.bits ≡ Some bits → length bits ≡ 8 → number_of bits ≡ byte
      → acts ≡ Said byte last ∷ rest → HasSaid d (record { atn = v.atn; low = v.low; bits = None }) es rest → HasSaid d v es acts

-- ---- any host

-- each of these drives takes at least one microsecond to react
abbrev pub AllReact : List Party → Type 0
AllReact [] = Unit {0}
AllReact (b ∷ bs) = (1 ≤ b.reaction) × AllReact bs

module _ (M : Type 0) (step : M → Act → M) (peek : M → Option (ℕ × Bool)) where
  -- THE MACHINE OF A DRIVE RAN WHAT THE WIRES HANDED IT, and each byte that it said, bit by bit, was the one that it had to say then.
  pub record IsHanded (later : List ℕ) (end : ℕ) (b : Party) (m : M) (trace : List Event) (s : Station M) : Type 0 where
    pub acts : List Act
    pub hands : Hands later end (newly b) (others_of b.device trace) acts
    pub says : HasSaid b.device quiet_voice trace (said_of acts)
    pub ran : Run M step peek m acts s.machine

  -- this is so of each drive of a bus and its station, in their order
  abbrev pub AllHanded : ℕ → (ℕ → M) → List Event → List Party → List (Station M) → Type 0
  AllHanded end ms trace [] [] = Unit {0}
  AllHanded end ms trace [] (s ∷ ss) = ⊥
  AllHanded end ms trace (b ∷ bs) [] = ⊥
  AllHanded end ms trace (b ∷ bs) (s ∷ ss) = IsHanded (map (λ x. x.device) bs) end b (ms b.device) trace s × AllHanded end ms trace bs ss

  -- So it is of each drive of a bus, under every list of changes of the host, once all that is due up to an end has happened.
  abbrev pub HandsEach : Type 0
  HandsEach = (bs : List Party) (ms : ℕ → M) (n end : ℕ) (trace : List Event) (ss : List (Station M)) → AllUnlike bs → AllReact bs → Plays M step peek zero (at_rest M step peek ms bs) trace n ss
      → n ≤ suc end → AllLater M step peek end ss → AllHanded end ms trace bs ss
