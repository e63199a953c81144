-- Each drive's own part of a piece goes by turns: it pulls a line that it leaves free and frees one that it holds, from what it holds at a point to what the session says after the piece.
use Rattle.cbm_iec.specs.declared.pace.Pace.TheVariants.{Profile, Kernal}
use Rattle.cbm_iec.specs.declared.pace.Pace.{Pace}
use Rattle.cbm_iec.specs.Profile.{bit_time}
use Rattle.std.proofs.Common.{◌≡◌, ℕ, ◌+◌, Bool, true, false, not, List, [], ◌∷◌, ◌++◌, Option, Some, None, ap, sym, ◌∙◌, subst, refl}
use Rattle.std.specs.Prelude.{if◌then◌else◌}
use Rattle.cbm_iec.specs.Changes.{is_pull, lines_after}
use Rattle.cbm_iec.specs.declared.machine.Act.TheVariants.{Attention, Heard, Said}
use Rattle.cbm_iec.specs.declared.machine.Act.{Act}
use Rattle.cbm_iec.specs.declared.lines.Line.TheVariants.{Atn, Clock, Data}
use Rattle.cbm_iec.specs.declared.lines.Line.{Line}
use Rattle.cbm_iec.specs.declared.lines.Way.TheVariants.{Pull, Free}
use Rattle.cbm_iec.specs.declared.lines.Way.{Way}
use Rattle.cbm_iec.specs.declared.lines.Held.{Held}
use Rattle.cbm_iec.specs.declared.lines.Lines.{Lines}
use Rattle.cbm_iec.specs.declared.party.Party.{Party}
use Rattle.cbm_iec.specs.declared.party.Role.TheVariants.{Absent, Listener, Talker}
use Rattle.cbm_iec.specs.declared.party.Role.{Role}
use Rattle.cbm_session.proofs.alone.Frames.{wires}
use Rattle.cbm_session.proofs.alone.Sessions.{lines_by, held_one, held_is}
use Rattle.cbm_session.proofs.among.Points.{none_talk, none_listen, both_each, StandsSo}
use Rattle.cbm_session.proofs.among.Standing.{HostAt}
use Rattle.cbm_session.proofs.frames.Phases.{Each, each}
use Rattle.cbm_session.proofs.reading.PieceReadings.{next_seat, seat, is_commanding}
use Rattle.cbm_session.specs.Bits.{where_held, where_free, BitCell, cell_steps, cells_steps, held_after, number_of, byte_in_cells}
use Rattle.cbm_session.specs.Buses.{OwnAt}
use Rattle.cbm_session.specs.Following.{in_attention}
use Rattle.cbm_session.specs.Frames.{Sent, Told, wire, end_of, hearing, sending, is_last, signal_steps, first_bit, bit_steps, telling, taking}
use Rattle.cbm_session.specs.Pieces.{silent_part, Whole, BusPlace, Point, freed_steps, host_part, let_go, own_part, Fits, is_none, held_by, told_place, whole_point, PullPiece, Command, Byte, ToListener, ToNobody, ToTalker, Nothing, Talk, Open, Commanding, Listening, Leading}
use Rattle.cbm_session.specs.Seats.{at_pace, lines, Seat, device, reaction, is_listener, is_talker, talker_of, listeners}
use Rattle.cbm_session.specs.Steps.{Step, host, drive, for_one}

-- a change of a line that is held the other way; and steps that are such changes, from the lines held before to those held then
abbrev pub Alters : Held → Line → Way → Type 0
Alters h Atn way = ⊥
Alters h Clock way = h.clock_low ≡ not (is_pull way)
Alters h Data way = h.data_low ≡ not (is_pull way)

abbrev pub Makes : Held → List Step → Held → Type 0
Makes h [] h2 = h2 ≡ h
Makes h (s ∷ ss) h2 = Alters h s.event.change.line s.event.change.way × Makes (held_one h s.event.change.line s.event.change.way) ss h2

-- so is each front of them
pub makes_front : (h h2 : Held) (xs ys : List Step) → Makes h (xs ++ ys) h2 → Makes h xs (held_by h xs)
makes_front h h2 [] ys m = refl
makes_front h h2 (x ∷ xs) ys m =
    let line = x.event.change.line in
    let way = x.event.change.way in
    (m.0, subst (λ (k : Held). Makes (held_one h line way) xs (held_by k xs)) (held_is h line way) (makes_front (held_one h line way) h2 xs ys m.1))

-- a frame that a drive hears, and one that it says
hearing_makes : (t : ℕ) (eoi : Bool) (act : Act) (f : Sent) (s : Seat) → Makes (lines false true) (hearing t eoi act f s) (lines false true)
hearing_makes t true act f s = (refl, (refl, (refl, (refl, refl))))
hearing_makes t false act f s = (refl, (refl, refl))

bits_make : (b : Party) (at : ℕ) (held : Bool) (bits : List Bool) (more : List Step) (h2 : Held) → Makes (lines true false) more h2 → Makes (lines false held) (bit_steps b at held bits ++ more) h2
bits_make b at true [] more h2 m = (refl, (refl, m))
bits_make b at false [] more h2 m = (refl, m)
bits_make b at true (true ∷ bits) more h2 m = (refl, (refl, (refl, bits_make b (at + bit_time b.pace) false bits more h2 m)))
bits_make b at false (true ∷ bits) more h2 m = (refl, (refl, bits_make b (at + bit_time b.pace) false bits more h2 m))
bits_make b at true (false ∷ bits) more h2 m = (refl, (refl, bits_make b (at + bit_time b.pace) true bits more h2 m))
bits_make b at false (false ∷ bits) more h2 m = (refl, (refl, (refl, bits_make b (at + bit_time b.pace) true bits more h2 m)))

telling_makes : (b : Party) (at : ℕ) (f : Told) → Makes (lines true false) (telling b at f) (lines (not (is_last f)) false)
telling_makes b at f = (refl, bits_make b (first_bit b f) false f.bits (if is_last f then drive b.device (f.accept + b.reaction) Clock Free ∷ [] else []) (lines (not (is_last f)) false) (go (is_last f)))
  where
    go : (v : Bool) → Makes (lines true false) (if v then drive b.device (f.accept + b.reaction) Clock Free ∷ [] else []) (lines (not v) false)
    go true = (refl, refl)
    go false = refl

-- each piece, by the role where it asks for that
abbrev pub SeatMakes : Point → Whole → Seat → Type 0
SeatMakes p w x = Makes x.own (own_part p w x) (next_seat w x).own

pull_makes : (p : Point) (at : ℕ) (x : Seat) → SeatMakes p (PullPiece at) x
pull_makes p at x = go x.own.clock_low x.own.data_low
  where
    go : (u v : Bool) → Makes (lines u v) (where_held u (drive (device x) (at + reaction x) Clock Free) ++ where_free v (drive (device x) (at + reaction x) Data Pull)) (lines false true)
    go true true = (refl, refl)
    go true false = (refl, (refl, refl))
    go false true = refl
    go false false = (refl, refl)

heard_makes : (t : ℕ) (eoi : Bool) (act : Act) (f : Sent) (x : Seat) → x.own ≡ lines false true → Makes x.own (hearing t eoi act f x) (lines false true)
heard_makes t eoi act f x e = subst (λ (h : Held). Makes h (hearing t eoi act f x) (lines false true)) (sym e) (hearing_makes t eoi act f x)

byte_makes : (p : Point) (eoi : Bool) (f : Sent) (b : Party) (r : Role) (o : Held) → OwnAt Listening r o → SeatMakes p (Byte eoi f) (seat b r o)
byte_makes p eoi f b Absent o e = sym e
byte_makes p eoi f b Listener o e = heard_makes (wire (listeners p.seats) f) eoi (Heard (byte_in_cells f.cells) eoi) f (seat b Listener o) e
byte_makes p eoi f b Talker o e = elim e [ ]

go_makes : (at : ℕ) (x : Seat) → x.own ≡ lines false true → Makes x.own (let_go at x) (lines false false)
go_makes at x e = subst (λ (h : Held). Makes h (let_go at x) (lines false false)) (sym e) (refl, refl)

listener_makes : (p : Point) (at : ℕ) (b : Party) (r : Role) (o : Held) → is_talker r ≡ false → o ≡ lines false true → SeatMakes p (ToListener at) (seat b r o)
listener_makes p at b Absent o h e = go_makes at (seat b Absent o) e
listener_makes p at b Listener o h e = sym e
listener_makes p at b Talker o h e = cc

nobody_makes : (p : Point) (at clock : ℕ) (b : Party) (r : Role) (o : Held) → is_listener r ≡ false → is_talker r ≡ false → o ≡ lines false true → SeatMakes p (ToNobody at clock) (seat b r o)
nobody_makes p at clock b Absent o l h e = go_makes at (seat b Absent o) e
nobody_makes p at clock b Listener o l h e = cc
nobody_makes p at clock b Talker o l h e = cc

talker_makes : (p : Point) (at clock : ℕ) (b : Party) (r : Role) (o : Held) → o ≡ lines false true → SeatMakes p (ToTalker at clock) (seat b r o)
talker_makes p at clock b Absent o e = go_makes at (seat b Absent o) e
talker_makes p at clock b Listener o e = sym e
talker_makes p at clock b Talker o e = subst (λ (h : Held). Makes h (own_part p (ToTalker at clock) (seat b Talker o)) (lines true false)) (sym e) (refl, (refl, refl))

silent_makes : (e : Pace) (d t : ℕ) → Makes (lines false true) (silent_part e d t) (lines false false)
silent_makes Profile d t = (refl, refl)
silent_makes Kernal d t = (refl, (refl, (refl, refl)))

nothing_makes : (p : Point) (at clock : ℕ) (freed : Option ℕ) (b : Party) (r : Role) (o : Held) → o ≡ lines false true → SeatMakes p (Nothing at clock freed) (seat b r o)
nothing_makes p at clock freed b Absent o e = go_makes at (seat b Absent o) e
nothing_makes p at clock freed b Listener o e = sym e
nothing_makes p at clock freed b Talker o e = subst (λ (h : Held). Makes h (own_part p (Nothing at clock freed) (seat b Talker o)) (lines false false)) (sym e) (silent_makes b.pace b.device (clock + b.reaction))

talk_makes : (p : Point) (at : ℕ) (f : Told) (b : Party) (r : Role) (o : Held) → OwnAt (Leading at) r o → SeatMakes p (Talk at f) (seat b r o)
talk_makes p at f b Absent o e = sym e
talk_makes p at f b Listener o e = elim e [ ]
talk_makes p at f b Talker o e = subst (λ (h : Held). Makes h (telling (at_pace (talker_of p.seats).pace b) at f) (lines (not (is_last f)) false)) (sym e) (telling_makes (at_pace (talker_of p.seats).pace b) at f)

-- where no drive talks, none of them does; nor listens
-- Every drive's own part of a piece that fits goes by turns.
own_there : (p : Point) (q : BusPlace) → p.place ≡ q → Each (λ x. StandsSo p.place x) p.seats → Each (λ x. StandsSo q x) p.seats
own_there p q e h = subst (λ (z : BusPlace). Each (λ x. StandsSo z x) p.seats) e h

pub part_makes : (p : Point) (w : Whole) → Each (λ x. OwnAt p.place x.role x.own) p.seats → Fits p w → Each (λ x. SeatMakes p w x) p.seats
part_makes p (PullPiece at) o h = each (λ x. OwnAt p.place x.role x.own) (λ x. SeatMakes p (PullPiece at) x) p.seats (λ x e. pull_makes p at x) o
part_makes p (Command f) o h =
    let c = is_commanding h.0 in
    each (λ x. StandsSo (Commanding c.0) x) (λ x. SeatMakes p (Command f) x) p.seats
    (λ x e. heard_makes (wire p.seats f) false (Attention (byte_in_cells f.cells)) f x e) (own_there p (Commanding c.0) c.1 o)
part_makes p (Byte eoi f) o h =
    each (λ x. StandsSo Listening x) (λ x. SeatMakes p (Byte eoi f) x) p.seats
    (λ x e. byte_makes p eoi f x.party x.role x.own e) (own_there p Listening h.0 o)
part_makes p (ToListener at) o h =
    each (λ x. StandsSo (Commanding true) x × (is_talker x.role ≡ false)) (λ x. SeatMakes p (ToListener at) x) p.seats
    (λ x e. listener_makes p at x.party x.role x.own e.1 e.0)
    (both_each (λ x. StandsSo (Commanding true) x) (λ x. is_talker x.role ≡ false) p.seats (own_there p (Commanding true) h.commanding o) (none_talk p.seats h.talker))
part_makes p (ToNobody at clock) o h =
    each (λ x. (StandsSo (Commanding true) x × (is_talker x.role ≡ false)) × (is_listener x.role ≡ false)) (λ x. SeatMakes p (ToNobody at clock) x) p.seats
    (λ x e. nobody_makes p at clock x.party x.role x.own e.1 e.0.1 e.0.0)
    (both_each (λ x. StandsSo (Commanding true) x × (is_talker x.role ≡ false)) (λ x. is_listener x.role ≡ false) p.seats
    (both_each (λ x. StandsSo (Commanding true) x) (λ x. is_talker x.role ≡ false) p.seats (own_there p (Commanding true) h.0.commanding o) (none_talk p.seats h.0.talker))
    (none_listen p.seats h.0.listener))
part_makes p (ToTalker at clock) o h =
    each (λ x. StandsSo (Commanding true) x) (λ x. SeatMakes p (ToTalker at clock) x) p.seats
    (λ x e. talker_makes p at clock x.party x.role x.own e) (own_there p (Commanding true) h.0.commanding o)
part_makes p (Nothing at clock freed) o h =
    each (λ x. StandsSo (Commanding true) x) (λ x. SeatMakes p (Nothing at clock freed) x) p.seats
    (λ x e. nothing_makes p at clock freed x.party x.role x.own e) (own_there p (Commanding true) h.0.commanding o)
part_makes p (Talk at f) o h =
    each (λ x. StandsSo (Leading at) x) (λ x. SeatMakes p (Talk at f) x) p.seats
    (λ x e. talk_makes p at f x.party x.role x.own e) (own_there p (Leading at) h.0 o)

-- The host's lines after its part of a piece are those that the session says: a frame leaves CLOCK held and DATA free.
pub lines_append : (l : Lines) (xs ys : List Step) → lines_by l (xs ++ ys) ≡ lines_by (lines_by l xs) ys
lines_append l [] ys = refl
lines_append l (x ∷ xs) ys = lines_append (lines_after l x.event.change.line x.event.change.way) xs ys

cell_lines : (a held bit : Bool) (set free pull : ℕ) → lines_by (wires a true held) (cell_steps held (record { bit = bit; set = set; free = free; pull = pull })) ≡ wires a true (not bit)
cell_lines a true true set free pull = refl
cell_lines a true false set free pull = refl
cell_lines a false true set free pull = refl
cell_lines a false false set free pull = refl

cells_lines : (a held : Bool) (cs : List BitCell) → lines_by (wires a true held) (cells_steps held cs) ≡ wires a true (held_after held cs)
cells_lines a held [] = refl
cells_lines a held (c ∷ cs) =
    lines_append (wires a true held) (cell_steps held c) (cells_steps (not c.bit) cs)
    ∙ ap (λ (l : Lines). lines_by l (cells_steps (not c.bit) cs)) (cell_lines a held c.bit c.set c.free c.pull)
    ∙ cells_lines a (not c.bit) cs

sending_lines : (a : Bool) (f : Sent) → lines_by (wires a true false) (sending f) ≡ wires a true false
sending_lines a f =
    lines_append (wires a true false) (cells_steps false f.cells) (where_held (held_after false f.cells) (host (end_of f) Data Free))
    ∙ ap (λ (l : Lines). lines_by l (where_held (held_after false f.cells) (host (end_of f) Data Free))) (cells_lines a false f.cells)
    ∙ go (held_after false f.cells)
  where
    go : (v : Bool) → lines_by (wires a true v) (where_held v (host (end_of f) Data Free)) ≡ wires a true false
    go true = refl
    go false = refl

pull_lines : (at : ℕ) (u v : Bool) → lines_by (wires true u v) (where_free u (host at Clock Pull) ++ where_held v (host at Data Free)) ≡ wires true true false
pull_lines at true true = refl
pull_lines at true false = refl
pull_lines at false true = refl
pull_lines at false false = refl

freed_lines : (x : Option ℕ) → lines_by (wires false false true) (freed_steps x) ≡ wires false false (is_none x)
freed_lines None = refl
freed_lines (Some g) = refl

taking_lines : (b : Party) (f : Told) → lines_by (wires false false true) (taking b f) ≡ wires (in_attention (told_place f)) false true
taking_lines b f = go f.signal ∙ ap (λ (v : Bool). wires v false true) (sym (out (is_last f)))
  where
    out : (v : Bool) → in_attention (if v then Open else Leading (f.accept + 100)) ≡ false
    out true = refl
    out false = refl

    go : (x : Option (ℕ × ℕ)) → lines_by (wires false false false) (signal_steps x ++ for_one b.device (Said (number_of f.bits) (is_last f)) (host f.accept Data Pull) ∷ []) ≡ wires false false true
    go None = refl
    go (Some (pull, free)) = refl

host_wires : (p : Point) (q : BusPlace) (h : Held) → p.place ≡ q → p.host ≡ h → wires (in_attention p.place) p.host.clock_low p.host.data_low ≡ wires (in_attention q) h.clock_low h.data_low
host_wires p q h e k = ap (λ (x : BusPlace). wires (in_attention x) p.host.clock_low p.host.data_low) e ∙ ap (λ (x : Held). wires (in_attention q) x.clock_low x.data_low) k

abbrev pub host_lines : Point → Lines
host_lines p = wires (in_attention p.place) p.host.clock_low p.host.data_low

commanding_wires : (p : Point) (some : Bool) → p.place ≡ Commanding some → HostAt p.place p.host → host_lines p ≡ wires true true false
commanding_wires p some e h = host_wires p (Commanding some) (lines true false) e (subst (λ (x : BusPlace). HostAt x p.host) e h)

pub whole_lines : (p : Point) (w : Whole) → HostAt p.place p.host → Fits p w → lines_by (host_lines p) (host_part p w) ≡ host_lines (whole_point p w)
whole_lines p (PullPiece at) g h = pull_lines at p.host.clock_low p.host.data_low
whole_lines p (Command f) g h =
    let c = is_commanding h.0 in
    ap (λ (l : Lines). lines_by l (sending f)) (commanding_wires p c.0 c.1 g) ∙ sending_lines true f
whole_lines p (Byte eoi f) g h =
    ap (λ (l : Lines). lines_by l (sending f)) (host_wires p Listening (lines true false) h.0 (subst (λ (x : BusPlace). HostAt x p.host) h.0 g)) ∙ sending_lines false f
whole_lines p (ToListener at) g h = ap (λ (l : Lines). lines_by l (host_part p (ToListener at))) (commanding_wires p true h.commanding g)
whole_lines p (ToNobody at clock) g h = ap (λ (l : Lines). lines_by l (host_part p (ToNobody at clock))) (commanding_wires p true h.0.commanding g)
whole_lines p (ToTalker at clock) g h = ap (λ (l : Lines). lines_by l (host_part p (ToTalker at clock))) (commanding_wires p true h.0.commanding g)
whole_lines p (Nothing at clock freed) g h =
    ap (λ (l : Lines). lines_by l (host_part p (Nothing at clock freed))) (commanding_wires p true h.0.commanding g) ∙ freed_lines freed
whole_lines p (Talk at f) g h =
    ap (λ (l : Lines). lines_by l (taking (talker_of p.seats) f)) (host_wires p (Leading at) (lines false true) h.0 (subst (λ (x : BusPlace). HostAt x p.host) h.0 g))
    ∙ taking_lines (talker_of p.seats) f
