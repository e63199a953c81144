-- A drive among others follows the frames: its own as the talker, those of the host as a listener and in attention, and none where it has no part in it.
use Rattle.std.proofs.Common.{◌≡◌, ℕ, zero, suc, ◌+◌, Bool, true, false, not, List, [], ◌∷◌, map, Option, Some, None, ap, sym, ◌∙◌, subst, refl, eq-eqb, inl}
use Rattle.std.specs.Prelude.{if◌then◌else◌, nat_eq, ◌||◌}
use Rattle.cbm_iec.specs.declared.machine.Act.TheVariants.{Heard, Said}
use Rattle.cbm_iec.specs.declared.machine.Act.{Act}
use Rattle.cbm_iec.specs.declared.ear.Ear.TheVariants.{Idle, Holding}
use Rattle.cbm_iec.specs.declared.event.Who.TheVariants.{Host, Drive}
use Rattle.cbm_iec.specs.declared.event.Who.{Who}
use Rattle.cbm_iec.specs.declared.lines.Line.TheVariants.{Clock, Data}
use Rattle.cbm_iec.specs.declared.lines.Line.{Line}
use Rattle.cbm_iec.specs.declared.lines.Way.TheVariants.{Pull, Free}
use Rattle.cbm_iec.specs.declared.lines.Way.{Way}
use Rattle.cbm_iec.specs.declared.lines.Held.{Held}
use Rattle.cbm_iec.specs.declared.lines.Lines.{Lines}
use Rattle.cbm_iec.specs.declared.mouth.Mouth.TheVariants.{Led}
use Rattle.cbm_iec.specs.declared.party.Party.{Party}
use Rattle.cbm_iec.specs.declared.party.Role.TheVariants.{Absent, Listener, Talker}
use Rattle.cbm_iec.specs.declared.port.Port.{Port}
use Rattle.cbm_iec.specs.declared.port.Side.TheVariants.{Hearing, Speaking}
use Rattle.cbm_iec.specs.declared.port.Side.{Side}
use Rattle.cbm_session.proofs.alone.Frames.{wires, stands}
use Rattle.cbm_session.proofs.alone.Pieces.{port_is, is_commanding, said_stands}
use Rattle.cbm_session.proofs.alone.Talk.{said_port, told_follows}
use Rattle.cbm_session.proofs.among.Accepts.{unmarked}
use Rattle.cbm_session.proofs.among.Alone.{IsSolo, alone_among}
use Rattle.cbm_session.proofs.among.Around.{every_append, every_merge, every_drives, merge_drives, with_own}
use Rattle.cbm_session.proofs.among.Bits.{quiet}
use Rattle.cbm_session.proofs.among.Bytes.{byte_among}
use Rattle.cbm_session.proofs.among.Calm.{Every, ByOthers, IsOthers, passes_all, calm_idle}
use Rattle.cbm_session.proofs.among.Frames.{in_hold, holds, each_sits, held_rest, held_port, follows_commands}
use Rattle.cbm_session.proofs.among.Points.{commanding_rest, listening_rest, leading_rest, leading_alone}
use Rattle.cbm_session.proofs.among.Pulls.{never_due, for_others}
use Rattle.cbm_session.proofs.among.Standing.{IsSound, rest_afterwards}
use Rattle.cbm_session.proofs.among.Turns.{SeatLaw, commanding_port}
use Rattle.cbm_session.proofs.joining.OneDrive.{told_is}
use Rattle.cbm_session.proofs.joining.Owning.{MarkOf, AllOwned, owned_telling, part_owned}
use Rattle.cbm_session.proofs.joining.Talkers.{talker_is, other_talker}
use Rattle.cbm_session.proofs.reading.OneReading.{is_atn, NoAtn, noatn_telling, noatn_if}
use Rattle.cbm_session.proofs.reading.PieceReadings.{seat}
use Rattle.cbm_session.specs.Among.{Rest, some, wires_of, FollowsAmong, CountsFor}
use Rattle.cbm_session.specs.Bits.{where_held, BitCell, cell_steps, cells_steps, held_after, number_of, byte_in_cells}
use Rattle.cbm_session.specs.Buses.{rest_at, SideAmong, OwnAt, StandsAmong}
use Rattle.cbm_session.specs.Following.{SideAt}
use Rattle.cbm_session.specs.Frames.{Sent, Told, wire, end_of, hearing, sending, is_last, signal_steps, telling, taking, ToldFits}
use Rattle.cbm_session.specs.Pieces.{Whole, BusPlace, Point, host_part, own_part, steps_of, obeying, Command, Byte, Talk, Open, Listening, Leading}
use Rattle.cbm_session.specs.Seats.{at_pace, lines, Seat, device, is_listener, is_talker, talker_of, listeners}
use Rattle.cbm_session.specs.Steps.{Mark, Step, host, for_one, merge, merge_all, Plain, ForEach, For}

-- what so many hold is what they and a host that doesn't hold
or_false : (n : ℕ) → (some n || false) ≡ some n
or_false zero = refl
or_false (suc n) = refl

wires_held : (atn : Bool) (n : ℕ) → wires_of (in_hold atn n) ≡ wires atn true (some n)
wires_held atn n = ap (λ (v : Bool). wires atn true v) (or_false n)

-- in attention each follows
pub command_law : (s : Seat) (g : Sent) → SeatLaw (Command g) s
command_law s g p q peek sound st f y =
    let c = is_commanding f.0 in
    let k = commanding_rest p s c.0 sound c.1 in
    let all = follows_commands peek p s k.0 g sound.react sound.seated.sits k.1 f in
    let q2 = held_port (obeying (byte_in_cells g.cells) s) k.0 in
    let same : q ≡ held_port s k.0 = commanding_port p s q c.0 k.0 sound st c.1 k.2 ∙ ap (λ (l : Lines). stands s.party s.role (lines false true) l (Hearing Holding)) (wires_held true k.0) in
    record {
      rest = held_rest k.0;
      port = q2;
      follows =
          subst (λ (x : Rest). FollowsAmong peek x q (steps_of p (Command g)) (held_rest k.0) q2) (sym k.2)
          (subst (λ (x : Port). FollowsAmong peek (held_rest k.0) x (steps_of p (Command g)) (held_rest k.0) q2) (sym same) all);
      role = refl;
      own = refl;
      side = refl;
    }

-- the lines and the side of a drive at a place
own_there : (p : Point) (s : Seat) (place : BusPlace) → IsSound p s → p.place ≡ place → OwnAt place s.role s.own
own_there p s place h e = subst (λ (x : BusPlace). OwnAt x s.role s.own) e (each_sits (λ x. OwnAt p.place x.role x.own) (device s) p.seats s h.own h.seated.sits)

pub side_there : (p : Point) (s : Seat) (q : Port) (place : BusPlace) → StandsAmong p s q → p.place ≡ place → SideAmong place s.role q.side
side_there p s q place t e = subst (λ (x : BusPlace). SideAmong x s.role q.side) e t.side

-- a listener
pub byte_law : (b : Party) (o : Held) (eoi : Bool) (g : Sent) → SeatLaw (Byte eoi g) (seat b Listener o)
byte_law b o eoi g p q peek sound st f y =
    let s = seat b Listener o in
    let k = listening_rest p s sound f.0 refl in
    let all = byte_among peek p s k.0 eoi g sound.react sound.seated.sits refl k.1 f in
    let q2 = holds peek b Listener eoi false k.0 in
    let same : q ≡ q2 = port_is q b Listener (lines false true) (wires false true (some k.0)) (Hearing Holding) st.party st.role (st.own ∙ own_there p s Listening sound f.0) (st.others ∙ ap (λ (x : Rest). wires_of x) k.2 ∙ wires_held false k.0) (side_there p s q Listening st f.0) in
    record {
      rest = in_hold false k.0;
      port = q2;
      follows =
          subst (λ (x : Rest). FollowsAmong peek x q (steps_of p (Byte eoi g)) (in_hold false k.0) q2) (sym k.2)
          (subst (λ (x : Port). FollowsAmong peek (in_hold false k.0) x (steps_of p (Byte eoi g)) (in_hold false k.0) q2) (sym same) all);
      role = refl;
      own = refl;
      side = refl;
    }

-- who has no part in a piece passes over it
idle_passes : (peek : Option (ℕ × Bool)) (p : Point) (b : Party) (o : Held) (w : Whole) (q : Port) → StandsAmong p (seat b Absent o) q → o ≡ lines false false → q.side ≡ Hearing Idle → Every (IsOthers b.device) (steps_of p w)
    → (r2 : Rest) × FollowsAmong peek (rest_at b.device p) q (steps_of p w) r2 (stands b Absent (lines false false) (wires_of r2) (Hearing Idle))
idle_passes peek p b o w q st own side all =
    let r = rest_at b.device p in
    let r2 = rest_afterwards b.device r (steps_of p w) in
    let q2 = stands b Absent (lines false false) (wires_of r2) (Hearing Idle) in
    let same = port_is q b Absent (lines false false) (wires_of r) (Hearing Idle) st.party st.role (st.own ∙ own) st.others side in (
      r2,
      subst (λ (x : Port). FollowsAmong peek r x (steps_of p w) r2 q2) (sym same)
          (passes_all peek b Absent (lines false false) (Hearing Idle) calm_idle r (steps_of p w) all (never_due (Hearing Idle) (steps_of p w) refl)),
    )

owned_others : (d o : ℕ) (ss : List Step) → nat_eq d o ≡ false → AllOwned o ss → NoAtn ss → Every (IsOthers d) ss
owned_others d o [] h a n = tt
owned_others d o (s ∷ ss) h a n = (one s.event.who a.0, owned_others d o ss h a.2 n.1)
  where
    by : (w : Who) → w ≡ Drive o → ByOthers d w
    by Host e = absurd cc
    by (Drive u) e = let k : u ≡ o = cc in ap (λ (m : ℕ). nat_eq d m) k ∙ h

    unheard : (m : Mark) → MarkOf o m → CountsFor d m None
    unheard Plain g = refl
    unheard (ForEach act) g = elim g [ ]
    unheard (For u act) g = unmarked d u act (ap (λ (k : ℕ). nat_eq d k) g ∙ h)

    one : (w : Who) → s.event.who ≡ Drive o → IsOthers d s
    one w e = record { who = by s.event.who e; counts = unheard s.mark a.1; line = n.0 }

-- the host's part of a frame
sent_others : (d : ℕ) (held : Bool) (cs : List BitCell) → Every (IsOthers d) (cells_steps held cs)
sent_others d held [] = tt
sent_others d held (c ∷ cs) = every_append (IsOthers d) (cell_steps held c) (cells_steps (not c.bit) cs) (one held c.bit c.set c.free c.pull) (sent_others d (not c.bit) cs)
  where
    plain : (t : ℕ) (line : Line) (way : Way) → is_atn line ≡ false → IsOthers d (host t line way)
    plain t line way e = record { who = tt; counts = refl; line = e }

    one : (held bit : Bool) (set free pull : ℕ) → Every (IsOthers d) (cell_steps held (record { bit = bit; set = set; free = free; pull = pull }))
    one true true set free pull = (plain set Data Free refl, (plain free Clock Free refl, (plain pull Clock Pull refl, tt)))
    one false true set free pull = (plain free Clock Free refl, (plain pull Clock Pull refl, tt))
    one true false set free pull = (plain free Clock Free refl, (plain pull Clock Pull refl, tt))
    one false false set free pull = (plain set Data Pull refl, (plain free Clock Free refl, (plain pull Clock Pull refl, tt)))

sending_others : (d : ℕ) (g : Sent) → Every (IsOthers d) (sending g)
sending_others d g = (record { who = tt; counts = refl; line = refl }, (record { who = tt; counts = refl; line = refl }, every_append (IsOthers d) (cells_steps false g.cells) (where_held (held_after false g.cells) (host (end_of g) Data Free)) (sent_others d false g.cells) (go (held_after false g.cells))))
  where
    go : (v : Bool) → Every (IsOthers d) (where_held v (host (end_of g) Data Free))
    go true = (record { who = tt; counts = refl; line = refl }, tt)
    go false = tt

noatn_hearing : (t : ℕ) (eoi : Bool) (act : Act) (g : Sent) (s : Seat) → NoAtn (hearing t eoi act g s)
noatn_hearing t true act g s = (refl, (refl, (refl, (refl, tt))))
noatn_hearing t false act g s = (refl, (refl, tt))

-- all steps of a frame are the others'
frame_others : (p : Point) (s : Seat) (w : Whole) → IsSound p s → Every (IsOthers (device s)) (host_part p w) → ((x : Seat) → NoAtn (own_part p w x)) → own_part p w s ≡ [] → Every (IsOthers (device s)) (steps_of p w)
frame_others p s w sound hosts lines_ok none =
    let d = device s in
    let own : Seat → List Step = λ (x : Seat). own_part p w x in
    let each = with_own (λ x. Every (IsOthers d) (own x)) d p.seats s sound.seated.sits
    (for_others d (λ x. Every (IsOthers d) (own x)) p.seats (λ (x : Seat) (h : nat_eq d (device x) ≡ false). owned_others d (device x) (own x) h (part_owned p w x) (lines_ok x)))
    (subst (Every (IsOthers d)) (sym none) tt) in
    subst (Every (IsOthers d)) (sym (merge_drives own (host_part p w) p.seats)) (every_merge (IsOthers d) (host_part p w) (merge_all [] (map own p.seats)) hosts (every_drives (IsOthers d) own p.seats each))

pub absent_byte_law : (b : Party) (o : Held) (eoi : Bool) (g : Sent) → SeatLaw (Byte eoi g) (seat b Absent o)
absent_byte_law b o eoi g p q peek sound st f y =
    let s = seat b Absent o in
    let w = Byte eoi g in
    let all = idle_passes peek p b o w q st (own_there p s Listening sound f.0) (side_there p s q Listening st f.0)
    (frame_others p s w sound (sending_others b.device g) (λ (x : Seat). noatn_if (is_listener x.role) (hearing (wire (listeners p.seats) g) eoi (Heard (byte_in_cells g.cells) eoi) g x) (noatn_hearing (wire (listeners p.seats) g) eoi (Heard (byte_in_cells g.cells) eoi) g x)) refl) in
    record { rest = all.0; port = stands b Absent (lines false false) (wires_of all.0) (Hearing Idle); follows = all.1; role = refl; own = refl; side = refl }

-- the host's part of a frame of another
taking_others : (d : ℕ) (t : Party) (g : Told) → nat_eq d t.device ≡ false → Every (IsOthers d) (taking t g)
taking_others d t g h = (record { who = tt; counts = refl; line = refl }, every_append (IsOthers d) (signal_steps g.signal) (for_one t.device (Said (number_of g.bits) (is_last g)) (host g.accept Data Pull) ∷ []) (go g.signal) (record { who = tt; counts = told; line = refl }, tt))
  where
    go : (x : Option (ℕ × ℕ)) → Every (IsOthers d) (signal_steps x)
    go None = tt
    go (Some (pull, free)) = (record { who = tt; counts = refl; line = refl }, (record { who = tt; counts = refl; line = refl }, tt))

    told : None ≡ (if nat_eq d t.device then Some (Said (number_of g.bits) (is_last g)) else None)
    told = sym (ap (λ (v : Bool). if v then Some (Said (number_of g.bits) (is_last g)) else None) h)

idle_side : (v : Bool) (m : ℕ) → SideAmong (if v then Open else Leading m) Absent (Hearing Idle)
idle_side true m = inl refl
idle_side false m = refl

pub absent_talk_law : (b : Party) (o : Held) (at : ℕ) (g : Told) → SeatLaw (Talk at g) (seat b Absent o)
absent_talk_law b o at g p q peek sound st f y =
    let s = seat b Absent o in
    let w = Talk at g in
    let another = other_talker b.device p.seats s sound.some sound.seated.sits refl in
    let all = idle_passes peek p b o w q st (own_there p s (Leading at) sound f.0) (side_there p s q (Leading at) st f.0)
    (frame_others p s w sound (taking_others b.device (talker_of p.seats) g another) (λ (x : Seat). noatn_if (is_talker x.role) (telling (at_pace (talker_of p.seats).pace x.party) at g) (noatn_telling (at_pace (talker_of p.seats).pace x.party) at g)) refl) in
    record { rest = all.0; port = stands b Absent (lines false false) (wires_of all.0) (Hearing Idle); follows = all.1; role = refl; own = refl; side = idle_side (is_last g) (g.accept + 100) }

-- the talker
owned_solo : (d : ℕ) (ss : List Step) → AllOwned d ss → Every (λ s. IsSolo d s.mark) ss
owned_solo d [] a = tt
owned_solo d (s ∷ ss) a = (go s.mark a.1, owned_solo d ss a.2)
  where
    go : (m : Mark) → MarkOf d m → IsSolo d m
    go Plain h = tt
    go (ForEach act) h = tt
    go (For u act) h = eq-eqb d u (sym h)

taking_solo : (b : Party) (g : Told) → Every (λ s. IsSolo b.device s.mark) (taking b g)
taking_solo b g = (tt, every_append (λ s. IsSolo b.device s.mark) (signal_steps g.signal) (for_one b.device (Said (number_of g.bits) (is_last g)) (host g.accept Data Pull) ∷ []) (go g.signal) (eq-eqb b.device b.device refl, tt))
  where
    go : (x : Option (ℕ × ℕ)) → Every (λ s. IsSolo b.device s.mark) (signal_steps x)
    go None = tt
    go (Some (pull, free)) = (tt, (tt, tt))

said_side : (v : Bool) (m : ℕ) (side : Side) → SideAt (if v then Open else Leading m) Talker side → SideAmong (if v then Open else Leading m) Talker side
said_side true m side h = h
said_side false m side h = h.1

pub talk_law : (b : Party) (o : Held) (at : ℕ) (g : Told) → SeatLaw (Talk at g) (seat b Talker o)
talk_law b o at g p q peek sound st f y =
    let s = seat b Talker o in
    let w = Talk at g in
    let bits = Some (number_of g.bits, is_last g) in
    let start = stands b Talker (lines true false) (wires false false true) (Speaking (Led at)) in
    let q2 = said_port bits b g.accept (is_last g) in
    let z = said_stands bits b g.accept (is_last g) in
    let known = leading_rest p s at sound f.0 refl in
    let fits = subst (λ (x : Party). ToldFits x at g) (talker_is b.device p.seats s sound.seated.one sound.seated.sits refl) f.1 in
    let frame = told_follows b at g.bits g.free g.accept g.signal fits in
    let both = told_is b at g fits in
    let solo : Every (λ x. IsSolo b.device x.mark) (merge (taking b g) (telling b at g)) = every_merge (λ x. IsSolo b.device x.mark) (taking b g) (telling b at g) (taking_solo b g) (owned_solo b.device (telling b at g) (owned_telling b at g)) in
    let all = alone_among bits frame (subst (Every (λ x. IsSolo b.device x.mark)) both solo) in
    let steps = leading_alone p s at g sound refl ∙ both in
    let same : q ≡ start = port_is q b Talker (lines true false) (wires false false true) (Speaking (Led at)) st.party st.role (st.own ∙ own_there p s (Leading at) sound f.0) (st.others ∙ ap (λ (x : Rest). wires_of x) known) (side_there p s q (Leading at) st f.0) in
    let r2 = quiet q2.others in
    record {
      rest = r2;
      port = q2;
      follows =
          subst (λ (x : Option (ℕ × Bool)). FollowsAmong x (rest_at b.device p) q (steps_of p w) r2 q2) (sym y)
          (subst (λ (x : Rest). FollowsAmong bits x q (steps_of p w) r2 q2) (sym known)
          (subst (λ (x : Port). FollowsAmong bits (quiet (wires false false true)) x (steps_of p w) r2 q2) (sym same) (subst (λ (zs : List Step). FollowsAmong bits (quiet (wires false false true)) start zs r2 q2) (sym steps) all)));
      role = z.1;
      own = z.2;
      side = said_side (is_last g) (g.accept + 100) q2.side z.4;
    }
