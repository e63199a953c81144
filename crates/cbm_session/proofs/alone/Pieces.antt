-- A drive alone with the host follows each piece of a session.
use Rattle.cbm_session.proofs.joining.Showing.{merge_first}
use Rattle.cbm_session.proofs.joining.Silents.{silent_head}
use Rattle.cbm_iec.specs.declared.pace.Pace.TheVariants.{Profile, Kernal}
use Rattle.cbm_iec.specs.declared.pace.Pace.{Pace}
use Rattle.cbm_session.proofs.Paces.{started}
use Rattle.cbm_iec.specs.declared.ear.Ear.{Ear}
use Rattle.std.proofs.Common.{◌≡◌, ℕ, ◌+◌, ◌≤◌, inl, inr, Bool, true, false, not, List, [], ◌∷◌, ◌++◌, Option, Some, None, ap, sym, ◌∙◌, subst, arith, refl}
use Rattle.std.proofs.lemmas.Bool.Decides.{leb_tells}
use Rattle.std.specs.Prelude.{if◌then◌else◌}
use Rattle.cbm_iec.specs.Ports.{side_due}
use Rattle.cbm_iec.specs.Roles.{role_after}
use Rattle.cbm_iec.specs.declared.machine.Act.TheVariants.{Pulled, Attention, Released, Heard, Silent}
use Rattle.cbm_iec.specs.declared.ear.Ear.TheVariants.{Idle, Starting, Leaving, Holding}
use Rattle.cbm_iec.specs.declared.lines.Line.TheVariants.{Atn, Clock, Data}
use Rattle.cbm_iec.specs.declared.lines.Way.TheVariants.{Pull, Free}
use Rattle.cbm_iec.specs.declared.lines.Held.{Held}
use Rattle.cbm_iec.specs.declared.lines.Lines.{Lines}
use Rattle.cbm_iec.specs.declared.mouth.Mouth.TheVariants.{Answering, Led, Over}
use Rattle.cbm_iec.specs.declared.party.Party.{Party}
use Rattle.cbm_iec.specs.declared.party.Role.TheVariants.{Absent, Listener, Talker}
use Rattle.cbm_iec.specs.declared.party.Role.{Role}
use Rattle.cbm_iec.specs.declared.port.Port.{Port}
use Rattle.cbm_iec.specs.declared.port.Side.TheVariants.{Hearing, Speaking}
use Rattle.cbm_iec.specs.declared.port.Side.{Side}
use Rattle.cbm_session.proofs.alone.Frames.{done_due, wires, stands, told_by, held_again}
use Rattle.cbm_session.proofs.alone.HostFrames.{frame_follows, last_frame_follows}
use Rattle.cbm_session.proofs.alone.Talk.{said_port, told_follows}
use Rattle.cbm_session.proofs.joining.Merging.{merge_here, merge_there}
use Rattle.cbm_session.proofs.joining.OneDrive.{one_frame, StartsAfter, pull_is, told_is, frame_is}
use Rattle.cbm_session.proofs.reading.PieceReadings.{seat, turn_first}
use Rattle.cbm_session.specs.Bits.{where_held, where_free, number_of, byte_in_cells}
use Rattle.cbm_session.specs.Following.{IsInTime, Follows, alone, in_attention, SideAt, LinesAt, StandsAt, Says, FollowsPieces, ends, tells, reacts}
use Rattle.cbm_session.specs.Frames.{Sent, Told, SentFits, is_last}
use Rattle.cbm_session.specs.Pieces.{silent_at, silent_part, silent_end, Whole, BusPlace, Point, freed_steps, steps_of, PullFits, FreedFits, IsCommanding, Fits, is_none, seat_with, obeying, whole_point, PullPiece, Command, Byte, ToListener, ToNobody, ToTalker, Nothing, Talk, Open, Commanding, Listening, Leading, Cutting, commanding}
use Rattle.cbm_session.specs.Seats.{at_pace, lines, Seat, device, reaction, is_listener, is_talker}
use Rattle.cbm_session.specs.Steps.{Step, host, drive, for_each, for_one, merge}

-- a pull of ATN: the host's changes, then the drive's reaction
own_follows : (peek : Option (ℕ × Bool)) (b : Party) (r : Role) (oc od : Bool) (t : ℕ)
    → Follows peek (stands b r (lines oc od) (wires true true false) (Hearing (Starting t))) (where_held oc (drive b.device t Clock Free) ++ where_free od (drive b.device t Data Pull)) (stands b r (lines false true) (wires true true false) (Hearing Holding))
own_follows peek b r true true t = reacts t [] refl refl tt tt (ends (ap (λ (v : Ear). stands b r (lines false true) (wires true true false) (Hearing v)) (sym (started b.pace b.reaction t))))
own_follows peek b r true false t = reacts t [] refl refl tt tt (ends (ap (λ (v : Ear). stands b r (lines false true) (wires true true false) (Hearing v)) (sym (started b.pace b.reaction t))))
own_follows peek b r false true t = reacts t [] refl refl tt tt (ends (ap (λ (v : Ear). stands b r (lines false true) (wires true true false) (Hearing v)) (sym (started b.pace b.reaction t))))
own_follows peek b r false false t = reacts t [] refl refl tt tt (ends (ap (λ (v : Ear). stands b r (lines false true) (wires true true false) (Hearing v)) (sym (started b.pace b.reaction t))))

start_follows : (peek : Option (ℕ × Bool)) (b : Party) (r : Role) (o : Held) (c d : Bool) (at t : ℕ) (own : List Step) (q2 : Port) → at ≤ t
    → Follows peek (stands b r o (wires true true false) (Hearing (Starting t))) own q2
    → Follows peek (stands b r o (wires true c d) (Hearing (Starting t))) ((where_free c (host at Clock Pull) ++ where_held d (host at Data Free)) ++ own) q2
start_follows peek b r o true true at t own q2 l f = tells l refl f
start_follows peek b r o true false at t own q2 l f = f
start_follows peek b r o false true at t own q2 l f = tells l refl (tells l refl f)
start_follows peek b r o false false at t own q2 l f = tells l refl f

pull_follows : (peek : Option (ℕ × Bool)) (b : Party) (r : Role) (oc od c d : Bool) (side : Side) (at : ℕ) → IsInTime at (side_due side)
    → Follows peek (stands b r (lines oc od) (wires false c d) side)
    (for_each Pulled (host at Atn Pull) ∷ ((where_free c (host at Clock Pull) ++ where_held d (host at Data Free)) ++ (where_held oc (drive b.device (at + b.reaction) Clock Free) ++ where_free od (drive b.device (at + b.reaction) Data Pull))))
    (stands b r (lines false true) (wires true true false) (Hearing Holding))
pull_follows peek b r oc od c d side at i =
    tells i refl (start_follows peek b r (lines oc od) c d at (at + b.reaction) (where_held oc (drive b.device (at + b.reaction) Clock Free) ++ where_free od (drive b.device (at + b.reaction) Data Pull)) (stands b r (lines false true) (wires true true false) (Hearing Holding)) (omega arith) (own_follows peek b r oc od (at + b.reaction)))

-- what follows a drive at a point
abbrev pub Result : Point → Seat → Whole → Port → Option (ℕ × Bool) → Type 0
Result p s w q peek = (q2 : Port) × ((s2 : Seat) × (Follows peek q (steps_of (alone p s) w) q2 × ((whole_point (alone p s) w).seats ≡ s2 ∷ []) × StandsAt (whole_point (alone p s) w) s2 q2))

abbrev pub Law : Whole → Seat → Type 0
Law w s = (p : Point) (q : Port) (peek : Option (ℕ × Bool)) → StandsAt (alone p s) s q → Fits (alone p s) w → Says w peek → Result p s w q peek

-- a port by its parts
pub port_is : (q : Port) (b : Party) (r : Role) (o : Held) (l : Lines) (x : Side) → q.party ≡ b → q.role ≡ r → q.own ≡ o → q.others ≡ l → q.side ≡ x → q ≡ stands b r o l x
port_is q b r o l x e f g h i =
    ap (λ (y : Party). record { party = y; role = q.role; own = q.own; others = q.others; side = q.side }) e
    ∙ ap (λ (y : Role). stands b y q.own q.others q.side) f
    ∙ ap (λ (y : Held). stands b r y q.others q.side) g
    ∙ ap (λ (y : Lines). stands b r o y q.side) h
    ∙ ap (λ (y : Side). stands b r o l y) i

abbrev host_wires : BusPlace → Held → Lines
host_wires place host = wires (in_attention place) host.clock_low host.data_low

module _ (p : Point) (s : Seat) (q : Port) (h : StandsAt (alone p s) s q) where
  pub at_commanding : (some : Bool) → p.place ≡ Commanding some → q ≡ stands s.party s.role (lines false true) (wires true true false) (Hearing Holding)
  at_commanding some e =
      let there : LinesAt (Commanding some) s.own p.host = subst (λ (x : BusPlace). LinesAt x s.own p.host) e h.lines_there in
      let side : SideAt (Commanding some) s.role q.side = subst (λ (x : BusPlace). SideAt x s.role q.side) e h.side in
      port_is q s.party s.role (lines false true) (wires true true false) (Hearing Holding) h.party h.role (h.own ∙ there.0) (h.others ∙ ap (λ (x : BusPlace). host_wires x p.host) e ∙ ap (λ (x : Held). host_wires (Commanding some) x) there.1) side

  pub at_listening : p.place ≡ Listening → q ≡ stands s.party s.role (lines false true) (wires false true false) (Hearing Holding)
  at_listening e =
      let there : LinesAt Listening s.own p.host = subst (λ (x : BusPlace). LinesAt x s.own p.host) e h.lines_there in
      let side : SideAt Listening s.role q.side = subst (λ (x : BusPlace). SideAt x s.role q.side) e h.side in
      port_is q s.party s.role (lines false true) (wires false true false) (Hearing Holding) h.party h.role (h.own ∙ there.0) (h.others ∙ ap (λ (x : BusPlace). host_wires x p.host) e ∙ ap (λ (x : Held). host_wires Listening x) there.1) side.1

  pub at_leading : (at : ℕ) → p.place ≡ Leading at → q ≡ stands s.party s.role (lines true false) (wires false false true) (Speaking (Led at))
  at_leading at e =
      let there : LinesAt (Leading at) s.own p.host = subst (λ (x : BusPlace). LinesAt x s.own p.host) e h.lines_there in
      let side : SideAt (Leading at) s.role q.side = subst (λ (x : BusPlace). SideAt x s.role q.side) e h.side in
      port_is q s.party s.role (lines true false) (wires false false true) (Speaking (Led at)) h.party h.role (h.own ∙ there.0) (h.others ∙ ap (λ (x : BusPlace). host_wires x p.host) e ∙ ap (λ (x : Held). host_wires (Leading at) x) there.1) side.1

-- ATN's pull finds nothing overdue
pull_in_time : (p : Point) (at : ℕ) (place : BusPlace) (r : Role) (x : Side) → SideAt place r x → PullFits p at place → IsInTime at (side_due x)
pull_in_time p at Open r x h f = subst (λ (o : Option ℕ). IsInTime at o) (sym (done_due x h)) tt
pull_in_time p at (Commanding some) r x h f = elim f [ ]
pull_in_time p at Listening r x h f = subst (λ (y : Side). IsInTime at (side_due y)) (sym h.1) tt
pull_in_time p at (Leading t) r x h f = elim f [ ]
pull_in_time p at (Cutting cut) r x h f = subst (λ (n : ℕ). IsInTime n (side_due x)) (sym f) h

pub pull_out : (p : Point) (at : ℕ) (place : BusPlace) → PullFits p at place → in_attention place ≡ false
pull_out p at Open f = refl
pull_out p at (Commanding some) f = elim f [ ]
pull_out p at Listening f = refl
pull_out p at (Leading t) f = elim f [ ]
pull_out p at (Cutting cut) f = refl

pull_law : (s : Seat) (at : ℕ) → Law (PullPiece at) s
pull_law s at p q peek h f y =
    let same : q ≡ stands s.party s.role s.own (wires false p.host.clock_low p.host.data_low) q.side =
    port_is q s.party s.role s.own (wires false p.host.clock_low p.host.data_low) q.side h.party h.role h.own (h.others ∙ ap (λ (v : Bool). wires v p.host.clock_low p.host.data_low) (pull_out (alone p s) at p.place f)) refl in
    let q2 = stands s.party s.role (lines false true) (wires true true false) (Hearing Holding) in
    let all = pull_follows peek s.party s.role s.own.clock_low s.own.data_low p.host.clock_low p.host.data_low q.side at (pull_in_time (alone p s) at p.place s.role q.side h.side f) in (
      q2,
      (
        seat_with s.role (lines false true) s,
        (
          subst (λ (x : Port). Follows peek x (steps_of (alone p s) (PullPiece at)) q2) (sym same)
              (subst (λ (zs : List Step). Follows peek (stands s.party s.role s.own (wires false p.host.clock_low p.host.data_low) q.side) zs q2) (sym (pull_is (alone p s) s at)) all),
          refl,
          record { party = refl; role = refl; own = refl; others = refl; side = refl; lines_there = (refl, refl) },
        ),
      ),
    )

-- a frame of the host
pub is_commanding : {x : BusPlace} → IsCommanding x → (some : Bool) × (x ≡ Commanding some)
is_commanding (commanding {some}) = (some, refl)

starts_alone : (s : Seat) (eoi : Bool) (f : Sent) → SentFits (s ∷ []) eoi f → StartsAfter (f.ready + reaction s) s eoi f
starts_alone s true f h = let k = h.start in (omega arith, omega (arith, k))
starts_alone s false f h = h.start.0

command_law : (s : Seat) (f : Sent) → 1 ≤ reaction s → reaction s ≤ 60 → Law (Command f) s
command_law s f r u p q peek h k y =
    let c = is_commanding k.0 in
    let same = at_commanding p s q h c.0 c.1 in
    let byte = byte_in_cells f.cells in
    let q2 = stands s.party (role_after (device s) byte s.role) (lines false true) (wires true true false) (Hearing Holding) in
    let all = frame_follows peek s.party s.role s.own f r u true k.3 in (
      q2,
      (
        obeying byte s,
        (
          subst (λ (x : Port). Follows peek x (steps_of (alone p s) (Command f)) q2) (sym same)
              (subst (λ (zs : List Step). Follows peek (stands s.party s.role (lines false true) (wires true true false) (Hearing Holding)) zs q2) (sym (frame_is (f.ready + reaction s) s (Attention byte) f false (starts_alone s false f k.3) k.3.cells)) all),
          refl,
          record { party = refl; role = refl; own = refl; others = refl; side = refl; lines_there = (refl, refl) },
        ),
      ),
    )

byte_follows : (peek : Option (ℕ × Bool)) (b : Party) (o : Held) (eoi : Bool) (f : Sent) → 1 ≤ b.reaction → b.reaction ≤ 60 → SentFits (seat b Listener o ∷ []) eoi f
    → Follows peek (stands b Listener (lines false true) (wires false true false) (Hearing Holding)) (one_frame (f.ready + b.reaction) (seat b Listener o) eoi (told_by peek b Listener false (byte_in_cells f.cells) eoi) f) (held_again peek b Listener false (byte_in_cells f.cells))
byte_follows peek b o true f r u h = last_frame_follows peek b Listener o f r u h
byte_follows peek b o false f r u h = frame_follows peek b Listener o f r u false h

byte_law : (b : Party) (o : Held) (eoi : Bool) (f : Sent) → 1 ≤ b.reaction → b.reaction ≤ 60 → Law (Byte eoi f) (seat b Listener o)
byte_law b o eoi f r u p q peek h k y =
    let s = seat b Listener o in
    let same = at_listening p s q h k.0 in
    let q2 = stands b Listener (lines false true) (wires false true false) (Hearing Holding) in
    let all = byte_follows peek b o eoi f r u k.3 in (
      q2,
      (
        seat b Listener (lines false true),
        (
          subst (λ (x : Port). Follows peek x (steps_of (alone p s) (Byte eoi f)) q2) (sym same)
              (subst (λ (zs : List Step). Follows peek (stands b Listener (lines false true) (wires false true false) (Hearing Holding)) zs q2) (sym (frame_is (f.ready + b.reaction) s (Heard (byte_in_cells f.cells) eoi) f eoi (starts_alone s eoi f k.3) k.3.cells)) all),
          refl,
          record { party = refl; role = refl; own = refl; others = refl; side = (refl, refl); lines_there = (refl, refl) },
        ),
      ),
    )

-- ATN's release
listener_law : (b : Party) (o : Held) (at : ℕ) → Law (ToListener at) (seat b Listener o)
listener_law b o at p q peek h k y =
    let s = seat b Listener o in
    let q2 = stands b Listener (lines false true) (wires false true false) (Hearing Holding) in (
      q2,
      (
        seat b Listener (lines false true),
        (
          subst (λ (x : Port). Follows peek x (steps_of (alone p s) (ToListener at)) q2) (sym (at_commanding p s q h true k.commanding)) (tells tt refl (ends refl)),
          refl,
          record { party = refl; role = refl; own = refl; others = refl; side = (refl, refl); lines_there = (refl, refl) },
        ),
      ),
    )

leave_follows : (peek : Option (ℕ × Bool)) (b : Party) (at clock : ℕ)
    → Follows peek (stands b Absent (lines false true) (wires false true false) (Hearing (Leaving (at + b.reaction)))) (merge (host clock Clock Free ∷ []) (drive b.device (at + b.reaction) Data Free ∷ [])) (stands b Absent (lines false false) (wires false false false) (Hearing Idle))
leave_follows peek b at clock = elim (leb_tells clock (at + b.reaction)) [
  | inl x ↦ subst (λ (zs : List Step). Follows peek (stands b Absent (lines false true) (wires false true false) (Hearing (Leaving (at + b.reaction)))) zs (stands b Absent (lines false false) (wires false false false) (Hearing Idle)))
      (sym (merge_here (host clock Clock Free) [] (drive b.device (at + b.reaction) Data Free) [] x.1)) (tells x.1 refl (reacts (at + b.reaction) [] refl refl tt tt (ends refl)))
  | inr x ↦ subst (λ (zs : List Step). Follows peek (stands b Absent (lines false true) (wires false true false) (Hearing (Leaving (at + b.reaction)))) zs (stands b Absent (lines false false) (wires false false false) (Hearing Idle)))
      (sym (merge_there (host clock Clock Free) [] (drive b.device (at + b.reaction) Data Free) [] x.1)) (reacts (at + b.reaction) (host clock Clock Free ∷ []) refl refl tt x.1 (tells tt refl (ends refl)))
]

nobody_law : (b : Party) (o : Held) (at clock : ℕ) → Law (ToNobody at clock) (seat b Absent o)
nobody_law b o at clock p q peek h k y =
    let s = seat b Absent o in
    let q2 = stands b Absent (lines false false) (wires false false false) (Hearing Idle) in
    let steps = merge_here (for_each Released (host at Atn Free)) (host clock Clock Free ∷ []) (drive b.device (at + b.reaction) Data Free) [] (omega arith) in
    let start = stands b Absent (lines false true) (wires true true false) (Hearing Holding) in
    let all : Follows peek start (for_each Released (host at Atn Free) ∷ merge (host clock Clock Free ∷ []) (drive b.device (at + b.reaction) Data Free ∷ [])) q2 = tells tt refl (leave_follows peek b at clock) in (
      q2,
      (
        seat b Absent (lines false false),
        (
          subst (λ (x : Port). Follows peek x (steps_of (alone p s) (ToNobody at clock)) q2) (sym (at_commanding p s q h true k.0.commanding)) (subst (λ (zs : List Step). Follows peek start zs q2) (sym steps) all),
          refl,
          record { party = refl; role = refl; own = refl; others = refl; side = inl refl; lines_there = tt },
        ),
      ),
    )

-- the turnaround's answer, at either pace
answer_leads : (x : ℕ × Bool) (b : Party) (t : ℕ) → Follows (Some x) (stands b Talker (lines false true) (wires false false true) (Speaking (Answering t))) (drive b.device t Clock Pull ∷ drive b.device t Data Free ∷ []) (stands b Talker (lines true false) (wires false false true) (Speaking (Led (t + 80))))
answer_leads x b t = go b.pace
  where
    go : (v : Pace) → Follows (Some x) (stands (at_pace v b) Talker (lines false true) (wires false false true) (Speaking (Answering t))) (drive b.device t Clock Pull ∷ drive b.device t Data Free ∷ []) (stands (at_pace v b) Talker (lines true false) (wires false false true) (Speaking (Led (t + 80))))
    go Profile = reacts t [] refl refl tt tt (ends refl)
    go Kernal = reacts t [] refl refl tt tt (ends refl)

-- the turnaround
talker_law : (b : Party) (o : Held) (at clock : ℕ) → 1 ≤ b.reaction → Law (ToTalker at clock) (seat b Talker o)
talker_law b o at clock r p q peek h k y =
    let s = seat b Talker o in
    let gap = k.1 in
    let q2 = stands b Talker (lines true false) (wires false false true) (Speaking (Led (clock + b.reaction + 80))) in
    let start = stands b Talker (lines false true) (wires true true false) (Hearing Holding) in
    let answer = drive b.device (clock + b.reaction) Clock Pull ∷ drive b.device (clock + b.reaction) Data Free ∷ [] in
    let steps : steps_of (alone p s) (ToTalker at clock) ≡ host at Data Pull ∷ for_each Released (host at Atn Free) ∷ host clock Clock Free ∷ answer =
    turn_first at (host clock Clock Free ∷ []) answer (omega (arith, gap))
    ∙ ap (λ (zs : List Step). host at Data Pull ∷ for_each Released (host at Atn Free) ∷ zs) (merge_here (host clock Clock Free) [] (drive b.device (clock + b.reaction) Clock Pull) (drive b.device (clock + b.reaction) Data Free ∷ []) (omega arith)) in
    let all : Follows peek start (host at Data Pull ∷ for_each Released (host at Atn Free) ∷ host clock Clock Free ∷ answer) q2 =
    subst (λ (x : Option (ℕ × Bool)). Follows x start (host at Data Pull ∷ for_each Released (host at Atn Free) ∷ host clock Clock Free ∷ answer) q2) (sym y.1)
    (tells tt refl (tells tt refl (tells tt refl (answer_leads y.0 b (clock + b.reaction))))) in (
      q2,
      (
        seat b Talker (lines true false),
        (
          subst (λ (x : Port). Follows peek x (steps_of (alone p s) (ToTalker at clock)) q2) (sym (at_commanding p s q h true k.0.commanding)) (subst (λ (zs : List Step). Follows peek start zs q2) (sym steps) all),
          refl,
          record { party = refl; role = refl; own = refl; others = refl; side = (refl, refl); lines_there = (refl, refl) },
        ),
      ),
    )

freed_follows : (b : Party) (clock : ℕ) (freed : Option ℕ) → FreedFits (silent_end b clock) freed
    → Follows None (stands b Talker (lines false true) (wires false false true) (Speaking (Answering (clock + b.reaction)))) (merge (freed_steps freed) (silent_part b.pace b.device (clock + b.reaction)))
    (stands b Talker (lines false false) (wires false false (is_none freed)) (Speaking Over))
freed_follows b clock freed y = go b.pace freed y
  where
    go : (v : Pace) (freed : Option ℕ) → FreedFits (silent_at v (clock + b.reaction)) freed
        → Follows None (stands (at_pace v b) Talker (lines false true) (wires false false true) (Speaking (Answering (clock + b.reaction)))) (merge (freed_steps freed) (silent_part v b.device (clock + b.reaction)))
        (stands (at_pace v b) Talker (lines false false) (wires false false (is_none freed)) (Speaking Over))
    go Profile None y = reacts (clock + b.reaction) [] refl refl tt tt (ends refl)
    go Profile (Some g) y =
        subst (λ (zs : List Step). Follows None (stands (at_pace Profile b) Talker (lines false true) (wires false false true) (Speaking (Answering (clock + b.reaction)))) zs (stands (at_pace Profile b) Talker (lines false false) (wires false false false) (Speaking Over)))
        (sym (merge_there (host g Data Free) [] (for_one b.device Silent (drive b.device (clock + b.reaction) Data Free)) [] (omega (arith, y))))
        (reacts (clock + b.reaction) (host g Data Free ∷ []) refl refl tt (omega (arith, y)) (tells tt refl (ends refl)))
    go Kernal None y = reacts (clock + b.reaction) (drive b.device (clock + b.reaction + 80) Clock Free ∷ for_one b.device Silent (drive b.device (clock + b.reaction + 80) Data Free) ∷ []) refl refl tt (omega arith) (reacts (clock + b.reaction + 80) [] refl refl tt tt (ends refl))
    go Kernal (Some g) y =
        let free = drive b.device (clock + b.reaction + 80) Clock Free in
        let silent = for_one b.device Silent (drive b.device (clock + b.reaction + 80) Data Free) in
        let is : merge (host g Data Free ∷ []) (silent_part Kernal b.device (clock + b.reaction)) ≡ drive b.device (clock + b.reaction) Clock Pull ∷ free ∷ silent ∷ host g Data Free ∷ [] =
        merge_there (host g Data Free) [] (drive b.device (clock + b.reaction) Clock Pull) (free ∷ silent ∷ []) (omega (arith, y))
        ∙ ap (λ (zs : List Step). drive b.device (clock + b.reaction) Clock Pull ∷ zs) (merge_there (host g Data Free) [] free (silent ∷ []) (omega (arith, y))
        ∙ ap (λ (zs : List Step). free ∷ zs) (merge_there (host g Data Free) [] silent [] (omega (arith, y)))) in
        subst (λ (zs : List Step). Follows None (stands (at_pace Kernal b) Talker (lines false true) (wires false false true) (Speaking (Answering (clock + b.reaction)))) zs (stands (at_pace Kernal b) Talker (lines false false) (wires false false false) (Speaking Over)))
        (sym is)
        (reacts (clock + b.reaction) (free ∷ silent ∷ host g Data Free ∷ []) refl refl tt (omega arith) (reacts (clock + b.reaction + 80) (host g Data Free ∷ []) refl refl tt (omega (arith, y)) (tells tt refl (ends refl))))

nothing_law : (b : Party) (o : Held) (at clock : ℕ) (freed : Option ℕ) → 1 ≤ b.reaction → Law (Nothing at clock freed) (seat b Talker o)
nothing_law b o at clock freed r p q peek h k y =
    let s = seat b Talker o in
    let gap = k.1 in
    let q2 = stands b Talker (lines false false) (wires false false (is_none freed)) (Speaking Over) in
    let start = stands b Talker (lines false true) (wires true true false) (Hearing Holding) in
    let silent = silent_part b.pace b.device (clock + b.reaction) in
    let steps : steps_of (alone p s) (Nothing at clock freed) ≡ host at Data Pull ∷ for_each Released (host at Atn Free) ∷ host clock Clock Free ∷ merge (freed_steps freed) silent =
    turn_first at (host clock Clock Free ∷ freed_steps freed) silent (silent_head b.pace b.device at (clock + b.reaction) (omega (arith, gap)))
    ∙ ap (λ (zs : List Step). host at Data Pull ∷ for_each Released (host at Atn Free) ∷ zs) (merge_first (host clock Clock Free) (freed_steps freed) silent (silent_head b.pace b.device clock (clock + b.reaction) (omega arith))) in
    let all : Follows peek start (host at Data Pull ∷ for_each Released (host at Atn Free) ∷ host clock Clock Free ∷ merge (freed_steps freed) silent) q2 =
    subst (λ (x : Option (ℕ × Bool)). Follows x start (host at Data Pull ∷ for_each Released (host at Atn Free) ∷ host clock Clock Free ∷ merge (freed_steps freed) silent) q2) (sym y)
    (tells tt refl (tells tt refl (tells tt refl (freed_follows b clock freed k.2)))) in (
      q2,
      (
        seat b Talker (lines false false),
        (
          subst (λ (x : Port). Follows peek x (steps_of (alone p s) (Nothing at clock freed)) q2) (sym (at_commanding p s q h true k.0.commanding)) (subst (λ (zs : List Step). Follows peek start zs q2) (sym steps) all),
          refl,
          record { party = refl; role = refl; own = refl; others = refl; side = inr refl; lines_there = tt },
        ),
      ),
    )

-- a frame of the talker
pub said_stands : (peek : Option (ℕ × Bool)) (b : Party) (accept : ℕ) (v : Bool)
    → ((said_port peek b accept v).party ≡ b) × ((said_port peek b accept v).role ≡ Talker) × ((said_port peek b accept v).own ≡ lines (not v) false)
    × ((said_port peek b accept v).others ≡ host_wires (if v then Open else Leading (accept + 100)) (lines false true)) × SideAt (if v then Open else Leading (accept + 100)) Talker (said_port peek b accept v).side
    × LinesAt (if v then Open else Leading (accept + 100)) (lines (not v) false) (lines false true)
said_stands peek b accept true = (refl, refl, refl, refl, inr refl, tt)
said_stands peek b accept false = (refl, refl, refl, refl, (refl, refl), (refl, refl))

talk_law : (b : Party) (o : Held) (at : ℕ) (f : Told) → Law (Talk at f) (seat b Talker o)
talk_law b o at f p q peek h k y =
    let s = seat b Talker o in
    let bits = Some (number_of f.bits, is_last f) in
    let q2 = said_port bits b f.accept (is_last f) in
    let start = stands b Talker (lines true false) (wires false false true) (Speaking (Led at)) in
    let z = said_stands bits b f.accept (is_last f) in
    let all = told_follows b at f.bits f.free f.accept f.signal k.1 in (
      q2,
      (
        seat b Talker (lines (not (is_last f)) false),
        (
          subst (λ (x : Port). Follows peek x (steps_of (alone p s) (Talk at f)) q2) (sym (at_leading p s q h at k.0))
              (subst (λ (x : Option (ℕ × Bool)). Follows x start (steps_of (alone p s) (Talk at f)) q2) (sym y) (subst (λ (zs : List Step). Follows bits start zs q2) (sym (told_is b at f k.1)) all)),
          refl,
          record { party = z.0; role = z.1; own = z.2; others = z.3; side = z.4; lines_there = z.5 },
        ),
      ),
    )

-- the role of the only drive, by what the piece asks of it
one_listens : (r : Role) → (if is_listener r then true else false) ≡ true → r ≡ Listener
one_listens Absent h = cc
one_listens Listener h = refl
one_listens Talker h = cc

one_talks : (r : Role) → (if is_talker r then true else false) ≡ true → r ≡ Talker
one_talks Absent h = cc
one_talks Listener h = cc
one_talks Talker h = refl

one_absent : (r : Role) → (if is_listener r then true else false) ≡ false → (if is_talker r then true else false) ≡ false → r ≡ Absent
one_absent Absent h k = refl
one_absent Listener h k = cc
one_absent Talker h k = cc

pub as_role : (w : Whole) (s : Seat) (r : Role) → s.role ≡ r → Law w (seat s.party r s.own) → Law w s
as_role w s r e f = subst (λ (x : Role). Law w (seat s.party x s.own)) (sym e) f

leads_talker : (p : Point) (s : Seat) (q : Port) (at : ℕ) → StandsAt (alone p s) s q → p.place ≡ Leading at → s.role ≡ Talker
leads_talker p s q at h e = let side : SideAt (Leading at) s.role q.side = subst (λ (x : BusPlace). SideAt x s.role q.side) e h.side in side.0

listens_listener : (p : Point) (s : Seat) (q : Port) → StandsAt (alone p s) s q → p.place ≡ Listening → s.role ≡ Listener
listens_listener p s q h e = let side : SideAt Listening s.role q.side = subst (λ (x : BusPlace). SideAt x s.role q.side) e h.side in side.0

pub follows_pieces : FollowsPieces
follows_pieces p s (PullPiece at) q peek r prompt h f y = pull_law s at p q peek h f y
follows_pieces p s (Command g) q peek r prompt h f y = command_law s g r prompt p q peek h f y
follows_pieces p s (Byte eoi g) q peek r prompt h f y = as_role (Byte eoi g) s Listener (listens_listener p s q h f.0) (byte_law s.party s.own eoi g r prompt) p q peek h f y
follows_pieces p s (ToListener at) q peek r prompt h f y = as_role (ToListener at) s Listener (one_listens s.role f.listener) (listener_law s.party s.own at) p q peek h f y
follows_pieces p s (ToNobody at clock) q peek r prompt h f y = as_role (ToNobody at clock) s Absent (one_absent s.role f.0.listener f.0.talker) (nobody_law s.party s.own at clock) p q peek h f y
follows_pieces p s (ToTalker at clock) q peek r prompt h f y = as_role (ToTalker at clock) s Talker (one_talks s.role f.0.talker) (talker_law s.party s.own at clock r) p q peek h f y
follows_pieces p s (Nothing at clock freed) q peek r prompt h f y = as_role (Nothing at clock freed) s Talker (one_talks s.role f.0.talker) (nothing_law s.party s.own at clock freed r) p q peek h f y
follows_pieces p s (Talk at g) q peek r prompt h f y = as_role (Talk at g) s Talker (leads_talker p s q at h f.0) (talk_law s.party s.own at g) p q peek h f y
