-- A request that was performed from rest was carried out.
use Rattle.cbm_session.proofs.alone.Frames.{done_due}
use Rattle.std.proofs.Common.{◌≡◌, ℕ, zero, ◌+◌, ◌≤◌, Bool, false, List, [], ◌∷◌, ◌++◌, append-nil, Option, Some, None, refl, sym, ap, ◌∙◌, subst, arith}
use Rattle.std.specs.List.{All}
use Rattle.cbm_iec.specs.Ports.{resting, port_due}
use Rattle.cbm_iec.specs.declared.machine.Act.{Act}
use Rattle.cbm_iec.specs.declared.event.Event.{Event}
use Rattle.cbm_iec.specs.declared.event.Who.TheVariants.{Host, Drive}
use Rattle.cbm_iec.specs.declared.event.Who.{Who}
use Rattle.cbm_iec.specs.declared.lines.Line.TheVariants.{Clock, Data}
use Rattle.cbm_iec.specs.declared.lines.Held.{Held}
use Rattle.cbm_iec.specs.declared.party.Party.{Party}
use Rattle.cbm_iec.specs.declared.party.Role.TheVariants.{Absent}
use Rattle.cbm_iec.specs.declared.port.Port.{Port}
use Rattle.cbm_session.proofs.headline.FrameBus.{StandsSo}
use Rattle.cbm_session.proofs.headline.Here.{Here}
use Rattle.cbm_session.proofs.headline.LawsMet.{keeps}
use Rattle.cbm_session.proofs.headline.Lawful.{rest_here}
use Rattle.cbm_session.proofs.headline.Premises.{place_in, mute, Stood}
use Rattle.cbm_session.proofs.reading.OneReading.{one_reading_lem}
use Rattle.cbm_session.proofs.timing.KeepsTiming.{fronts_keep}
use Rattle.cbm_session.proofs.timing.SessionOrder.{goes_on}
use Rattle.cbm_session.specs.Among.{Rest, wires_of}
use Rattle.cbm_session.specs.Answers.{Allowed, Run}
use Rattle.cbm_session.specs.Buses.{SideAmong, rest_at, holding}
use Rattle.cbm_session.specs.Following.{in_attention}
use Rattle.cbm_session.specs.Laws.{GoesOn}
use Rattle.cbm_session.specs.Pieces.{Piece, BusPlace, Point, Open}
use Rattle.cbm_session.specs.Playing.{Station, IsLaterDue, nobody, Plays, at_rest, IsMachine, IsKept}
use Rattle.cbm_session.specs.Seats.{lines, Seat}
use Rattle.cbm_session.specs.Sessions.{rest, Splits, session_steps, acts_of, IsDrive, IsBus}
use Rattle.cbm_session.specs.Steps.{Step, events_of, acts_for}
use Rattle.cbm_session.specs.Timing.{HostKeeps}
use Rattle.cbm_drive.specs.Cables.{Cabled, all_free}
use Rattle.cbm_drive.specs.Players.{Turns, pending, IsSecond}
use Rattle.cbm_drive.specs.Seats.{IsBusAt}
use Rattle.cbm_host.proofs.Along.{taken_in, last_in}
use Rattle.cbm_host.proofs.Answering.{Plan, all_small, plan}
use Rattle.cbm_host.proofs.Bytewise.{bytewise, byte_machine, all_bytes, plays_bytes}
use Rattle.cbm_host.proofs.Counted.{marks_of, acts_from, taken_from, last_from, acts_are, taken_are, last_are}
use Rattle.cbm_host.proofs.Ended.{ended}
use Rattle.cbm_host.proofs.Finished.{finished}
use Rattle.cbm_host.proofs.Joined.{DriveComes, Comes, comes}
use Rattle.cbm_host.proofs.Joining.{is_next}
use Rattle.cbm_host.proofs.Joint.{met, quiet_bytes, goes_bytes}
use Rattle.cbm_host.proofs.Settling.{Settles, rests, one_settles}
use Rattle.cbm_host.proofs.Started.{not_before_start, starts_at}
use Rattle.cbm_host.proofs.Within.{IsIn, host_first, between}
use Rattle.cbm_host.specs.CarriedOut as asked
use Rattle.cbm_host.specs.CarriedOut.{AreTakenBy, IsShort, HasCarriedOut}
use Rattle.cbm_host.specs.Engines.{engine_at, engine_due, stage_end, channel_of}
use Rattle.cbm_host.specs.Performed.{HasPerformed}
use Rattle.cbm_host.specs.Performers.{Performing, StopsPerforming}
use Rattle.cbm_host.specs.Requests.{longest, end_point}
use Rattle.cbm_host.specs.Stages.{stage_due, take_due, due_of}
use Rattle.cbm_host.specs.declared.due.Due.{Due}
use Rattle.cbm_host.specs.declared.due.Due.TheVariants.{Makes, Waits, Hears, Over}
use Rattle.cbm_host.specs.declared.request.Request.{Request}
use Rattle.cbm_host.specs.declared.stage.Stage.{Stage}
use Rattle.cbm_host.specs.declared.stage.Stage.TheVariants.{Attending, Framing, Calling, Releasing, Turning, Taking, Ending, Done}
use Rattle.cbm_host.specs.declared.take.Take.{Take}
use Rattle.cbm_host.specs.declared.take.Take.TheVariants.{Awaiting, Freeing, Listening, Marking, Unmarking, Gathering, Accepting}

-- a request that is over ended then
due_over : (o : Option Rattle.cbm_iec.specs.declared.lines.Change.Change) (at : ℕ) → due_of o ≡ Over at → ⊥
due_over None at e = cc
due_over (Some c) at e = cc

take_over : (t : Take) (at : ℕ) → take_due t ≡ Over at → ⊥
take_over Awaiting at e = cc
take_over (Freeing t) at e = cc
take_over (Listening t) at e = cc
take_over (Marking t) at e = cc
take_over (Unmarking t) at e = cc
take_over (Gathering c) at e = cc
take_over (Accepting t byte last) at e = cc

ended_then : (s : Stage) (at : ℕ) → stage_due s ≡ Over at → stage_end s ≡ Some at
ended_then (Attending t p a) at e = absurd cc
ended_then (Framing frame afterwards) at e = absurd (due_over (Rattle.cbm_host.specs.Sending.frame_change frame) at e)
ended_then (Calling t) at e = absurd cc
ended_then (Releasing t r) at e = absurd cc
ended_then (Turning t) at e = absurd cc
ended_then (Taking take) at e = absurd (take_over take at e)
ended_then (Ending t) at e = absurd cc
ended_then (Done t) at e = let same : t ≡ at = cc in ap (λ (n : ℕ). Some n) same

-- nobody else holds a line where all is free
free_rest : (b : Party) (p : Point) → p.place ≡ Open → p.host ≡ lines false false → p.seats ≡ (record { party = b; role = Absent; own = lines false false }) ∷ [] → rest_at b.device p ≡ nobody
free_rest b p place host seats =
    ap (λ (q : BusPlace). record { host = record { atn_low = in_attention q; clock_low = p.host.clock_low; data_low = p.host.data_low }; clocks = holding Clock b.device p.seats; datas = holding Data b.device p.seats }) place
    ∙ ap (λ (h : Held). record { host = record { atn_low = false; clock_low = h.clock_low; data_low = h.data_low }; clocks = holding Clock b.device p.seats; datas = holding Data b.device p.seats }) host
    ∙ ap (λ (ss : List Seat). record { host = all_free; clocks = holding Clock b.device ss; datas = holding Data b.device ss }) seats
    ∙ Rattle.cbm_session.proofs.among.Sessions.rest_free (b ∷ []) b

module _ (D M : Type 0) (stands : D → M → Type 0) (step : M → Act → M) (says : M → Option (ℕ × Bool)) (machine : IsMachine M step says) (b : Party) (drive : IsDrive b) (ms : ℕ → M) (start : ℕ) (request : Request) (channel : channel_of request ≤ 15) (short : IsShort M step says b.device (ms b.device) request) where
  abbrev peek : M → Option (ℕ × Bool)
  peek = bytewise M step says false

  abbrev bs : List Party
  bs = b ∷ []

  is_bus : IsBus (b ∷ [])
  is_bus = record { some = omega arith; few = omega arith; drives = (drive, tt); unlike = (tt, tt) }

  the_plan : Plan M step (bytewise M step says false) (all_small M step says false machine) b drive (ms b.device) start request
  the_plan = plan M step says false machine b drive (ms b.device) start request channel short

  stops_bytes : (p : Turns) (limit n : ℕ) (ss : List (Station M)) (es : List Event) (d : Due) → StopsPerforming M step says p limit n ss es d → StopsPerforming M step (bytewise M step says false) p limit n ss es d
  stops_bytes p limit n ss es (Makes c) h = h
  stops_bytes p limit n ss es (Waits u) h = (h.0, quiet_bytes M step says false (limit + 1) n ss es h.1)
  stops_bytes p limit n ss es Hears h = quiet_bytes M step says false (limit + 1) n ss es h
  stops_bytes p limit n ss es (Over at) h = tt

  -- A REQUEST PERFORMED IS CARRIED OUT, and its end is the engine's.
  module _ (p : Performing) (bus : Cabled D) (old new : List Event) (bytes : List ℕ) (last : Bool) (h : HasPerformed D M stands step says (engine_at start b.device request) (start + longest b.pace) p bus old new bytes last (at_rest M step says ms (b ∷ []))) where
    abbrev ks : List Piece
    ks = the_plan.pieces

    allowed : Allowed M step (bytewise M step says false) (rest (b ∷ [])) ms the_plan.pieces
    allowed = the_plan.counts.allowed ms refl

    abbrev until : ℕ
    until = the_plan.played.until

    joint : Rattle.cbm_host.proofs.Along.Joined M step (bytewise M step says false) (all_bytes M step says false) b ms is_bus (byte_machine M step says false machine) the_plan.pieces the_plan.played.linked allowed the_plan.played.afterwards the_plan.played.until the_plan.played.ending h.made h.afterwards bytes last
    joint = met M step says false b ms is_bus machine the_plan.pieces the_plan.played.linked allowed (engine_at start b.device request) the_plan.played.afterwards the_plan.played.until the_plan.played.ending the_plan.played.performs h.runs (pending p.player.second) h.going.after.from h.going.after.stations h.going.after.plays

    over : (joint.more ≡ []) × (engine_due p.engine ≡ Over the_plan.played.until)
    over =
        let f = the_plan.played in
        finished M step (bytewise M step says false) (all_bytes M step says false) b ms is_bus (byte_machine M step says false machine) the_plan.pieces f.linked allowed f.afterwards f.until f.ending (start + longest b.pace) f.soon f.front f.last f.steps f.over h.made h.afterwards bytes last joint p.engine
        (goes_bytes M step says false zero (at_rest M step says ms (b ∷ [])) h.made h.afterwards p.engine h.goes_on) p.player h.from (stops_bytes p.player (start + longest b.pace) zero (at_rest M step says ms (b ∷ [])) h.made (engine_due p.engine) h.stops)

    all_done : session_steps (rest (b ∷ [])) the_plan.pieces ≡ joint.done ++ []
    all_done = joint.all ∙ ap (λ (l : List Step). joint.done ++ l) over.0

    -- nothing is still to be given
    none_left : (o : Option Event) → p.player.second ≡ o → p.player.second ≡ None
    none_left None e = e
    none_left (Some x) e =
        let second : IsSecond p.player.from (Some x) = subst (IsSecond p.player.from) e h.going.after.second in
        let plays : Plays M step says zero (at_rest M step says ms (b ∷ [])) (h.made ++ x ∷ []) h.going.after.from h.going.after.stations = subst (λ (o : Option Event). Plays M step says zero (at_rest M step says ms (b ∷ [])) (h.made ++ pending o) h.going.after.from h.going.after.stations) e h.going.after.plays in
        absurd (by_who x x.who second.0 (comes M step (bytewise M step says false) (plays_bytes M step says false plays) h.made x [] refl))
      where
        by_who : (x : Event) (w : Who) → Rattle.cbm_drive.specs.Players.IsDrives w → Comes M step (bytewise M step says false) zero (at_rest M step says ms (b ∷ [])) h.made w x → ⊥
        by_who x Host d k = d
        by_who x (Drive o) d k =
            let k2 : DriveComes M step (bytewise M step says false) zero (at_rest M step says ms (b ∷ [])) (events_of joint.done) x = subst (λ (l : List Event). DriveComes M step (bytewise M step says false) zero (at_rest M step says ms (b ∷ [])) l x) (sym joint.shown) k in
            let n = is_next M step (bytewise M step says false) (all_bytes M step says false) b ms is_bus (byte_machine M step says false machine) the_plan.pieces the_plan.played.linked allowed joint.done [] x all_done k2 (λ none. tt) in
            let no = n.2 in
            cc

    none : p.player.second ≡ None
    none = none_left p.player.second refl

    all_plays : Plays M step says zero (at_rest M step says ms (b ∷ [])) h.made h.going.after.from h.going.after.stations
    all_plays = subst (λ (l : List Event). Plays M step says zero (at_rest M step says ms (b ∷ [])) l h.going.after.from h.going.after.stations) (ap (λ (o : Option Event). h.made ++ pending o) none ∙ append-nil h.made) h.going.after.plays

    -- the drive stands at the session's end
    here : (ms2 : ℕ → M) × Here M step (bytewise M step says false) (place_in (b ∷ [])) (end_point (rest (b ∷ [])) the_plan.pieces) ms2 h.going.after.stations
    here =
        ended M step (bytewise M step says false) (place_in (b ∷ [])) (byte_machine M step says false machine) the_plan.pieces (rest (b ∷ [])) ms (at_rest M step says ms (b ∷ [])) (rest_here M step (bytewise M step says false) (b ∷ []) ms is_bus (byte_machine M step says false machine)) the_plan.played.linked allowed the_plan.played.at_rest
        (plays_bytes M step says false all_plays) joint.done all_done joint.shown

    one : (x : Station M) × (h.going.after.stations ≡ x ∷ []) × Settles x.port
    one = one_settles M step says all_plays _ refl tt

    end_stands : StandsSo M step (bytewise M step says false) mute (place_in (b ∷ [])) (end_point (rest (b ∷ [])) the_plan.pieces) (record { party = b; role = Absent; own = lines false false }) one.0
    end_stands =
        let q = end_point (rest (b ∷ [])) the_plan.pieces in
        let s : Stood M step (bytewise M step says false) (place_in (b ∷ [])) q ((record { party = b; role = Absent; own = lines false false }) ∷ []) (one.0 ∷ []) =
        subst (λ (v : List (Station M)). Stood M step (bytewise M step says false) (place_in (b ∷ [])) q ((record { party = b; role = Absent; own = lines false false }) ∷ []) v) one.1
        (subst (λ (v : List Seat). Stood M step (bytewise M step says false) (place_in (b ∷ [])) q v h.going.after.stations) the_plan.played.alone here.1.stand) in
        s.0

    nobody_holds : rest_at b.device (end_point (rest (b ∷ [])) the_plan.pieces) ≡ nobody
    nobody_holds = free_rest b (end_point (rest (b ∷ [])) the_plan.pieces) the_plan.played.at_rest the_plan.played.free the_plan.played.alone

    idle : port_due one.0.port ≡ None
    idle = done_due one.0.port.side (subst (λ (v : BusPlace). SideAmong v Absent one.0.port.side) the_plan.played.at_rest end_stands.stands.side)

    -- and it is at rest there
    is_at_rest : h.going.after.stations ≡ at_rest M step says (λ d. one.0.machine) (b ∷ [])
    is_at_rest =
        let s = end_stands.stands in
        let port = rests b one.0.port one.2 s.party s.role s.own (s.others ∙ ap (λ (r : Rest). wires_of r) nobody_holds) idle in
        let rest_is : one.0.rest ≡ nobody = end_stands.rest ∙ nobody_holds in
        one.1 ∙ ap (λ (q : Port). (record { port = q; rest = one.0.rest; machine = one.0.machine }) ∷ []) port ∙ ap (λ (r : Rest). (record { port = resting b; rest = r; machine = one.0.machine }) ∷ []) rest_is

    the_splits : Splits (b ∷ []) the_plan.pieces joint.done []
    the_splits = record { linked = the_plan.played.linked; steps = all_done }

    timing : (end : ℕ) → HostKeeps (b ∷ []) h.made end
    timing end = subst (λ (l : List Event). HostKeeps (b ∷ []) l end) joint.shown (fronts_keep (b ∷ []) the_plan.pieces joint.done [] end is_bus the_splits tt)

    kept_one : (end : ℕ) → IsKept M step says (b ∷ []) ms h.made end (one.0 ∷ [])
    kept_one end =
        keeps M step says (b ∷ []) ms h.going.after.from end h.made (one.0 ∷ []) is_bus machine (subst (λ (v : List (Station M)). Plays M step says zero (at_rest M step says ms (b ∷ [])) h.made h.going.after.from v) one.1 all_plays)
        (subst (λ (o : Option ℕ). IsLaterDue end o) (sym idle) tt, tt) (timing end)

    -- what counts in the trace is what counts in the request
    all_marks : marks_of joint.done ≡ the_plan.marks
    all_marks = ap (λ (l : List Step). marks_of l) (sym (append-nil joint.done) ∙ sym all_done) ∙ the_plan.counts.counted

    is_taken : bytes ≡ taken_from the_plan.marks
    is_taken = joint.taken ∙ taken_are joint.done ∙ ap (λ (l : List (Who × Rattle.cbm_session.specs.Steps.Mark)). taken_from l) all_marks

    is_last : last ≡ last_from false the_plan.marks
    is_last = joint.over ∙ last_are false joint.done ∙ ap (λ (l : List (Who × Rattle.cbm_session.specs.Steps.Mark)). last_from false l) all_marks

    one_reading : acts_for b.device (kept_one zero).done ≡ acts_for b.device joint.done
    one_reading =
        let k = kept_one zero in
        let same : acts_of (b ∷ []) k.done ≡ acts_of (b ∷ []) joint.done =
        one_reading_lem (b ∷ []) h.made (acts_of (b ∷ []) k.done) (acts_of (b ∷ []) joint.done) is_bus (k.pieces, (k.done, (k.more, (k.splits, k.events, refl)))) (the_plan.pieces, (joint.done, ([], (the_splits, joint.shown, refl)))) in
        cc

    ran : Run M step says (ms b.device) (asked.acts_carried_out b.device request bytes last) one.0.machine
    ran =
        let k = kept_one zero in
        let party = end_stands.stands.party in
        let r : Run M step says (ms b.device) (acts_for b.device k.done) one.0.machine = subst (λ (v : Party). Run M step says (ms v.device) (acts_for v.device k.done) one.0.machine) party k.ran.0 in
        let acts : acts_for b.device k.done ≡ asked.acts_carried_out b.device request bytes last =
        one_reading ∙ acts_are b.device joint.done ∙ ap (λ (l : List (Who × Rattle.cbm_session.specs.Steps.Mark)). acts_from b.device l) all_marks ∙ the_plan.acts
        ∙ ap (λ (l : List ℕ). asked.acts_carried_out b.device request l (last_from false the_plan.marks)) (sym is_taken) ∙ ap (λ (v : Bool). asked.acts_carried_out b.device request bytes v) (sym is_last) in
        subst (λ (l : List Act). Run M step says (ms b.device) l one.0.machine) acts r

    end_is : stage_end p.engine.stage ≡ Some the_plan.played.until
    end_is = ended_then p.engine.stage the_plan.played.until over.1

    -- each event lies between the start and the end
    none_last : (front : List Step) (last : Step) → [] ≡ front ++ last ∷ [] → ⊥
    none_last [] last e = cc
    none_last (x ∷ front) last e = cc

    is_within : All (IsIn start the_plan.played.until) h.made
    is_within = subst (λ (l : List Event). All (IsIn start the_plan.played.until) l) joint.shown (by joint.done (all_done ∙ append-nil joint.done) joint.shown)
      where
        by : (done : List Step) → session_steps (rest (b ∷ [])) the_plan.pieces ≡ done → events_of done ≡ h.made → All (IsIn start the_plan.played.until) (events_of done)
        by [] e s = absurd (none_last the_plan.played.front the_plan.played.last (sym e ∙ the_plan.played.steps))
        by (x ∷ xs) e s =
            let host = host_first M step says ms b all_plays x.event (events_of xs) (sym s) in
            let at_ = starts_at start b.device request the_plan.played.performs refl x xs e host in
            between start the_plan.played.until x xs the_plan.played.front the_plan.played.last (subst GoesOn e (goes_on (b ∷ []) the_plan.pieces is_bus the_plan.played.linked)) (sym e ∙ the_plan.played.steps) host at_ the_plan.played.over

    carried_out : HasCarriedOut D M stands step says b ms start request bus old new bytes last the_plan.played.until
    carried_out = record {
      made = h.made;
      added = h.added;
      machine = one.0.machine;
      now = subst (λ (v : List (Station M)). IsBusAt D M stands bus.host bus.drives v) is_at_rest h.going.after.now;
      done = record {
        timing = timing the_plan.played.until;
        kept = subst (λ (v : List (Station M)). IsKept M step says (b ∷ []) ms h.made the_plan.played.until v) (sym one.1 ∙ is_at_rest) (kept_one the_plan.played.until);
        ran = ran;
        taken = subst (λ (v : Bool). AreTakenBy request bytes v) (sym is_last) (subst (λ (l : List ℕ). AreTakenBy request l (last_from false the_plan.marks)) (sym is_taken) the_plan.taken);
        within = is_within;
        later = not_before_start b start b.device (start + longest b.pace) request the_plan.pieces is_bus the_plan.played;
        soon = the_plan.played.soon;
      };
    }

    pub some_end : (end : ℕ) × (stage_end p.engine.stage ≡ Some end)
    some_end = (the_plan.played.until, end_is)

    -- the same at the end that the engine tells
    pub carried_out_then : (end : ℕ) → stage_end p.engine.stage ≡ Some end → HasCarriedOut D M stands step says b ms start request bus old new bytes last end
    carried_out_then end e = let same : the_plan.played.until ≡ end = (let k : Some the_plan.played.until ≡ Some end = sym end_is ∙ e in cc) in subst (λ (n : ℕ). HasCarriedOut D M stands step says b ms start request bus old new bytes last n) same carried_out

    pub carried_soon : (end : ℕ) → stage_end p.engine.stage ≡ Some end → end ≤ start + longest b.pace
    carried_soon end e = (carried_out_then end e).done.soon
