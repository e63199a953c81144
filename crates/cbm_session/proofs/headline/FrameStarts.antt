-- After DATA's release by all drives, in attention, the next reaction is due 200 later at the earliest: none is due where the host may still begin its bits.
use Rattle.std.proofs.Common.{◌≡◌, ℕ, zero, suc, ◌+◌, ◌≤◌, ◌<◌, inl, inr, Bool, true, false, List, [], ◌∷◌, ◌++◌, map, append-nil, length, Option, Some, ap, sym, ◌∙◌, subst, arith, refl}
use Rattle.cbm_iec.specs.Ports.{port_due}
use Rattle.cbm_iec.specs.declared.machine.Act.{Act}
use Rattle.cbm_iec.specs.declared.ear.Ear.TheVariants.{Holding}
use Rattle.cbm_iec.specs.declared.event.Event.{Event}
use Rattle.cbm_iec.specs.declared.lines.Change.{Change}
use Rattle.cbm_iec.specs.declared.lines.Line.TheVariants.{Clock, Data}
use Rattle.cbm_iec.specs.declared.lines.Way.TheVariants.{Free}
use Rattle.cbm_iec.specs.declared.lines.Held.{Held}
use Rattle.cbm_iec.specs.declared.port.Port.{Port}
use Rattle.cbm_iec.specs.declared.port.Side.TheVariants.{Hearing}
use Rattle.cbm_iec.specs.declared.port.Side.{Side}
use Rattle.cbm_session.proofs.among.Answers.{every_left}
use Rattle.cbm_session.proofs.among.Around.{every_drives}
use Rattle.cbm_session.proofs.among.Calm.{Every}
use Rattle.cbm_session.proofs.among.Changes.{Changes, all_change, in_order, last_or, last_is}
use Rattle.cbm_session.proofs.among.Frames.{in_hold, holds, ready_follows}
use Rattle.cbm_session.proofs.among.Points.{commanding_rest}
use Rattle.cbm_session.proofs.among.Releases.{freeing_follows, holding, timed}
use Rattle.cbm_session.proofs.among.Turns.{commanding_port}
use Rattle.cbm_session.proofs.alone.Frames.{stands}
use Rattle.cbm_session.proofs.frames.Phases.{each, ReactsBy, react_by, commands_go_in_parts, none_joined}
use Rattle.cbm_session.proofs.headline.AlongBus.{GoesSo, AllGo, devs, IsPlain, WithinAll, PassedAll, along_bus}
use Rattle.cbm_session.proofs.headline.CutBus.{goes_front, order_front, tied_front, owned_front}
use Rattle.cbm_session.proofs.headline.FrameBus.{OfFrame, command_frame, frame_noatn, frame_last, frame_others, twin_self, ear_asks, devs_are}
use Rattle.cbm_session.proofs.headline.GoesOf.{goes_of}
use Rattle.cbm_session.proofs.headline.Meeting.{Compat, AsksFor}
use Rattle.cbm_session.proofs.headline.PieceBus.{steps_sit, steps_tied, steps_go}
use Rattle.cbm_session.proofs.headline.Premises.{mute, Rises, Stood, rises_placed}
use Rattle.cbm_session.proofs.headline.SideStates.{SideHolds, side_react}
use Rattle.cbm_session.proofs.headline.SomeDue.{SomeDue, goes_none}
use Rattle.cbm_session.proofs.headline.TalkSwap.{twin_compat}
use Rattle.cbm_session.proofs.joining.Merging.{AllBefore, all_sooner}
use Rattle.cbm_session.proofs.joining.Seating.{Sits}
use Rattle.cbm_session.proofs.reading.PieceReadings.{is_commanding}
use Rattle.cbm_session.proofs.among.Fronts.{steps_order}
use Rattle.cbm_session.specs.Among.{Rest, wires_of, FollowsAmong, ends}
use Rattle.cbm_session.specs.Frames.{Sent, wire}
use Rattle.cbm_session.specs.Laws.{SeatsReact, releases, from_start, accepts, frame_in_parts}
use Rattle.cbm_session.specs.Pieces.{Point, Command, Full, steps_of, Fits}
use Rattle.cbm_session.specs.Playing.{Station, Plays, stays, change, reaction, drive_events, shown}
use Rattle.cbm_session.specs.Seats.{Seat, lines, device, reaction as reacts_in, slowest}
use Rattle.cbm_session.specs.Steps.{Step, Plain, moment_of, events_of, host, drive}

-- CLOCK's release and what the drives answer
abbrev pub offer : List Seat → Sent → List Step
offer hs f = host f.ready Clock Free ∷ releases hs f

every_early : (m : ℕ) (ss : List Step) → Every (λ s. moment_of s < m) ss → AllBefore m ss
every_early m [] a = tt
every_early m (s ∷ ss) a = (a.0, every_early m ss a.1)

offer_early : (hs : List Seat) (f : Sent) → SeatsReact hs → AllBefore (wire hs f + 1) (offer hs f)
offer_early hs f r = (
  omega arith,
  every_early (wire hs f + 1) (releases hs f) (every_drives (λ s. moment_of s < wire hs f + 1) (λ (s : Seat). drive (device s) (f.ready + reacts_in s) Data Free ∷ []) hs
      (each (ReactsBy (slowest hs)) (λ x. Every (λ s. moment_of s < wire hs f + 1) (drive (device x) (f.ready + reacts_in x) Data Free ∷ [])) hs (λ x k. (let l = k.2 in omega (arith, l), tt)) (react_by (slowest hs) hs r (omega arith)))),
)

-- a drive in hold that hears the offer waits for the time of EOI
pub record Offered (says : Option (ℕ × Bool)) (s : Seat) (n t : ℕ) (ss : List Step) : Type 0 where
  pub rest : Rest
  pub port : Port
  pub follows : FollowsAmong says (in_hold true n) (holds says s.party s.role false true n) ss rest port
  pub due : port_due port ≡ Some (t + 200 + s.party.reaction)

offered : (says : Option (ℕ × Bool)) (s : Seat) (hs : List Seat) (f : Sent) (n : ℕ) → Sits (device s) hs s → suc n ≡ length hs → Offered says s n (wire hs f) (offer hs f)
offered says s [] f n sits e = elim sits [ ]
offered says s (x ∷ xs) f n sits e =
    let rel = all_change Free (λ o. Plain) f.ready x xs s sits in
    let b = s.party in
    let ss = releases (x ∷ xs) f in
    let t = last_or f.ready (releases (x ∷ xs) f) in
    let is = last_is Free (λ o. Plain) f.ready x xs in
    let same : rel.0 ≡ n = (let k = rel.1 in omega (arith, k, e)) in
    let r2 = holding says b s.role (in_hold true n) (holds says b s.role false true n) [] true zero in
    let q2 = timed says b s.role (in_hold true n) (holds says b s.role false true n) [] true t in
    let f1 = freeing_follows says b s.role r2 q2 [] true (f.ready + b.reaction) f.ready n ss (subst (λ (m : ℕ). Changes Free (λ o. Plain) (device s) (f.ready + reacts_in s) ss m true) same rel.2) (in_order Free (λ o. Plain) f.ready x xs) tt (ends refl refl) in
    let f2 = ready_follows says b s.role false true n f.ready (ss ++ []) r2 q2 f1 in
    record {
      rest = r2;
      port = q2;
      follows = subst (λ (l : List Step). FollowsAmong says (in_hold true n) (holds says b s.role false true n) (host f.ready Clock Free ∷ l) r2 q2) (append-nil ss) f2;
      due = ap (λ (m : ℕ). Some (m + 200 + b.reaction)) is;
    }

held_port : (says : Option (ℕ × Bool)) (s : Seat) (n : ℕ) → stands s.party s.role (lines false true) (wires_of (in_hold true n)) (Hearing Holding) ≡ holds says s.party s.role false true n
held_port says s zero = refl
held_port says s (suc n) = refl

-- what is due after these is due late
abbrev pub AllLate : ℕ → List (Rest × Port) → Type 0
AllLate m [] = Unit {0}
AllLate m (e ∷ es) = ((u : ℕ) → port_due e.1 ≡ Some u → m ≤ u) × AllLate m es

no_back : (xs front back : List Step) → xs ≡ front ++ back → events_of front ≡ events_of xs → back ≡ []
no_back [] [] back e h = sym e
no_back [] (y ∷ front) back e h = absurd cc
no_back (x ∷ xs) [] back e h = absurd cc
no_back (x ∷ xs) (y ∷ front) back e h = (let tail : xs ≡ front ++ back = cc in let shown : events_of front ≡ events_of xs = cc in no_back xs front back tail shown)

pub no_more : (l more : List Event) → l ≡ l ++ more → more ≡ []
no_more [] more e = sym e
no_more (x ∷ l) more e = (let tail : l ≡ l ++ more = cc in no_more l more tail)

none_shown : (d : ℕ) (cs : List Change) (more : List Event) → drive_events d cs ++ more ≡ [] → cs ≡ []
none_shown d [] more e = refl
none_shown d (c ∷ cs) more e = absurd cc

module _ (M : Type 0) (step : M → Act → M) (peek : M → Option (ℕ × Bool)) (place : ℕ → ℕ) where
  late_due : (m t : ℕ) (zs : List (Station M)) (fin : List (Rest × Port)) → AllGo M step peek mute place zs [] fin → AllLate m fin → SomeDue M step peek t zs → m ≤ t
  late_due m t [] fin g l d = elim d [ ]
  late_due m t (z ∷ zs) [] g l d = elim g [ ]
  late_due m t (z ∷ zs) (e ∷ fin) g l (inl k) = l.0 t (ap (λ (v : Port). port_due v) (goes_none (mute z.port.party.device) g.0.goes) ∙ k)
  late_due m t (z ∷ zs) (e ∷ fin) g l (inr d) = late_due m t zs fin g.1 l.1 d

  holds_among : (before : List (Station M)) (o : Station M) (afterwards : List (Station M)) (ys : List Step) (fin : List (Rest × Port)) → AllGo M step peek mute place (before ++ o ∷ afterwards) ys fin → SideHolds o.port.side o.port.own
  holds_among [] o afterwards ys [] g = elim g [ ]
  holds_among [] o afterwards ys (e ∷ fin) g = g.0.holds
  holds_among (b ∷ before) o afterwards ys [] g = elim g [ ]
  holds_among (b ∷ before) o afterwards ys (e ∷ fin) g = holds_among before o afterwards ys fin g.1

  -- where nothing shows nothing was done
  still : {n n2 : ℕ} {zs ss2 : List (Station M)} {es : List Event} → Plays M step peek n zs es n2 ss2 → es ≡ [] → (fin : List (Rest × Port)) → AllGo M step peek mute place zs [] fin → ss2 ≡ zs
  still (stays b e k f) none fin g = f
  still (change c more b l i e f) none fin g = absurd cc
  still (reaction t before o afterwards more b u f e p) none fin g =
      let holds = holds_among before o afterwards [] fin (subst (λ (v : List (Station M)). AllGo M step peek mute place v [] fin) u g) in
      let shows = side_react _ o.port.party.reaction t o.port.others (peek o.machine) o.port.side o.port.own f.due holds in
      absurd (shows.1 (none_shown o.port.party.device (shown M step peek t o) more (sym e ∙ none)))

  module _ (p : Point) (f : Sent) (fits : Fits p (Command f)) where
    abbrev first : List Step
    first = offer p.seats f

    all_offered : (r : SeatsReact p.seats) (frame : Every OfFrame (offer p.seats f)) (ss : List Seat) (xs : List (Station M)) → Stood M step peek place p ss xs → (fin : List (Rest × Port)) × (AllGo M step peek mute place xs (offer p.seats f) fin × AllLate (wire p.seats f + 200) fin)
    all_offered r frame [] [] h = ([], (tt, tt))
    all_offered r frame [] (x ∷ xs) h = elim h [ ]
    all_offered r frame (s ∷ ss) [] h = elim h [ ]
    all_offered r frame (s ∷ ss) (x ∷ xs) h =
        let c = is_commanding fits.0 in
        let k = commanding_rest p s c.0 h.0.sound c.1 in
        let q = x.port in
        let d = q.party.device in
        let port = commanding_port p s q c.0 k.0 h.0.sound h.0.stands c.1 k.2 in
        let z = offered (mute d) s p.seats f k.0 h.0.sound.seated.sits k.1 in
        let rest : x.rest ≡ in_hold true k.0 = h.0.rest ∙ k.2 in
        let seen : q.others ≡ wires_of x.rest = h.0.stands.others ∙ ap (λ (v : Rest). wires_of v) (sym h.0.rest) in
        let follows : FollowsAmong (mute d) x.rest q (offer p.seats f) z.rest z.port =
        subst (λ (v : Rest). FollowsAmong (mute d) v q (offer p.seats f) z.rest z.port) (sym rest) (subst (λ (v : Port). FollowsAmong (mute d) (in_hold true k.0) v (offer p.seats f) z.rest z.port) (sym (port ∙ held_port (mute d) s k.0)) z.follows) in
        let side : q.side ≡ Hearing Holding = ap (λ (v : Port). v.side) port in
        let own : q.own ≡ lines false true = ap (λ (v : Port). v.own) port in
        let holds : SideHolds q.side q.own = subst (λ (v : Side). SideHolds v q.own) (sym side) (ap (λ (o : Held). o.data_low) own) in
        let more = all_offered r frame ss xs h.1 in
        let late : (u : ℕ) → port_due z.port ≡ Some u → u ≡ wire p.seats f + 200 + s.party.reaction = λ u e. (let same : Some u ≡ Some (wire p.seats f + 200 + s.party.reaction) = sym e ∙ z.due in cc) in (
          (z.rest, z.port) ∷ more.0,
          (
            (
              record {
                goes = goes_of (mute d) follows holds seen (frame_noatn (offer p.seats f) frame) (frame_others d (offer p.seats f) frame);
                asks = subst (λ (v : Side). AsksFor (offer p.seats f) v (peek x.machine ≡ mute d)) (sym side) (ear_asks (peek x.machine ≡ mute d) Holding (offer p.seats f));
                holds = holds;
                seen = seen;
                end = λ u e. (let is = late u e in all_sooner (wire p.seats f + 1) u (offer p.seats f) (omega (arith, is)) (offer_early p.seats f r));
              },
              more.1.0,
            ),
            (λ u e. (let is = late u e in omega (arith, is)), more.1.1),
          ),
        )

    -- So where the offer was played and nothing more, nothing is due before then.
    pub offer_due : SeatsReact p.seats → Rises M step peek place (map (λ s. device s) p.seats) → (xs : List (Station M)) → Stood M step peek place p p.seats xs → {n n2 : ℕ} {ss2 : List (Station M)} {es : List Event} → Plays M step peek n xs es n2 ss2 → es ≡ events_of (offer p.seats f)
        → (t : ℕ) → SomeDue M step peek t ss2 → wire p.seats f + 200 ≤ t
    offer_due r rises xs stand {n} {n2} {ss2} {es} plays e t due =
        let rest = from_start f ++ accepts p.seats f (Rattle.cbm_iec.specs.declared.machine.Act.TheVariants.Attention (Rattle.cbm_session.specs.Bits.byte_in_cells f.cells)) in
        let steps : steps_of p (Command f) ≡ offer p.seats f ++ rest = commands_go_in_parts p f r fits ∙ parts p.seats in
        let placed = rises_placed M step peek place p.seats rises in
        let w = Command f in
        let frame = every_left OfFrame (offer p.seats f) rest (subst (Every OfFrame) steps (command_frame p f)) in
        let all = all_offered r frame p.seats xs stand in
        let ds = devs_are M step peek mute place p p.seats xs stand in
        let plain : IsPlain M step peek mute place (map (λ s. device s) p.seats) (offer p.seats f) = record {
          noatn = frame_noatn (offer p.seats f) frame;
          last = frame_last (offer p.seats f) frame;
          goes_on = goes_front (offer p.seats f) rest (subst Rattle.cbm_session.specs.Laws.GoesOn steps (steps_go p (Full w) fits));
          order = order_front (offer p.seats f) rest (subst Rattle.cbm_session.proofs.joining.Merging.InOrder steps (steps_order p w fits));
          tied = tied_front place (offer p.seats f) rest (subst (Rattle.cbm_session.proofs.headline.BusStep.Tied place) steps (steps_tied place p (Full w) fits placed));
          owned = owned_front M step peek mute place (map (λ s. device s) p.seats) (offer p.seats f) rest (subst (Rattle.cbm_session.proofs.headline.AlongBus.OwnedIn M step peek mute place (map (λ s. device s) p.seats)) steps (steps_sit M step peek place p (Full w) fits));
        } in
        let meets : Compat (offer p.seats f) (es ++ []) = subst (λ (l : List Event). Compat (offer p.seats f) (l ++ [])) (sym e) (twin_compat zero (offer p.seats f) (offer p.seats f) [] (twin_self zero (offer p.seats f))) in
        let out = along_bus M step peek mute place plays (offer p.seats f) all.0 all.1.0 (subst (λ (v : List ℕ). Rattle.cbm_session.proofs.headline.AlongBus.RisingIn M step peek mute place v) (sym ds) rises) (subst (λ (v : List ℕ). IsPlain M step peek mute place v (offer p.seats f)) (sym ds) plain) [] meets in
        elim out [
          | inl z ↦ (
              let none = no_back (offer p.seats f) z.front z.back z.parts (z.shown_so ∙ e) in
              late_due (wire p.seats f + 200) t ss2 all.0 (subst (λ (l : List Step). AllGo M step peek mute place ss2 l all.0) none z.goes) all.1.1 due
              )
          | inr z ↦ (
              let none = no_more (events_of (offer p.seats f)) z.more (sym e ∙ z.shown_so) in
              let same = still z.plays none all.0 z.goes in
              late_due (wire p.seats f + 200) t z.there all.0 z.goes all.1.1 (subst (SomeDue M step peek t) same due)
              )
        ]
      where
        parts : (hs : List Seat) → frame_in_parts hs false (Rattle.cbm_iec.specs.declared.machine.Act.TheVariants.Attention (Rattle.cbm_session.specs.Bits.byte_in_cells f.cells)) f ≡ offer hs f ++ (from_start f ++ accepts hs f (Rattle.cbm_iec.specs.declared.machine.Act.TheVariants.Attention (Rattle.cbm_session.specs.Bits.byte_in_cells f.cells)))
        parts hs = ap (λ (zs : List Step). host f.ready Clock Free ∷ (releases hs f ++ (zs ++ (from_start f ++ accepts hs f (Rattle.cbm_iec.specs.declared.machine.Act.TheVariants.Attention (Rattle.cbm_session.specs.Bits.byte_in_cells f.cells)))))) (none_joined [] hs)
