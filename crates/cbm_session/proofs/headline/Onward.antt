-- After a piece that was played the stations stand at the next point of the session.
use Rattle.std.proofs.Common.{◌≡◌, ℕ, ◌+◌, ◌≤◌, Bool, true, false, not, List, [], ◌∷◌, ◌++◌, map, Option, Some, ap, sym, ◌∙◌, subst, arith, refl, eq-eqb}
use Rattle.std.specs.Prelude.{if◌then◌else◌}
use Rattle.cbm_iec.specs.declared.machine.Act.TheVariants.{Released, Said}
use Rattle.cbm_iec.specs.declared.machine.Act.{Act}
use Rattle.cbm_iec.specs.declared.event.Event.{Event}
use Rattle.cbm_iec.specs.declared.lines.Line.TheVariants.{Clock}
use Rattle.cbm_iec.specs.declared.lines.Way.TheVariants.{Pull, Free}
use Rattle.cbm_iec.specs.declared.party.Party.{Party}
use Rattle.cbm_iec.specs.declared.party.Role.TheVariants.{Absent, Listener, Talker}
use Rattle.cbm_iec.specs.declared.party.Role.{Role}
use Rattle.cbm_session.proofs.among.Around.{every_each}
use Rattle.cbm_session.proofs.among.Calm.{Every}
use Rattle.cbm_session.proofs.among.Points.{each_seat}
use Rattle.cbm_session.proofs.headline.BusActs.{acts_append}
use Rattle.cbm_session.proofs.headline.Here.{LeadsThere, Here, ran_on, the_seat}
use Rattle.cbm_session.proofs.headline.PieceBus.{devices_after, Afterwards}
use Rattle.cbm_session.proofs.headline.Premises.{mute, Rises}
use Rattle.cbm_session.proofs.headline.TalkBus.{frame_steps}
use Rattle.cbm_session.proofs.headline.TalkParts.{AllPlain, told_front, told_back, front_plain, front_back}
use Rattle.cbm_session.proofs.headline.TurnBus.{after_below}
use Rattle.cbm_session.proofs.headline.TurnTwin.{leads, lead_steps}
use Rattle.cbm_session.proofs.joining.OneDrive.{one_told}
use Rattle.cbm_session.proofs.joining.Talkers.{KeepsDrives, KeepsRoles, standing_drives, standing_roles}
use Rattle.cbm_session.specs.Answers.{PieceAnswers, run_acts, run_each}
use Rattle.cbm_session.specs.Bits.{number_of}
use Rattle.cbm_session.specs.Frames.{Told, is_last}
use Rattle.cbm_session.specs.Pieces.{Piece, Point, own_part, steps_of, piece_steps, let_go, PieceFits, standing, told_since, point_after, Full, Cut, PullPiece, Command, Byte, ToListener, ToNobody, ToTalker, Nothing, Talk, Open, Leading}
use Rattle.cbm_session.specs.Playing.{Station, IsMachine}
use Rattle.cbm_session.specs.Seats.{lines, Seat, device, reaction, is_talker, has_talker, talker_of}
use Rattle.cbm_session.specs.Steps.{Step, Plain, acts_for, with_mark, host, drive}

-- the talker stays the talker
talker_stays : (f : Seat → Seat) (ss : List Seat) → KeepsRoles f → has_talker (map f ss) ≡ has_talker ss
talker_stays f [] k = refl
talker_stays f (s ∷ ss) k =
    ap (λ (r : Role). if is_talker r then true else has_talker (map f ss)) (k s) ∙ ap (λ (v : Bool). if is_talker s.role then true else v) (talker_stays f ss k)

pub talker_same : (f : Seat → Seat) (ss : List Seat) → KeepsRoles f → KeepsDrives f → talker_of (map f ss) ≡ talker_of ss
talker_same f [] k h = refl
talker_same f (s ∷ ss) k h =
    ap (λ (r : Role). if is_talker r then (f s).party else talker_of (map f ss)) (k s)
    ∙ ap (λ (b : Party). if is_talker s.role then b else talker_of (map f ss)) (h s)
    ∙ ap (λ (b : Party). if is_talker s.role then s.party else b) (talker_same f ss k h)

-- steps that count nothing
pub acts_plain : (d : ℕ) (ss : List Step) → AllPlain ss → acts_for d ss ≡ []
acts_plain d [] a = refl
acts_plain d (s ∷ ss) a = ap (λ m. with_mark d m (acts_for d ss)) a.0 ∙ acts_plain d ss a.1

every_plain : (ss : List Step) → Every (λ s. s.mark ≡ Plain) ss → AllPlain ss
every_plain [] a = tt
every_plain (s ∷ ss) a = (a.0, every_plain ss a.1)

pub leads_plain : (p : Point) (at clock : ℕ) → AllPlain (leads p at clock)
leads_plain p at clock =
    every_plain (leads p at clock) (every_each (λ s. s.mark ≡ Plain) (λ (x : Seat). own_part p (ToTalker at clock) x) (host clock Clock Free ∷ []) p.seats (refl, tt) (each_seat (λ x. Every (λ s. s.mark ≡ Plain) (own_part p (ToTalker at clock) x)) p.seats (λ (x : Seat). go x x.role)))
  where
    go : (x : Seat) (r : Role) → Every (λ s. s.mark ≡ Plain) (elim r as (λ q. List Step) [ Absent ↦ let_go at x | Listener ↦ [] | Talker ↦ drive (device x) (clock + reaction x) Clock Pull ∷ drive (device x) (clock + reaction x) Rattle.cbm_iec.specs.declared.lines.Line.TheVariants.Data Free ∷ [] ])
    go x Absent = (refl, tt)
    go x Listener = tt
    go x Talker = (refl, (refl, tt))

-- a turnaround up to Lead counts ATN's release alone, a frame the byte that it says
pub lead_acts : (p : Point) (at clock : ℕ) (d : ℕ) → at ≤ clock → acts_for d (steps_of p (ToTalker at clock)) ≡ Released ∷ []
lead_acts p at clock d l = ap (λ (ss : List Step). acts_for d ss) (lead_steps p at clock l) ∙ ap (λ (l : List Act). Released ∷ l) (acts_plain d (leads p at clock) (leads_plain p at clock))

pub told_acts : (b : Party) (at : ℕ) (f : Told) → acts_for b.device (one_told b at f) ≡ Said (number_of f.bits) (is_last f) ∷ []
told_acts b at f =
    ap (λ (ss : List Step). acts_for b.device ss) (sym (front_back b at f))
    ∙ acts_append b.device (told_front b at f) (told_back b f (number_of f.bits) (is_last f))
    ∙ ap (λ (l : List Act). l ++ acts_for b.device (told_back b f (number_of f.bits) (is_last f))) (acts_plain b.device (told_front b at f) (front_plain b at f))
    ∙ ap (λ (v : Bool). if v then Said (number_of f.bits) (is_last f) ∷ acts_for b.device (if is_last f then drive b.device (f.accept + b.reaction) Clock Free ∷ [] else []) else acts_for b.device (if is_last f then drive b.device (f.accept + b.reaction) Clock Free ∷ [] else [])) (eq-eqb b.device b.device refl)
    ∙ go (is_last f)
  where
    go : (v : Bool) → Said (number_of f.bits) v ∷ acts_for b.device (if v then drive b.device (f.accept + b.reaction) Clock Free ∷ [] else []) ≡ Said (number_of f.bits) v ∷ []
    go true = refl
    go false = refl

module _ (M : Type 0) (step : M → Act → M) (peek : M → Option (ℕ × Bool)) (place : ℕ → ℕ) (machine : IsMachine M step peek) where
  -- where a drive leads after a piece, its machine has a byte to say
  pub leads_after : (p : Point) (ms : ℕ → M) (xs : List (Station M)) → Here M step peek place p ms xs → (k : Piece) → PieceFits p k → PieceAnswers M step peek (ms (talker_of p.seats).device) k → (t : ℕ) → (point_after p k).place ≡ Leading t
      → LeadsThere M step peek (point_after p k) (run_each M step peek ms (piece_steps p k)) t
  leads_after p ms xs here (Cut w c) fits answer t e = absurd cc
  leads_after p ms xs here (Full (PullPiece at)) fits answer t e = absurd cc
  leads_after p ms xs here (Full (Command f)) fits answer t e = absurd cc
  leads_after p ms xs here (Full (Byte eoi f)) fits answer t e = absurd cc
  leads_after p ms xs here (Full (ToListener at)) fits answer t e = absurd cc
  leads_after p ms xs here (Full (ToNobody at clock)) fits answer t e = absurd cc
  leads_after p ms xs here (Full (Nothing at clock freed)) fits answer t e = absurd cc
  leads_after p ms xs here (Full (ToTalker at clock)) fits answer t e =
      let f = λ (x : Seat). standing (lines true false) x in
      let is : t ≡ clock + (talker_of p.seats).reaction + 80 = cc in
      let z = the_seat M step peek place p p.seats xs here.stand fits.0.talker in
      let late = fits.1 in
      let below = after_below at (clock + (talker_of p.seats).reaction + 1) t p.seats z.1.0.react (omega (arith, is)) (omega (arith, is, late)) in
      let same = talker_same f p.seats (standing_roles (lines true false)) (standing_drives (lines true false)) in
      let d = (talker_of p.seats).device in
      record {
        talker = talker_stays f p.seats (standing_roles (lines true false)) ∙ fits.0.talker;
        since = omega (arith, below);
        byte = (
          answer.0,
          ap (λ (b : Party). peek (run_each M step peek ms (steps_of p (ToTalker at clock)) b.device)) same
              ∙ ap (λ (l : List Act). peek (run_acts M step peek (ms d) l)) (lead_acts p at clock d (omega (arith, fits.1)))
              ∙ answer.1,
        );
      }
  leads_after p ms xs here (Full (Talk at f)) fits answer t e = go (is_last f) refl
    where
      go : (v : Bool) → is_last f ≡ v → LeadsThere M step peek (point_after p (Full (Talk at f))) (run_each M step peek ms (steps_of p (Talk at f))) t
      go true l = let k : Open ≡ Leading t = sym (ap (λ (v : Bool). if v then Open else Leading (f.accept + 100)) l) ∙ e in absurd cc
      go false l =
          let k : Leading (f.accept + 100) ≡ Leading t = sym (ap (λ (v : Bool). if v then Open else Leading (f.accept + 100)) l) ∙ e in
          let is : f.accept + 100 ≡ t = cc in
          let since : told_since (talker_of p.seats) f ≡ f.accept = ap (λ (v : Bool). if v then f.accept + (talker_of p.seats).reaction + 1 else f.accept) l in
          let h = here.leads at fits.0 in
          let z = the_seat M step peek place p p.seats xs here.stand h.talker in
          let keep = standing (lines (not (is_last f)) false) in
          let same = talker_same keep p.seats (standing_roles (lines (not (is_last f)) false)) (standing_drives (lines (not (is_last f)) false)) in
          let d = (talker_of p.seats).device in
          let steps = frame_steps M step peek mute place p at z.0 z.1.0 z.1.1 f fits in
          let acts : acts_for d (steps_of p (Talk at f)) ≡ Said (number_of f.bits) (is_last f) ∷ [] =
          ap (λ (b : Party). acts_for b.device (steps_of p (Talk at f))) z.1.2 ∙ ap (λ (ss : List Step). acts_for z.0.party.device ss) steps ∙ told_acts z.0.party at f in
          let more = machine.more (ms d) (number_of f.bits) (answer ∙ ap (λ (v : Bool). Some (number_of f.bits, v)) l) in
          record {
            talker = talker_stays keep p.seats (standing_roles (lines (not (is_last f)) false)) ∙ h.talker;
            since = omega (arith, is, since);
            byte = (
              more.0,
              ap (λ (b : Party). peek (run_each M step peek ms (steps_of p (Talk at f)) b.device)) same
                  ∙ ap (λ (l : List Act). peek (run_acts M step peek (ms d) l)) (acts ∙ ap (λ (v : Bool). Said (number_of f.bits) v ∷ []) l)
                  ∙ more.1,
            );
          }

  -- So all stand at the next point.
  pub here_after : (p : Point) (ms : ℕ → M) (xs : List (Station M)) → Here M step peek place p ms xs → (k : Piece) → PieceFits p k → PieceAnswers M step peek (ms (talker_of p.seats).device) k → {es : List Event} {n2 : ℕ} {ss2 : List (Station M)}
      → (b : Afterwards M step peek place (point_after p k) xs (piece_steps p k) es n2 ss2) → Here M step peek place (point_after p k) (run_each M step peek ms (piece_steps p k)) b.there
  here_after p ms xs here k fits answer b = record {
    stand = b.stand;
    show = λ c e. b.show;
    ran = ran_on M step peek ms (piece_steps p k) b.there (b.ran.runs ms [] here.ran);
    rises = subst (λ (l : List ℕ). Rises M step peek place l) (sym (devices_after p k)) here.rises;
    leads = leads_after p ms xs here k fits answer;
  }
