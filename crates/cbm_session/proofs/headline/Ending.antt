-- How an allowed session ends after a play: with a piece whole, with a cut of it and a pull of ATN, or, where a drive leads, with the beginning of a frame and a pull.
use Rattle.std.proofs.Common.{◌≡◌, ℕ, zero, ◌+◌, ◌≤◌, ◌<◌, Bool, true, false, List, [], ◌∷◌, ◌++◌, append_assoc, append-nil, Option, Some, None, ap, sym, ◌∙◌, subst, arith, refl}
use Rattle.std.proofs.lemmas.Bool.{le-leb}
use Rattle.std.specs.Prelude.{if◌then◌else◌}
use Rattle.cbm_iec.specs.declared.machine.Act.TheVariants.{Said}
use Rattle.cbm_iec.specs.declared.machine.Act.{Act}
use Rattle.cbm_iec.specs.declared.event.Event.{Event}
use Rattle.cbm_iec.specs.declared.lines.Line.TheVariants.{Clock, Data}
use Rattle.cbm_iec.specs.declared.lines.Way.TheVariants.{Pull, Free}
use Rattle.cbm_iec.specs.declared.party.Party.{Party}
use Rattle.cbm_iec.specs.declared.party.Role.TheVariants.{Talker}
use Rattle.cbm_session.proofs.among.Calm.{Every}
use Rattle.cbm_session.proofs.among.Fronts.{steps_order}
use Rattle.cbm_session.proofs.among.Pulls.{pull_steps}
use Rattle.cbm_session.proofs.among.Standing.{IsSound}
use Rattle.cbm_session.proofs.headline.Keeping.{HostFrom}
use Rattle.cbm_session.proofs.headline.Premises.{mute}
use Rattle.cbm_session.proofs.headline.TalkBus.{frame_steps}
use Rattle.cbm_session.proofs.headline.TalkParts.{all_host_from}
use Rattle.cbm_session.proofs.headline.TalkSwap.{bits_for, bits_number, bits_length, ended_frame, open_frame, none_cut}
use Rattle.cbm_session.proofs.headline.Unasked.{IsUnasked, each_runs, runs_unasked, steps_unasked}
use Rattle.cbm_session.proofs.joining.Merging.{InOrder, none_sooner, before_yes}
use Rattle.cbm_session.proofs.joining.Talkers.{talker_is}
use Rattle.cbm_session.specs.Answers.{IsAnswer, RunEach, run_each, Allowed}
use Rattle.cbm_session.specs.Bits.{number_of}
use Rattle.cbm_session.specs.Frames.{Told, is_last, signal_steps, first_bit, bit_steps, ToldFits}
use Rattle.cbm_session.specs.Pieces.{Whole, Piece, Point, steps_of, before, Fits, CutFits, PieceFits, some_from, whole_point, point_after, Full, Cut, PullPiece, Talk, Leading}
use Rattle.cbm_session.specs.Seats.{Seat, device, is_talker, talker_of}
use Rattle.cbm_session.specs.Sessions.{Linked, session_steps}
use Rattle.cbm_session.specs.Steps.{Step, moment_of, events_of, host, drive, for_one}

pub host_append : (t : ℕ) (xs ys : List Step) → HostFrom t xs → HostFrom t ys → HostFrom t (xs ++ ys)
host_append t [] ys a b = b
host_append t (x ∷ xs) ys a b = (a.0, host_append t xs ys a.1 b)

-- a step at a moment is one that isn't before it
pub some_there : (c : ℕ) (xs : List Step) (h : Step) (ys : List Step) → c ≤ moment_of h → some_from c (xs ++ h ∷ ys) ≡ true
some_there c [] h ys l = ap (λ (v : Bool). if v then true else some_from c ys) (le-leb c (moment_of h) l)
some_there c (x ∷ xs) h ys l = go (Rattle.std.specs.Prelude.nat_le c (moment_of x)) (some_there c xs h ys l)
  where
    go : (v : Bool) → some_from c (xs ++ h ∷ ys) ≡ true → (if v then true else some_from c (xs ++ h ∷ ys)) ≡ true
    go true k = refl
    go false k = k

-- a frame after the host's first answer
abbrev told_rest : Party → Told → List Step
told_rest b f =
    signal_steps f.signal
    ++ (bit_steps b (first_bit b f) false f.bits ++ for_one b.device (Said (number_of f.bits) (is_last f)) (host f.accept Data Pull) ∷ (if is_last f then drive b.device (f.accept + b.reaction) Clock Free ∷ [] else []))

-- all of a pull is at its moment or later
pub pull_host_from : (t c : ℕ) (p : Point) → Fits p (PullPiece c) → t ≤ c → HostFrom t (steps_of p (PullPiece c))
pull_host_from t c p fits l =
    let o = subst InOrder (pull_steps p c) (steps_order p (PullPiece c) fits) in
    subst (HostFrom t) (sym (pull_steps p c)) (λ k. l, all_host_from t _ (none_sooner t c _ l o.0))

module _ (M : Type 0) (step : M → Act → M) (peek : M → Option (ℕ × Bool)) where
  -- from a point on an allowed session begins with these events, with no change of the host before t after them
  pub record Continues (p : Point) (ms : ℕ → M) (es : List Event) (t : ℕ) : Type 0 where
    pub pieces : List Piece
    pub done : List Step
    pub more : List Step
    pub linked : Linked p pieces
    pub steps : session_steps p pieces ≡ done ++ more
    pub events : events_of done ≡ es
    pub allowed : Allowed M step peek p ms pieces
    pub host : HostFrom t more

  -- a whole piece, and what comes after it
  pub whole_then : (p : Point) (ms : ℕ → M) (w : Whole) (t : ℕ) (front beyond : List Step) → Fits p w → IsAnswer M step peek (ms (talker_of p.seats).device) w → RunEach M step peek p.seats ms (steps_of p w) → steps_of p w ≡ front ++ beyond → HostFrom t beyond
      → Continues (whole_point p w) (run_each M step peek ms (steps_of p w)) [] t → Continues p ms (events_of front) t
  whole_then p ms w t front beyond fits answer runs parts late k = record {
    pieces = Full w ∷ k.pieces;
    done = front;
    more = beyond ++ k.more;
    linked = (fits, k.linked);
    steps = ap (λ (l : List Step). l ++ session_steps (whole_point p w) k.pieces) parts ∙ ap (λ (l : List Step). (front ++ beyond) ++ l) (k.steps ∙ ap (λ (l : List Step). l ++ k.more) (none k.done k.events)) ∙ append_assoc front beyond k.more;
    events = refl;
    allowed = (answer, runs, k.allowed);
    host = host_append t beyond k.more late k.host;
  }
    where
      none : (l : List Step) → events_of l ≡ [] → l ≡ []
      none [] e = refl
      none (x ∷ l) e = absurd cc

  -- a play that a whole piece carries on, and more of it
  pub piece_then : (p : Point) (ms : ℕ → M) (k : Piece) (t : ℕ) (es : List Event) → PieceFits p k → Rattle.cbm_session.specs.Answers.PieceAnswers M step peek (ms (talker_of p.seats).device) k → RunEach M step peek p.seats ms (Rattle.cbm_session.specs.Pieces.piece_steps p k)
      → Continues (point_after p k) (run_each M step peek ms (Rattle.cbm_session.specs.Pieces.piece_steps p k)) es t → Continues p ms (events_of (Rattle.cbm_session.specs.Pieces.piece_steps p k) ++ es) t
  piece_then p ms k t es fits answer runs c =
      let ys = Rattle.cbm_session.specs.Pieces.piece_steps p k in
      record {
        pieces = k ∷ c.pieces;
        done = ys ++ c.done;
        more = c.more;
        linked = (fits, c.linked);
        steps = ap (λ (l : List Step). ys ++ l) c.steps ∙ sym (append_assoc ys c.done c.more);
        events = Rattle.cbm_session.proofs.headline.Keeping.events_append ys c.done ∙ ap (λ (l : List Event). events_of ys ++ l) c.events;
        allowed = (answer, runs, c.allowed);
        host = c.host;
      }

  -- a cut of a piece of a talking drive, and a pull of ATN
  pub cut_runs : (p : Point) (ms : ℕ → M) (w : Whole) (c t : ℕ) (front left : List Step) → PieceFits p (Cut w c) → IsAnswer M step peek (ms (talker_of p.seats).device) w → RunEach M step peek p.seats ms (before c (steps_of p w)) → before c (steps_of p w) ≡ front ++ left → HostFrom t left → t ≤ c
      → Continues p ms (events_of front) t
  cut_runs p ms w c t front left fits answer runs parts late l =
      let p2 = point_after p (Cut w c) in
      let pull = steps_of p2 (PullPiece c) in
      let ms2 = run_each M step peek ms (before c (steps_of p w)) in
      record {
        pieces = Cut w c ∷ Full (PullPiece c) ∷ [];
        done = front;
        more = left ++ (pull ++ []);
        linked = (fits, (refl, tt));
        steps = ap (λ (l : List Step). l ++ (pull ++ [])) parts ∙ append_assoc front left (pull ++ []);
        events = refl;
        allowed = (
          answer,
          runs,
          (tt, each_runs M step peek p2.seats ms2 pull (λ d. runs_unasked M step peek d (ms2 d) pull (steps_unasked p2 (PullPiece c) tt)), tt),
        );
        host = host_append t left (pull ++ []) late (subst (HostFrom t) (sym (append-nil pull)) (pull_host_from t c p2 refl l));
      }

  pub cut_then : (p : Point) (ms : ℕ → M) (w : Whole) (c t : ℕ) (front left : List Step) → PieceFits p (Cut w c) → IsAnswer M step peek (ms (talker_of p.seats).device) w → Every IsUnasked (before c (steps_of p w)) → before c (steps_of p w) ≡ front ++ left → HostFrom t left → t ≤ c
      → Continues p ms (events_of front) t
  cut_then p ms w c t front left fits answer quiet parts late l =
      cut_runs p ms w c t front left fits answer (each_runs M step peek p.seats ms (before c (steps_of p w)) (λ d. runs_unasked M step peek d (ms d) (before c (steps_of p w)) quiet)) parts late l

  -- Where a drive leads: the frame of its byte begins, and a pull of ATN cuts it when the host would answer.
  pub tail : (p : Point) (ms : ℕ → M) (s : Seat) → IsSound p s → s.role ≡ Talker → (at : ℕ) → p.place ≡ Leading at → p.since ≤ at → (n : ℕ) (last : Bool) → peek (ms (talker_of p.seats).device) ≡ Some (n, last) → n < 256 → (t : ℕ) → Continues p ms [] t
  tail p ms s sound talks at leading since n last k byte t = by_kind last k
    where
      the_talker : talker_of p.seats ≡ s.party
      the_talker = talker_is (device s) p.seats s sound.seated.one sound.seated.sits (ap is_talker talks)

      first : Told
      first = record { bits = bits_for 8 n; free = at + 1 + t; signal = None; accept = zero }

      is_n : number_of (bits_for 8 n) ≡ n
      is_n = bits_number 8 n (omega (arith, byte))

      begins : (g : Told) → Fits p (Talk at g) → g.free ≡ at + 1 + t → peek (ms (talker_of p.seats).device) ≡ Some (number_of g.bits, is_last g) → Continues p ms [] t
      begins g fits free said =
          let is = frame_steps M step peek mute (λ d. 0) p at s sound talks g fits in
          let o = subst InOrder is (steps_order p (Talk at g) fits) in
          let x = drive s.party.device at Clock Free in
          let cut : before g.free (steps_of p (Talk at g)) ≡ x ∷ [] =
          ap (λ (l : List Step). before g.free l) is ∙ before_yes g.free x (host g.free Data Free ∷ told_rest s.party g) (omega (arith, free)) ∙ ap (λ (l : List Step). x ∷ l) (none_cut g.free (host g.free Data Free) (told_rest s.party g) o.1 (omega arith)) in
          let some : some_from g.free (steps_of p (Talk at g)) ≡ true = ap (λ (l : List Step). some_from g.free l) is ∙ some_there g.free (x ∷ []) (host g.free Data Free) (told_rest s.party g) (omega arith) in
          cut_then p ms (Talk at g) g.free t [] (x ∷ []) (fits, omega (arith, since, free), some) said (subst (Every IsUnasked) (sym cut) (tt, tt)) cut (λ e. absurd cc, tt) (omega (arith, free))

      by_kind : (v : Bool) → peek (ms (talker_of p.seats).device) ≡ Some (n, v) → Continues p ms [] t
      by_kind true e =
          let g = ended_frame s.party t (bits_for 8 n) first in
          let told : ToldFits s.party at g = record { eight = bits_length 8 n; free = omega arith; signal = (omega arith, omega arith); accept = omega arith; soon = omega arith } in
          begins g (leading, subst (λ (b : Party). ToldFits b at g) (sym the_talker) told) refl (e ∙ ap (λ (v : ℕ). Some (v, true)) (sym is_n))
      by_kind false e =
          let g = open_frame s.party (bits_for 8 n) first in
          let told : ToldFits s.party at g = record { eight = bits_length 8 n; free = omega arith; signal = tt; accept = omega arith; soon = omega arith } in
          begins g (leading, subst (λ (b : Party). ToldFits b at g) (sym the_talker) told) refl (e ∙ ap (λ (v : ℕ). Some (v, false)) (sym is_n))
