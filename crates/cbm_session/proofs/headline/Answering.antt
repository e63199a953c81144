-- For each piece of a talking drive in any session there is the one that the drive's machine answers, which goes with it as far as it can.
use Rattle.std.proofs.Common.{◌≡◌, ℕ, ◌+◌, ◌<◌, Bool, true, List, [], ◌∷◌, ◌++◌, Option, Some, None, ap, sym, ◌∙◌, subst, refl, arith}
use Rattle.std.specs.Prelude.{if◌then◌else◌}
use Rattle.cbm_iec.specs.declared.machine.Act.TheVariants.{Released}
use Rattle.cbm_iec.specs.declared.machine.Act.{Act}
use Rattle.cbm_iec.specs.declared.event.Event.{Event}
use Rattle.cbm_iec.specs.declared.lines.Line.TheVariants.{Atn, Data}
use Rattle.cbm_iec.specs.declared.lines.Way.TheVariants.{Pull, Free}
use Rattle.cbm_iec.specs.declared.party.Party.{Party}
use Rattle.cbm_iec.specs.declared.party.Role.TheVariants.{Absent, Listener, Talker}
use Rattle.cbm_iec.specs.declared.party.Role.{Role}
use Rattle.cbm_session.proofs.among.Standing.{IsSound}
use Rattle.cbm_session.proofs.headline.AlongBus.{devs}
use Rattle.cbm_session.proofs.headline.BusActs.{AllRan}
use Rattle.cbm_session.proofs.headline.FrameBus.{twin_self}
use Rattle.cbm_session.proofs.headline.Here.{IsTalkers}
use Rattle.cbm_session.proofs.headline.Premises.{mute, Stood}
use Rattle.cbm_session.proofs.headline.PullPlayed.{sits_react}
use Rattle.cbm_session.proofs.headline.TalkBus.{frame_steps}
use Rattle.cbm_session.proofs.headline.TalkSwap.{Twin, twin_skip, twin_same, swapped}
use Rattle.cbm_session.proofs.headline.TurnTwin.{Parts, twin_parts, twin_back, parts_differ, turn_begins, leads, mutes, lead_steps, mute_steps, lead_mute}
use Rattle.cbm_session.proofs.joining.OneDrive.{one_told}
use Rattle.cbm_session.proofs.joining.Talkers.{talker_is}
use Rattle.cbm_session.specs.Answers.{IsAnswer, run_acts}
use Rattle.cbm_session.specs.Bits.{number_of}
use Rattle.cbm_session.specs.Frames.{Told, ToldFits}
use Rattle.cbm_session.specs.Pieces.{silent_end, Whole, Point, steps_of, FreedFits, Fits, CutFits, ToTalker, Nothing, Talk}
use Rattle.cbm_session.specs.Playing.{Station, IsByte, AllBytes}
use Rattle.cbm_session.specs.Seats.{Seat, device, is_talker, has_talker, talker_of}
use Rattle.cbm_session.specs.Steps.{Step, events_of, acts_for, host, for_each}

module _ (M : Type 0) (step : M → Act → M) (peek : M → Option (ℕ × Bool)) where
  -- what the talker's machine has to say where it was reached is a byte
  pub talker_byte : (place : ℕ → ℕ) (p : Point) (ms : ℕ → M) (done : List Step) (ss : List Seat) (xs zs : List (Station M)) → Stood M step peek place p ss xs → devs M step peek mute place zs ≡ devs M step peek mute place xs
      → AllRan M step peek ms done zs → AllBytes M step peek zs → has_talker ss ≡ true → IsByte M step peek (peek (run_acts M step peek (ms (talker_of p.seats).device) (acts_for (talker_of p.seats).device done)))
  talker_byte place p ms done [] xs zs h v r b e = absurd cc
  talker_byte place p ms done (s ∷ ss) [] zs h v r b e = elim h [ ]
  talker_byte place p ms done (s ∷ ss) (x ∷ xs) [] h v r b e = absurd cc
  talker_byte place p ms done (s ∷ ss) (x ∷ xs) (z ∷ zs) h v r b e =
      let tail : devs M step peek mute place zs ≡ devs M step peek mute place xs = cc in
      go s.role refl e (λ k. talker_byte place p ms done ss xs zs h.1 tail r.1 b.1 k)
    where
      first : (a b : ℕ) (l k : List ℕ) → a ∷ l ≡ b ∷ k → a ≡ b
      first a b l k e = cc

      here : s.role ≡ Talker → IsByte M step peek (peek (run_acts M step peek (ms (talker_of p.seats).device) (acts_for (talker_of p.seats).device done)))
      here k =
          let same : z.port.party.device ≡ x.port.party.device = first z.port.party.device x.port.party.device (devs M step peek mute place zs) (devs M step peek mute place xs) v in
          let is : z.port.party.device ≡ (talker_of p.seats).device = same ∙ ap (λ (q : Party). q.device) (h.0.stands.party ∙ (sym (talker_is (device s) p.seats s h.0.sound.seated.one h.0.sound.seated.sits (ap is_talker k)))) in
          subst (λ (d : ℕ). IsByte M step peek (peek (run_acts M step peek (ms d) (acts_for d done)))) is (subst (λ (m : M). IsByte M step peek (peek m)) r.0 b.0)

      go : (q : Role) → s.role ≡ q → (if is_talker s.role then true else has_talker ss) ≡ true → (has_talker ss ≡ true → IsByte M step peek (peek (run_acts M step peek (ms (talker_of p.seats).device) (acts_for (talker_of p.seats).device done))))
          → IsByte M step peek (peek (run_acts M step peek (ms (talker_of p.seats).device) (acts_for (talker_of p.seats).device done)))
      go Absent k e next = next (ap (λ (q : Role). if is_talker q then true else has_talker ss) (sym k) ∙ e)
      go Listener k e next = next (ap (λ (q : Role). if is_talker q then true else has_talker ss) (sym k) ∙ e)
      go Talker k e next = here k

  -- The piece that a machine answers in place of one of a session. Played to its end it is the session's.
  pub record Answered (t : ℕ) (p : Point) (m : M) (w : Whole) : Type 0 where
    pub piece : Whole
    pub talks : IsTalkers piece
    pub fits : Fits p piece
    pub answer : IsAnswer M step peek m piece
    pub twin : Twin t (steps_of p piece) (steps_of p w)
    pub same : (gs hs : List Event) → events_of (steps_of p piece) ++ gs ≡ events_of (steps_of p w) ++ hs → piece ≡ w
    pub cuts : (c : ℕ) → CutFits p w c → CutFits p piece c

  -- a turnaround by what there is to say after ATN's release
  after_a_turn : (at : ℕ) (ys zs : List Step) (gs hs : List Event) → events_of (turn_begins at ys) ++ gs ≡ events_of (turn_begins at zs) ++ hs → events_of ys ++ gs ≡ events_of zs ++ hs
  after_a_turn at ys zs gs hs e = cc

  turn_differs : (p : Point) (at d m n : ℕ) (w w2 : Whole) (ys zs : List Step) → steps_of p w ≡ turn_begins at ys → steps_of p w2 ≡ turn_begins at zs → Parts d m n ys zs → (gs hs : List Event) → events_of (steps_of p w) ++ gs ≡ events_of (steps_of p w2) ++ hs → ⊥
  turn_differs p at d m n w w2 ys zs is is2 parts gs hs e =
      parts_differ d m n ys zs gs hs parts (after_a_turn at ys zs gs hs (ap (λ (l : List Step). events_of l ++ gs) (sym is) ∙ e ∙ ap (λ (l : List Step). events_of l ++ hs) is2))

  turn_twin : (t : ℕ) (p : Point) (at d m n : ℕ) (w w2 : Whole) (ys zs : List Step) → steps_of p w ≡ turn_begins at ys → steps_of p w2 ≡ turn_begins at zs → Parts d m n ys zs → Twin t (steps_of p w) (steps_of p w2)
  turn_twin t p at d m n w w2 ys zs is is2 parts =
      subst (λ (l : List Step). Twin t l (steps_of p w2)) (sym is)
      (subst (λ (l : List Step). Twin t (turn_begins at ys) l) (sym is2) (twin_skip t (host at Data Pull ∷ for_each Released (host at Atn Free) ∷ []) ys zs (twin_parts t d m n ys zs parts)))

  turn_back : (t : ℕ) (p : Point) (at d m n : ℕ) (w w2 : Whole) (ys zs : List Step) → steps_of p w ≡ turn_begins at ys → steps_of p w2 ≡ turn_begins at zs → Parts d m n ys zs → Twin t (steps_of p w2) (steps_of p w)
  turn_back t p at d m n w w2 ys zs is is2 parts =
      subst (λ (l : List Step). Twin t l (steps_of p w)) (sym is2)
      (subst (λ (l : List Step). Twin t (turn_begins at zs) l) (sym is) (twin_skip t (host at Data Pull ∷ for_each Released (host at Atn Free) ∷ []) zs ys (twin_back t d m n ys zs parts)))

  pub to_talker_answered : (t : ℕ) (p : Point) (m : M) (s : Seat) → IsSound p s → s.role ≡ Talker → (at clock : ℕ) → Fits p (ToTalker at clock) → Answered t p m (ToTalker at clock)
  to_talker_answered t p m s sound talks at clock fits = go (peek (step m Released)) refl
    where
      go : (v : Option (ℕ × Bool)) → peek (step m Released) ≡ v → Answered t p m (ToTalker at clock)
      go (Some v) k = record { piece = ToTalker at clock; talks = tt; fits = fits; answer = (v, k); twin = twin_self t (steps_of p (ToTalker at clock)); same = λ gs hs e. refl; cuts = λ c f. f }
      go None k =
          let parts = lead_mute p s sound talks at clock None tt in
          let w = Nothing at clock None in
          record {
            piece = w;
            talks = tt;
            fits = (fits.0, fits.1, tt);
            answer = k;
            twin = turn_back t p at (device s) (clock + s.party.reaction) (silent_end s.party clock) (ToTalker at clock) w (leads p at clock) (mutes p at clock None) (lead_steps p at clock (omega (arith, fits.1))) (mute_steps p at clock None (omega (arith, fits.1))) parts;
            same = λ gs hs e. absurd (turn_differs p at (device s) (clock + s.party.reaction) (silent_end s.party clock) (ToTalker at clock) w (leads p at clock) (mutes p at clock None) (lead_steps p at clock (omega (arith, fits.1))) (mute_steps p at clock None (omega (arith, fits.1))) parts hs gs (sym e));
            cuts = λ c f. f;
          }

  pub nothing_answered : (t : ℕ) (p : Point) (m : M) (s : Seat) → IsSound p s → s.role ≡ Talker → (at clock : ℕ) (freed : Option ℕ) → Fits p (Nothing at clock freed) → Answered t p m (Nothing at clock freed)
  nothing_answered t p m s sound talks at clock freed fits = go (peek (step m Released)) refl
    where
      talker : talker_of p.seats ≡ s.party
      talker = talker_is (device s) p.seats s sound.seated.one sound.seated.sits (ap is_talker talks)

      go : (v : Option (ℕ × Bool)) → peek (step m Released) ≡ v → Answered t p m (Nothing at clock freed)
      go None k = record { piece = Nothing at clock freed; talks = tt; fits = fits; answer = k; twin = twin_self t (steps_of p (Nothing at clock freed)); same = λ gs hs e. refl; cuts = λ c f. f }
      go (Some v) k =
          let parts = lead_mute p s sound talks at clock freed (subst (λ (b : Party). FreedFits (silent_end b clock) freed) talker fits.2) in
          let w = Nothing at clock freed in
          record {
            piece = ToTalker at clock;
            talks = tt;
            fits = (fits.0, fits.1);
            answer = (v, k);
            twin = turn_twin t p at (device s) (clock + s.party.reaction) (silent_end s.party clock) (ToTalker at clock) w (leads p at clock) (mutes p at clock freed) (lead_steps p at clock (omega (arith, fits.1))) (mute_steps p at clock freed (omega (arith, fits.1))) parts;
            same = λ gs hs e. absurd (turn_differs p at (device s) (clock + s.party.reaction) (silent_end s.party clock) (ToTalker at clock) w (leads p at clock) (mutes p at clock freed) (lead_steps p at clock (omega (arith, fits.1))) (mute_steps p at clock freed (omega (arith, fits.1))) parts gs hs e);
            cuts = λ c f. f;
          }

  -- a frame by the byte that there is to say
  pub talk_answered : (t : ℕ) (p : Point) (m : M) (s : Seat) → IsSound p s → s.role ≡ Talker → (at : ℕ) (f : Told) → Fits p (Talk at f) → (n : ℕ) (last : Bool) → peek m ≡ Some (n, last) → n < 256 → Answered t p m (Talk at f)
  talk_answered t p m s sound talks at f fits n last k byte =
      let the_talker = talker_is (device s) p.seats s sound.seated.one sound.seated.sits (ap is_talker talks) in
      let react = sits_react (device s) p.seats s sound.seated.sits sound.react in
      let told = subst (λ (b : Party). ToldFits b at f) the_talker fits.1 in
      let sw = swapped t s.party at f n last react.0 react.1 byte told in
      let g = sw.frame in
      let fits2 : Fits p (Talk at g) = (fits.0, subst (λ (b : Party). ToldFits b at g) (sym the_talker) sw.fits) in
      let is_g = frame_steps M step peek mute (λ d. 0) p at s sound talks g fits2 in
      let is_f = frame_steps M step peek mute (λ d. 0) p at s sound talks f fits in
      record {
        piece = Talk at g;
        talks = tt;
        fits = fits2;
        answer = k ∙ ap (λ (v : ℕ). Some (v, last)) (sym sw.number) ∙ ap (λ (v : Bool). Some (number_of g.bits, v)) (sym sw.kind);
        twin = subst (λ (l : List Step). Twin t l (steps_of p (Talk at f))) (sym is_g) (subst (λ (l : List Step). Twin t (one_told s.party at g) l) (sym is_f) sw.twin);
        same = λ gs hs e. ap (λ (v : Told). Talk at v) (sw.same (twin_same t (one_told s.party at g) (one_told s.party at f) gs hs sw.twin (ap (λ (l : List Step). events_of l ++ gs) (sym is_g) ∙ e ∙ ap (λ (l : List Step). events_of l ++ hs) is_f)).0);
        cuts = λ c v. v;
      }
