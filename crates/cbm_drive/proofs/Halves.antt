-- Half of a bit that a drive alone on a cable said.
use Rattle.std.proofs.Common.{◌≡◌, ℕ, ◌+◌, ◌<◌, ◌≤◌, Bool, List, [], ◌∷◌, ◌++◌, Option, Some, None, refl, sym, ap, subst, ◌∙◌, arith}
use Rattle.std.proofs.lemmas.List.{append-nil}
use Rattle.std.specs.Prelude.{false, is_some, MatchOption}
use Rattle.cbm_iec.specs.Machines.{acted}
use Rattle.cbm_iec.specs.Ports.{changes_between}
use Rattle.cbm_iec.specs.declared.machine.Act.{Act}
use Rattle.cbm_iec.specs.declared.event.Event.{Event}
use Rattle.cbm_iec.specs.declared.lines.Lines.{Lines}
use Rattle.cbm_iec.specs.declared.port.Port.{Port}
use Rattle.cbm_session.specs.Playing.{Station, Plays}
use Rattle.cbm_session.proofs.headline.Keeping.{plays_then}
use Rattle.cbm_drive.specs.Cables.{Cabled}
use Rattle.cbm_drive.specs.Halves.{half_lines, half_events, SaysHalf, SaysHalfAlone}
use Rattle.cbm_drive.specs.Played.{HasSettled}
use Rattle.cbm_drive.specs.Players.{Turns, pending, IsSecond, IsAfter}
use Rattle.cbm_drive.specs.Progress.{left}
use Rattle.cbm_drive.specs.Reactions.{HasReacted}
use Rattle.cbm_drive.specs.Seats.{Seated, IsBusAt, wires_held_by, numbers}
use Rattle.cbm_drive.specs.declared.half.Half.{Half}
use Rattle.cbm_drive.proofs.Alone.{heard_nobody}
use Rattle.cbm_drive.proofs.Left.{less_left}
use Rattle.cbm_drive.proofs.Nearer.{nearer}
use Rattle.cbm_drive.proofs.Played.{settled_none, settled_to}
use Rattle.cbm_drive.proofs.Reacted.{reacts}

-- less is left to happen
pub half_left : {D : Type 0} (limit until : ℕ) (b c : Cabled D) (h : Half) → limit ≤ until → SaysHalfAlone limit b c h → left until c.drives < left until b.drives
half_left limit until b c h l k =
    let t = h.moment in
    let before = k.half.before in
    let less : left until (k.new ∷ []) < left until (k.old ∷ []) = less_left 0 t until (k.old ∷ []) (k.new ∷ []) (k.half.due, tt) (omega (arith, before, l)) (omega arith) (nearer 0 t [] k.old k.new [] [] [] refl (k.half.due, tt) (λ due. k.half.later) tt tt) in
    subst (λ (xs : List (Seated _)). left until xs < left until b.drives) (sym k.now) (subst (λ (xs : List (Seated _)). left until (k.new ∷ []) < left until xs) (sym k.was) less)

-- the machine is as it was
pub half_lasting : {D : Type 0} (number : D → ℕ) (limit : ℕ) (b c : Cabled D) (h : Half) → SaysHalfAlone limit b c h → numbers number c.drives ≡ numbers number b.drives
half_lasting number limit b c h k = ap (numbers number) k.now ∙ ap (λ x. number x ∷ []) k.half.machine ∙ sym (ap (numbers number) k.was)

-- what was asked whether there is one
pub not_some : {A : Type 0} (o : Option A) → false ≡ is_some o → o ≡ None
not_some None e = refl
not_some (Some x) e = absurd (cc)

-- the drive of which the cable was asked is the only one
pub only_half : {D : Type 0} (limit : ℕ) (r : Option Half) (b c : Cabled D) (x y : Seated D) (others : List (Seated D)) → others ≡ [] → b.drives ≡ x ∷ others → c.drives ≡ y ∷ others → c.host ≡ b.host → MatchOption r (y ≡ x) (SaysHalf limit x y)
    → MatchOption r (c ≡ b) (SaysHalfAlone limit b c)
only_half limit None b c x y others none was now host same = (λ i. record { host = host i; drives = (now ∙ ap (λ (z : Seated _). z ∷ others) same ∙ sym was) i })
only_half limit (Some h) b c x y others none was now host said = record { old = x; new = y; was = was ∙ ap (λ (xs : List (Seated _)). x ∷ xs) none; now = now ∙ ap (λ (xs : List (Seated _)). y ∷ xs) none; host = host; half = said }

module _ (D M : Type 0) (stands : D → M → Type 0) (step : M → Act → M) (says : M → Option (ℕ × Bool)) (byte : (x : D) (m : M) (n : ℕ) (last : Bool) → stands x m → says m ≡ Some (n, last) → n < 256) where
  -- it is a reaction, whatever there is to say
  half_reacted : (host : Lines) (limit : ℕ) (x y : Seated D) (h : Half) (ss : List (Station M)) → SaysHalf limit x y h → IsBusAt D M stands host (x ∷ []) ss → HasReacted D M stands step says host h.moment h.device (y ∷ []) (half_lines h) ss
  half_reacted host limit x y h ss k bus =
      subst (λ (d : ℕ). HasReacted D M stands step says host h.moment d (y ∷ []) (half_lines h) ss) (sym k.which)
      (reacts D M stands stands step says host h.moment 0 [] x y [] [] [] (half_lines h) ss refl
      (λ m s. k.port (says m))
      (λ m s. (λ i. changes_between h.moment (k.was i) ((k.now ∙ ap (λ (p : Port). p.own) (k.port (says m))) i)))
      (λ m s. subst (λ (o : Option Act). stands y.machine (acted M step o m)) (sym (k.act (says m))) (subst (λ (d : D). stands d m) (sym k.machine) s))
      (λ own bs hs at_ toggles counts b g. heard_nobody D M stands step says (half_lines h) (wires_held_by host (x ∷ [])) own [] [] bs hs refl refl toggles counts b g)
      bus (k.due, tt))

  half_settled : (limit : ℕ) (b c : Cabled D) (h : Half) (n : ℕ) (ss : List (Station M)) → SaysHalfAlone limit b c h → IsBusAt D M stands b.host b.drives ss → HasSettled D M stands step says b.host (h.moment + 1) c.drives [] (half_events h) n ss
  half_settled limit b c h n ss k bus =
      let there : IsBusAt D M stands b.host (k.old ∷ []) ss = subst (λ (xs : List (Seated D)). IsBusAt D M stands b.host xs ss) k.was bus in
      let start = settled_none D M stands step says byte b.host n (k.old ∷ []) [] n ss there (omega arith) in
      subst (λ (xs : List (Seated D)). HasSettled D M stands step says b.host (h.moment + 1) xs [] (half_events h) n ss) (sym k.now)
      (settled_to D M stands stands step says byte byte b.host n h.moment h.device n (k.old ∷ []) (k.new ∷ []) (half_lines h) ss start (half_reacted b.host limit k.old k.new h start.stations k.half start.now))

  -- its changes are given all at once
  pub half_given : (p q : Turns) (b c : Cabled D) (limit n : ℕ) (ss : List (Station M)) (es : List Event) (h : Half) → SaysHalfAlone limit b c h → p.second ≡ None → q.second ≡ None → q.from ≡ h.moment + 1 → IsAfter D M stands step says p b n ss es
      → IsAfter D M stands step says q c n ss (es ++ half_events h)
  half_given p q b c limit n ss es h k none none_q from a =
      let s = half_settled limit b c h a.from a.stations k a.now in
      record {
        from = s.from;
        stations = s.stations;
        before = (let l = s.before in omega (arith, l, from));
        plays = subst (λ (v : List Event). Plays M step says n ss v s.from s.stations)
            ((λ i. (ap (λ o. es ++ pending o) none ∙ append-nil es) i ++ sym s.added i) ∙ sym (ap (λ o. (es ++ half_events h) ++ pending o) none_q ∙ append-nil (es ++ half_events h)))
            (plays_then M step says a.plays s.plays);
        now = subst (λ (l : Lines). IsBusAt D M stands l c.drives s.stations) (sym k.host) s.now;
        second = subst (IsSecond q.from) (sym none_q) tt;
      }
