-- A turnaround under way: an allowed session ends with a cut of it at CLOCK's release, or, where that was played, with the turnaround and what a drive that leads does next.
use Rattle.cbm_session.proofs.Paces.{settle_from}
use Rattle.cbm_iec.specs.declared.pace.Pace.TheVariants.{Profile, Kernal}
use Rattle.cbm_iec.specs.declared.pace.Pace.{Pace}
use Rattle.std.proofs.Common.{◌≡◌, ℕ, ◌+◌, ◌≤◌, ◌<◌, ◌⊎◌, inl, inr, Bool, true, false, List, [], ◌∷◌, ◌++◌, map, append-nil, Option, Some, None, ap, sym, ◌∙◌, subst, arith, refl}
use Rattle.std.proofs.lemmas.Bool.Decides.{leb_tells}
use Rattle.cbm_iec.specs.declared.machine.Act.{Act}
use Rattle.cbm_iec.specs.declared.lines.Line.TheVariants.{Clock, Data}
use Rattle.cbm_iec.specs.declared.lines.Way.TheVariants.{Pull, Free}
use Rattle.cbm_iec.specs.declared.party.Role.TheVariants.{Absent, Listener, Talker}
use Rattle.cbm_iec.specs.declared.party.Role.{Role}
use Rattle.cbm_session.proofs.among.Around.{every_each, merge_drives}
use Rattle.cbm_session.proofs.among.Calm.{Every}
use Rattle.cbm_session.proofs.among.Fronts.{steps_order}
use Rattle.cbm_session.proofs.among.Points.{each_seat}
use Rattle.cbm_session.proofs.headline.Ending.{Continues, some_there, cut_then}
use Rattle.cbm_session.proofs.headline.EndingTalk.{BeforeIt}
use Rattle.cbm_session.proofs.headline.Keeping.{HostFrom, host_after_it, host_front}
use Rattle.cbm_session.proofs.headline.TurnTwin.{turn_begins, leads, mutes, lead_steps, mute_steps}
use Rattle.cbm_session.proofs.headline.Unasked.{IsUnasked}
use Rattle.cbm_session.proofs.joining.Merging.{NoneBefore, InOrder, before_yes, before_no, cut_front, front_before, cut_is, order_after}
use Rattle.cbm_session.proofs.joining.OneDrive.{merge_after_it}
use Rattle.cbm_session.proofs.joining.Owning.{part_order}
use Rattle.cbm_session.proofs.joining.Showing.{merge_first, order_all}
use Rattle.cbm_session.specs.Answers.{IsAnswer}
use Rattle.cbm_session.specs.Joins.{NotBefore}
use Rattle.cbm_session.specs.Pieces.{silent_part, Whole, Point, own_part, steps_of, before, let_go, freed_steps, Fits, CutFits, some_from, ToTalker, Nothing}
use Rattle.cbm_session.specs.Seats.{Seat, device, reaction, talker_of}
use Rattle.cbm_session.specs.Steps.{Step, moment_of, events_of, host, drive, merge, merge_all}

-- what the drives do in a turnaround, and the turnaround around CLOCK's release
abbrev pub turn_drives : Point → Whole → List Step
turn_drives p w = merge_all [] (map (λ x. own_part p w x) p.seats)

pub record AroundClock (p : Point) (w : Whole) (at clock : ℕ) : Type 0 where
  pub afterwards : List Step
  pub is : steps_of p w ≡ turn_begins at (before clock (turn_drives p w)) ++ host clock Clock Free ∷ afterwards

not_before : (c : ℕ) (xs : List Step) → NoneBefore c xs → NotBefore c xs
not_before c [] n = tt
not_before c (x ∷ xs) n = n.0

around_clock : (p : Point) (w : Whole) (at clock : ℕ) (hs ys : List Step) → Fits p w → steps_of p w ≡ turn_begins at ys → ys ≡ merge_all (host clock Clock Free ∷ hs) (map (λ x. own_part p w x) p.seats) → AroundClock p w at clock
around_clock p w at clock hs ys fits steps is =
    let ds = turn_drives p w in
    let order = order_all (λ x. own_part p w x) (part_order p w fits) [] p.seats tt in
    let k = cut_front clock ds order in
    let h = host clock Clock Free in
    record {
      afterwards = merge hs k.0;
      is =
          steps
          ∙ ap (λ (l : List Step). turn_begins at l)
          (is
          ∙ merge_drives (λ x. own_part p w x) (h ∷ hs) p.seats
          ∙ ap (λ (l : List Step). merge (h ∷ hs) l) k.1
          ∙ merge_after_it h hs (before clock ds) k.0 (front_before clock ds)
          ∙ ap (λ (l : List Step). before clock ds ++ l) (merge_first h hs k.0 (not_before clock k.0 k.2)));
    }

pub lead_around : (p : Point) (at clock : ℕ) → Fits p (ToTalker at clock) → AroundClock p (ToTalker at clock) at clock
lead_around p at clock fits = around_clock p (ToTalker at clock) at clock [] (leads p at clock) fits (lead_steps p at clock (omega (arith, fits.1))) refl

pub mute_around : (p : Point) (at clock : ℕ) (freed : Option ℕ) → Fits p (Nothing at clock freed) → AroundClock p (Nothing at clock freed) at clock
mute_around p at clock freed fits = around_clock p (Nothing at clock freed) at clock (freed_steps freed) (mutes p at clock freed) fits (mute_steps p at clock freed (omega (arith, fits.1))) refl

-- before CLOCK's release no drive's step asks anything
abbrev AskedLate : ℕ → Step → Type 0
AskedLate c s = IsUnasked s ⊎ (c ≤ moment_of s)

early_unasked : (c : ℕ) (ss : List Step) → Every (AskedLate c) ss → Every IsUnasked (before c ss)
early_unasked c [] a = tt
early_unasked c (s ∷ ss) a = elim (leb_tells (Rattle.std.proofs.Common.suc (moment_of s)) c) [
  | inl x ↦ (let l = x.1 in subst (Every IsUnasked) (sym (before_yes c s ss (omega (arith, l)))) (one a.0 (omega (arith, l)), early_unasked c ss a.1))
  | inr x ↦ (let l = x.1 in subst (Every IsUnasked) (sym (before_no c s ss (omega (arith, l)))) (early_unasked c ss a.1))
]
  where
    one : AskedLate c s → moment_of s < c → IsUnasked s
    one (inl u) l = u
    one (inr g) l = absurd (omega (arith, g, l))

lead_quiet : (p : Point) (at clock : ℕ) → Every (AskedLate clock) (turn_drives p (ToTalker at clock))
lead_quiet p at clock = every_each (AskedLate clock) (λ (x : Seat). own_part p (ToTalker at clock) x) [] p.seats tt (each_seat (λ x. Every (AskedLate clock) (own_part p (ToTalker at clock) x)) p.seats (λ (x : Seat). go x x.role))
  where
    go : (x : Seat) (r : Role) → Every (AskedLate clock) (elim r as (λ q. List Step) [ Absent ↦ let_go at x | Listener ↦ [] | Talker ↦ drive (device x) (clock + reaction x) Clock Pull ∷ drive (device x) (clock + reaction x) Data Free ∷ [] ])
    go x Absent = (inl tt, tt)
    go x Listener = tt
    go x Talker = (inl tt, (inl tt, tt))

mute_quiet : (p : Point) (at clock : ℕ) (freed : Option ℕ) → Every (AskedLate clock) (turn_drives p (Nothing at clock freed))
mute_quiet p at clock freed = every_each (AskedLate clock) (λ (x : Seat). own_part p (Nothing at clock freed) x) [] p.seats tt (each_seat (λ x. Every (AskedLate clock) (own_part p (Nothing at clock freed) x)) p.seats (λ (x : Seat). go x x.role))
  where
    go : (x : Seat) (r : Role) → Every (AskedLate clock) (elim r as (λ q. List Step) [ Absent ↦ let_go at x | Listener ↦ [] | Talker ↦ silent_part x.party.pace (device x) (clock + reaction x) ])
    go x Absent = (inl tt, tt)
    go x Listener = tt
    go x Talker = by_pace x.party.pace
      where
        by_pace : (e : Pace) → Every (AskedLate clock) (silent_part e (device x) (clock + reaction x))
        by_pace Profile = (inr (omega arith), tt)
        by_pace Kernal = (inl tt, (inl tt, (inr (omega arith), tt)))

module _ (M : Type 0) (step : M → Act → M) (peek : M → Option (ℕ × Bool)) where
  -- with CLOCK's release to come the turnaround is cut there
  cut_turn : (p : Point) (ms : ℕ → M) (w : Whole) (at clock t : ℕ) (front beyond : List Step) → Fits p w → CutFits p w clock → at + 1 ≤ clock → IsAnswer M step peek (ms (talker_of p.seats).device) w → (a : AroundClock p w at clock) → Every (AskedLate clock) (turn_drives p w) → HostFrom t beyond
      → BeforeIt (turn_begins at (before clock (turn_drives p w))) front beyond a.afterwards (host clock Clock Free) → Continues M step peek p ms (events_of front) t
  cut_turn p ms w at clock t front beyond fits cuts late answer a quiet from k =
      let h = host clock Clock Free in
      let early = turn_begins at (before clock (turn_drives p w)) in
      let order = order_after early (h ∷ a.afterwards) (subst InOrder a.is (steps_order p w fits)) in
      let cut : before clock (steps_of p w) ≡ early = ap (λ (l : List Step). before clock l) a.is ∙ cut_is clock early (h ∷ a.afterwards) (omega (arith, late), (omega (arith, late), front_before clock (turn_drives p w))) (omega arith, order.0) in
      let some : some_from clock (steps_of p w) ≡ true = ap (λ (l : List Step). some_from clock l) a.is ∙ some_there clock early h a.afterwards (omega arith) in
      let left = subst (HostFrom t) k.beyond_is from in
      cut_then M step peek p ms w clock t front k.left (fits, cuts, some) answer (subst (Every IsUnasked) (sym cut) (tt, (tt, early_unasked clock (turn_drives p w) quiet))) (cut ∙ k.front_is) (host_front t k.left (h ∷ a.afterwards) left) ((host_after_it t k.left (h ∷ a.afterwards) left).0 refl)

  pub cut_lead : (p : Point) (ms : ℕ → M) (at clock t : ℕ) (front beyond : List Step) (fits : Fits p (ToTalker at clock)) → IsAnswer M step peek (ms (talker_of p.seats).device) (ToTalker at clock) → HostFrom t beyond
      → BeforeIt (turn_begins at (before clock (turn_drives p (ToTalker at clock)))) front beyond (lead_around p at clock fits).afterwards (host clock Clock Free) → Continues M step peek p ms (events_of front) t
  cut_lead p ms at clock t front beyond fits answer from k = let late = fits.1 in let some = settle_from (talker_of p.seats).pace in let soon : at + 1 ≤ clock = omega (arith, late, some) in cut_turn p ms (ToTalker at clock) at clock t front beyond fits soon soon answer (lead_around p at clock fits) (lead_quiet p at clock) from k

  pub cut_mute : (p : Point) (ms : ℕ → M) (at clock : ℕ) (freed : Option ℕ) (t : ℕ) (front beyond : List Step) (fits : Fits p (Nothing at clock freed)) → IsAnswer M step peek (ms (talker_of p.seats).device) (Nothing at clock freed) → HostFrom t beyond
      → BeforeIt (turn_begins at (before clock (turn_drives p (Nothing at clock freed)))) front beyond (mute_around p at clock freed fits).afterwards (host clock Clock Free) → Continues M step peek p ms (events_of front) t
  cut_mute p ms at clock freed t front beyond fits answer from k =
      let late = fits.1 in let some = settle_from (talker_of p.seats).pace in let soon : at + 1 ≤ clock = omega (arith, late, some) in cut_turn p ms (Nothing at clock freed) at clock t front beyond fits soon soon answer (mute_around p at clock freed fits) (mute_quiet p at clock freed) from k
