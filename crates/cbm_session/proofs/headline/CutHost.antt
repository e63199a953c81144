-- Of two cuts whose events are the same the host holds the same lines, and the point after them is the same.
use Rattle.std.proofs.Common.{◌≡◌, ℕ, suc, ◌≤◌, ◌<◌, inl, inr, Bool, true, false, List, [], ◌∷◌, map, None, ap, sym, ◌∙◌, arith, refl}
use Rattle.std.proofs.lemmas.Bool.Decides.{leb_tells}
use Rattle.std.specs.Prelude.{if◌then◌else◌}
use Rattle.cbm_iec.specs.declared.event.Event.{Event}
use Rattle.cbm_iec.specs.declared.event.Who.{Who}
use Rattle.cbm_iec.specs.declared.lines.Held.{Held}
use Rattle.cbm_session.proofs.alone.Sessions.{AllHost}
use Rattle.cbm_session.proofs.among.Around.{merge_drives, every_drives}
use Rattle.cbm_session.proofs.among.Calm.{Every}
use Rattle.cbm_session.proofs.among.Points.{each_seat}
use Rattle.cbm_session.proofs.frames.Phases.{Each}
use Rattle.cbm_session.proofs.headline.CutPoint.{held_next, same_held}
use Rattle.cbm_session.proofs.joining.Merging.{merge_here, merge_there, merge_nil, before_yes, before_no}
use Rattle.cbm_session.proofs.joining.Owning.{AllOwned, part_owned}
use Rattle.cbm_session.proofs.joining.Seating.{Sits}
use Rattle.cbm_session.proofs.timing.SessionOrder.{part_host}
use Rattle.cbm_session.specs.Pieces.{Whole, Point, host_part, own_part, steps_of, before, CutFits, held_by, seat_with, point_after, Cut, Cutting}
use Rattle.cbm_session.specs.Seats.{Seat, device}
use Rattle.cbm_session.specs.Steps.{Step, moment_of, events_of, merge, merge_all}
use Rattle.cbm_session.specs.Timing.{is_host}

-- the host's steps among these
abbrev pub hosts_of : List Step → List Step
hosts_of [] = []
hosts_of (s ∷ ss) = if is_host s.event.who then s ∷ hosts_of ss else hosts_of ss

abbrev host_events : Held → List Event → Held
host_events h [] = h
host_events h (e ∷ es) = if is_host e.who then host_events (held_next h e) es else host_events h es

held_hosts : (h : Held) (ss : List Step) → held_by h (hosts_of ss) ≡ host_events h (events_of ss)
held_hosts h [] = refl
held_hosts h (s ∷ ss) = go (is_host s.event.who) (held_hosts (held_next h s.event) ss) (held_hosts h ss)
  where
    go : (v : Bool) → held_by (held_next h s.event) (hosts_of ss) ≡ host_events (held_next h s.event) (events_of ss) → held_by h (hosts_of ss) ≡ host_events h (events_of ss)
        → held_by h (if v then s ∷ hosts_of ss else hosts_of ss) ≡ (if v then host_events (held_next h s.event) (events_of ss) else host_events h (events_of ss))
    go true a b = a
    go false a b = b

abbrev NoHost : Step → Type 0
NoHost s = is_host s.event.who ≡ false

hosts_none : (ss : List Step) → Every NoHost ss → hosts_of ss ≡ []
hosts_none [] a = refl
hosts_none (s ∷ ss) a = ap (λ (v : Bool). if v then s ∷ hosts_of ss else hosts_of ss) a.0 ∙ hosts_none ss a.1

hosts_all : (ss : List Step) → AllHost ss → hosts_of ss ≡ ss
hosts_all [] a = refl
hosts_all (s ∷ ss) a = ap (λ (w : Who). if is_host w then s ∷ hosts_of ss else hosts_of ss) a.0 ∙ ap (λ (l : List Step). s ∷ l) (hosts_all ss a.1)

hosts_ahead : (xs ys : List Step) → Every NoHost ys → hosts_of (merge xs ys) ≡ hosts_of xs
hosts_ahead [] ys b = hosts_none ys b
hosts_ahead (x ∷ xs) [] b = ap (λ (l : List Step). hosts_of l) (merge_nil (x ∷ xs))
hosts_ahead (x ∷ xs) (y ∷ ys) b = elim (leb_tells (moment_of x) (moment_of y)) [
  | inl e ↦ ap (λ (l : List Step). hosts_of l) (merge_here x xs y ys e.1) ∙ ap (λ (l : List Step). if is_host x.event.who then x ∷ l else l) (hosts_ahead xs (y ∷ ys) b)
  | inr e ↦ ap (λ (l : List Step). hosts_of l) (merge_there x xs y ys e.1) ∙ ap (λ (v : Bool). if v then y ∷ hosts_of (merge (x ∷ xs) ys) else hosts_of (merge (x ∷ xs) ys)) b.0 ∙ hosts_ahead (x ∷ xs) ys b.1
]

hosts_before : (c : ℕ) (ss : List Step) → hosts_of (before c ss) ≡ before c (hosts_of ss)
hosts_before c [] = refl
hosts_before c (s ∷ ss) = elim (leb_tells (suc (moment_of s)) c) [
  | inl x ↦ (let l = x.1 in ap (λ (l : List Step). hosts_of l) (before_yes c s ss (omega (arith, l))) ∙ yes (is_host s.event.who) (omega (arith, l)) (hosts_before c ss))
  | inr x ↦ (let l = x.1 in ap (λ (l : List Step). hosts_of l) (before_no c s ss (omega (arith, l))) ∙ no (is_host s.event.who) (omega (arith, l)) (hosts_before c ss))
]
  where
    yes : (v : Bool) → moment_of s < c → hosts_of (before c ss) ≡ before c (hosts_of ss) → (if v then s ∷ hosts_of (before c ss) else hosts_of (before c ss)) ≡ before c (if v then s ∷ hosts_of ss else hosts_of ss)
    yes true l k = ap (λ (zs : List Step). s ∷ zs) k ∙ sym (before_yes c s (hosts_of ss) l)
    yes false l k = k

    no : (v : Bool) → c ≤ moment_of s → hosts_of (before c ss) ≡ before c (hosts_of ss) → hosts_of (before c ss) ≡ before c (if v then s ∷ hosts_of ss else hosts_of ss)
    no true l k = k ∙ sym (before_no c s (hosts_of ss) l)
    no false l k = k

owned_no_host : (o : ℕ) (ss : List Step) → AllOwned o ss → Every NoHost ss
owned_no_host o [] a = tt
owned_no_host o (s ∷ ss) a = (ap is_host a.0, owned_no_host o ss a.2)

pub hosts_part : (p : Point) (w : Whole) → hosts_of (steps_of p w) ≡ host_part p w
hosts_part p w =
    ap (λ (l : List Step). hosts_of l) (merge_drives (λ x. own_part p w x) (host_part p w) p.seats)
    ∙ hosts_ahead (host_part p w) (merge_all [] (map (λ x. own_part p w x) p.seats)) (every_drives NoHost (λ (x : Seat). own_part p w x) p.seats (each_seat (λ x. Every NoHost (own_part p w x)) p.seats (λ (x : Seat). owned_no_host (device x) (own_part p w x) (part_owned p w x))))
    ∙ hosts_all (host_part p w) (part_host p w)

same_host : (p : Point) (w w2 : Whole) (c : ℕ) → events_of (before c (steps_of p w2)) ≡ events_of (before c (steps_of p w)) → held_by p.host (before c (host_part p w2)) ≡ held_by p.host (before c (host_part p w))
same_host p w w2 c e = side w2 ∙ ap (λ (l : List Event). host_events p.host l) e ∙ sym (side w)
  where
    side : (v : Whole) → held_by p.host (before c (host_part p v)) ≡ host_events p.host (events_of (before c (steps_of p v)))
    side v =
        ap (λ (l : List Step). held_by p.host (before c l)) (sym (hosts_part p v))
        ∙ ap (λ (l : List Step). held_by p.host l) (sym (hosts_before c (steps_of p v)))
        ∙ held_hosts p.host (before c (steps_of p v))

-- So the point after a cut is told by its events.
pub same_cut : (p : Point) (w w2 : Whole) (c : ℕ) → CutFits p w c → CutFits p w2 c → Each (λ x. Sits (device x) p.seats x) p.seats → events_of (before c (steps_of p w2)) ≡ events_of (before c (steps_of p w)) → point_after p (Cut w2 c) ≡ point_after p (Cut w c)
same_cut p w w2 c k k2 sits e =
    ap (λ (l : List Seat). record { place = Cutting c; seats = l; host = held_by p.host (before c (host_part p w2)); pulled = p.pulled; released = None; accepted = p.accepted; since = c }) (seats p.seats sits)
    ∙ ap (λ (h : Held). record { place = Cutting c; seats = map (λ s. seat_with s.role (held_by s.own (before c (own_part p w s))) s) p.seats; host = h; pulled = p.pulled; released = None; accepted = p.accepted; since = c }) (same_host p w w2 c e)
  where
    seats : (xs : List Seat) → Each (λ x. Sits (device x) p.seats x) xs → map (λ s. seat_with s.role (held_by s.own (before c (own_part p w2 s))) s) xs ≡ map (λ s. seat_with s.role (held_by s.own (before c (own_part p w s))) s) xs
    seats [] h = refl
    seats (x ∷ xs) h =
        ap (λ (o : Held). seat_with x.role o x ∷ map (λ s. seat_with s.role (held_by s.own (before c (own_part p w2 s))) s) xs) (same_held p w w2 c x k k2 h.0 e)
        ∙ ap (λ (l : List Seat). seat_with x.role (held_by x.own (before c (own_part p w x))) x ∷ l) (seats xs h.1)
