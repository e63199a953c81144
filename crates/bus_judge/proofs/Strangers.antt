-- A drive that isn't on the bus makes no event of a session.
use Rattle.std.proofs.Common.{◌≡◌, ℕ, List, [], ◌∷◌, ◌++◌, map, Bool, true, false, not, refl, sym, subst, append_assoc, if◌then◌else◌, nat_lt}
use Rattle.bus_judge.specs.Judging.{NoneBegins}
use Rattle.cbm_iec.specs.declared.event.Event.{Event}
use Rattle.cbm_iec.specs.declared.event.Who.TheVariants.{Host, Drive}
use Rattle.cbm_iec.specs.declared.event.Who.{Who}
use Rattle.cbm_iec.specs.declared.lines.Held.{Held}
use Rattle.cbm_iec.specs.declared.party.Party.{Party}
use Rattle.cbm_iec.specs.declared.party.Role.TheVariants.{Absent, Listener, Talker}
use Rattle.cbm_session.proofs.alone.Sessions.{AllHost}
use Rattle.cbm_session.proofs.among.Around.{every_each}
use Rattle.cbm_session.proofs.among.Calm.{Every}
use Rattle.cbm_session.proofs.among.Counted.{all_host}
use Rattle.cbm_session.proofs.frames.Phases.{Each, each}
use Rattle.cbm_session.proofs.joining.Owning.{AllOwned, part_owned, host_mine}
use Rattle.cbm_session.specs.Frames.{is_last}
use Rattle.cbm_session.specs.Pieces.{Piece, Point, Whole, Full, Cut, PullPiece, Command, Byte, ToListener, ToNobody, ToTalker, Nothing, Talk, host_part, own_part, steps_of, piece_steps, point_after, before, standing}
use Rattle.cbm_session.specs.Seats.{Seat, device, lines}
use Rattle.cbm_session.specs.Sessions.{rest, session_steps, Unlike}
use Rattle.cbm_session.specs.Steps.{Step, moment_of, events_of}

-- a party of the bus: the host, or one of its drives
abbrev IsOf : List Party → Who → Type 0
IsOf bs Host = Unit {0}
IsOf bs (Drive d) = Unlike d bs → ⊥

abbrev Seated : List Party → Seat → Type 0
Seated bs s = Unlike (device s) bs → ⊥

there : (front : List Party) (b : Party) (back : List Party) → Unlike b.device (front ++ b ∷ back) → ⊥
there [] b back u = u.0 refl
there (x ∷ front) b back u = there front b back u.1

at-rest : (front bs : List Party) → Each (λ s. Seated (front ++ bs) s) (map (λ (b : Party). (record { party = b; role = Absent; own = lines false false })) bs)
at-rest front [] = tt
at-rest front (b ∷ bs) =
    (there front b bs, subst (λ (all : List Party). Each (λ s. Seated all s) (map (λ (x : Party). (record { party = x; role = Absent; own = lines false false })) bs)) (append_assoc front (b ∷ []) bs) (at-rest (front ++ b ∷ []) bs))

-- the same drives, whatever became of them
still : (bs : List Party) (f : Seat → Seat) → ((s : Seat) → device (f s) ≡ device s) → (ss : List Seat) → Each (λ s. Seated bs s) ss → Each (λ s. Seated bs s) (map f ss)
still bs f e [] h = tt
still bs f e (s ∷ ss) h = (subst (λ (d : ℕ). Unlike d bs → ⊥) (sym (e s)) h.0, still bs f e ss h.1)

stands-still : (talking : Held) (s : Seat) → device (standing talking s) ≡ device s
stands-still talking s = elim s.role as (λ r. device (standing talking (record s { role = r })) ≡ device s) [ Absent ↦ refl | Listener ↦ refl | Talker ↦ refl ]

after : (bs : List Party) (p : Point) (k : Piece) → Each (λ s. Seated bs s) p.seats → Each (λ s. Seated bs s) (point_after p k).seats
after bs p (Full (PullPiece at)) h = still bs _ (λ s. refl) p.seats h
after bs p (Full (Command f)) h = still bs _ (λ s. refl) p.seats h
after bs p (Full (Byte eoi f)) h = still bs _ (λ s. stands-still (lines false false) s) p.seats h
after bs p (Full (ToListener at)) h = still bs _ (λ s. stands-still (lines false false) s) p.seats h
after bs p (Full (ToNobody at clock)) h = still bs _ (λ s. stands-still (lines false false) s) p.seats h
after bs p (Full (ToTalker at clock)) h = still bs _ (λ s. stands-still (lines true false) s) p.seats h
after bs p (Full (Nothing at clock freed)) h = still bs _ (λ s. stands-still (lines false false) s) p.seats h
after bs p (Full (Talk at f)) h = still bs _ (λ s. stands-still (lines (not (is_last f)) false) s) p.seats h
after bs p (Cut w at) h = still bs _ (λ s. refl) p.seats h

-- all steps are of the bus
host-of : (bs : List Party) (ss : List Step) → AllHost ss → Every (λ s. IsOf bs s.event.who) ss
host-of bs [] h = tt
host-of bs (s ∷ ss) h = (subst (λ (w : Who). IsOf bs w) (sym h.0) tt, host-of bs ss h.1)

own-of : (bs : List Party) (d : ℕ) → (Unlike d bs → ⊥) → (ss : List Step) → AllOwned d ss → Every (λ s. IsOf bs s.event.who) ss
own-of bs d u [] h = tt
own-of bs d u (s ∷ ss) h = (subst (λ (w : Who). IsOf bs w) (sym h.0) u, own-of bs d u ss h.2)

whole-of-bus : (bs : List Party) (p : Point) (w : Whole) → Each (λ s. Seated bs s) p.seats → Every (λ s. IsOf bs s.event.who) (steps_of p w)
whole-of-bus bs p w h =
    every_each (λ s. IsOf bs s.event.who) (λ s. own_part p w s) (host_part p w) p.seats
    (host-of bs (host_part p w) (all_host (host_part p w) (host_mine 0 p w) (host_mine 1 p w)))
    (each (λ s. Seated bs s) (λ s. Every (λ x. IsOf bs x.event.who) (own_part p w s)) p.seats (λ s u. own-of bs (device s) u (own_part p w s) (part_owned p w s)) h)

front-of : (P : Step → Type 0) (at : ℕ) (ss : List Step) → Every P ss → Every P (before at ss)
front-of P at [] h = tt
front-of P at (s ∷ ss) h = go (nat_lt (moment_of s) at) (front-of P at ss h.1)
  where
    go : (b : Bool) → Every P (before at ss) → Every P (if b then s ∷ before at ss else before at ss)
    go true k = (h.0, k)
    go false k = k

piece-of-bus : (bs : List Party) (p : Point) (k : Piece) → Each (λ s. Seated bs s) p.seats → Every (λ s. IsOf bs s.event.who) (piece_steps p k)
piece-of-bus bs p (Full w) h = whole-of-bus bs p w h
piece-of-bus bs p (Cut w at) h = front-of (λ s. IsOf bs s.event.who) at (steps_of p w) (whole-of-bus bs p w h)

both : (P : Step → Type 0) (xs ys : List Step) → Every P xs → Every P ys → Every P (xs ++ ys)
both P [] ys a b = b
both P (x ∷ xs) ys a b = (a.0, both P xs ys a.1 b)

of-bus : (bs : List Party) (p : Point) (ks : List Piece) → Each (λ s. Seated bs s) p.seats → Every (λ s. IsOf bs s.event.who) (session_steps p ks)
of-bus bs p [] h = tt
of-bus bs p (k ∷ ks) h = both (λ s. IsOf bs s.event.who) (piece_steps p k) (session_steps (point_after p k) ks) (piece-of-bus bs p k h) (of-bus bs (point_after p k) ks (after bs p k h))

-- and so are all events
abbrev AllOf : List Party → List Event → Type 0
AllOf bs [] = Unit {0}
AllOf bs (e ∷ es) = IsOf bs e.who × AllOf bs es

all-of : (bs : List Party) (ss more : List Step) → Every (λ s. IsOf bs s.event.who) (ss ++ more) → AllOf bs (events_of ss)
all-of bs [] more h = tt
all-of bs (s ∷ ss) more h = (h.0, all-of bs ss more h.1)

last-of : (bs : List Party) (es : List Event) (e : Event) → AllOf bs (es ++ e ∷ []) → IsOf bs e.who
last-of bs [] e h = h.0
last-of bs (x ∷ es) e h = last-of bs es e h.1

pub no_stranger : (bs : List Party) (done : List Step) (e : Event) (d : ℕ) → e.who ≡ Drive d → Unlike d bs → NoneBegins bs done e
no_stranger bs done e d is u = λ b.
    let found = b.1.1.1.1 in
    let all = subst (λ (ss : List Step). Every (λ s. IsOf bs s.event.who) ss) found.0.steps (of-bus bs (rest bs) b.1.0 (at-rest [] bs)) in
    let one = last-of bs (events_of done) e (subst (λ (es : List Event). AllOf bs es) found.1 (all-of bs b.1.1.0 b.1.1.1.0 all)) in
    subst (λ (w : Who). IsOf bs w) is one u
