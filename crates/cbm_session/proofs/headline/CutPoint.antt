-- Two cuts whose events are the same leave the same point.
use Rattle.std.proofs.Common.{◌≡◌, ℕ, Bool, true, false, List, [], ◌∷◌, ap, sym, ◌∙◌, refl}
use Rattle.std.specs.Prelude.{if◌then◌else◌}
use Rattle.cbm_iec.specs.Changes.{is_pull}
use Rattle.cbm_iec.specs.declared.event.Event.{Event}
use Rattle.cbm_iec.specs.declared.lines.Line.TheVariants.{Atn, Clock, Data}
use Rattle.cbm_iec.specs.declared.lines.Held.{Held}
use Rattle.cbm_session.proofs.among.Fronts.{is_own, mine_of, mine_before, steps_mine}
use Rattle.cbm_session.proofs.joining.Seating.{Sits}
use Rattle.cbm_session.specs.Pieces.{Whole, Point, own_part, steps_of, before, CutFits, held_by}
use Rattle.cbm_session.specs.Seats.{Seat, device}
use Rattle.cbm_session.specs.Steps.{Step, events_of}

-- the lines that a drive holds after events
abbrev pub held_next : Held → Event → Held
held_next h e = elim e.change.line as (λ l. Held) [ Atn ↦ h | Clock ↦ record h { clock_low = is_pull e.change.way } | Data ↦ record h { data_low = is_pull e.change.way } ]

abbrev pub held_events : ℕ → Held → List Event → Held
held_events d h [] = h
held_events d h (e ∷ es) = if is_own d e.who then held_events d (held_next h e) es else held_events d h es

held_mine : (d : ℕ) (h : Held) (ss : List Step) → held_by h (mine_of d ss) ≡ held_events d h (events_of ss)
held_mine d h [] = refl
held_mine d h (s ∷ ss) = go (is_own d s.event.who) (held_mine d (held_next h s.event) ss) (held_mine d h ss)
  where
    go : (v : Bool) → held_by (held_next h s.event) (mine_of d ss) ≡ held_events d (held_next h s.event) (events_of ss) → held_by h (mine_of d ss) ≡ held_events d h (events_of ss)
        → held_by h (if v then s ∷ mine_of d ss else mine_of d ss) ≡ (if v then held_events d (held_next h s.event) (events_of ss) else held_events d h (events_of ss))
    go true a b = a
    go false a b = b

-- so of two cuts with the same events each drive holds the same
pub same_held : (p : Point) (w w2 : Whole) (c : ℕ) (s : Seat) → CutFits p w c → CutFits p w2 c → Sits (device s) p.seats s → events_of (before c (steps_of p w2)) ≡ events_of (before c (steps_of p w))
    → held_by s.own (before c (own_part p w2 s)) ≡ held_by s.own (before c (own_part p w s))
same_held p w w2 c s k k2 sits e = side w2 k2 ∙ ap (λ (l : List Event). held_events (device s) s.own l) e ∙ sym (side w k)
  where
    side : (v : Whole) → CutFits p v c → held_by s.own (before c (own_part p v s)) ≡ held_events (device s) s.own (events_of (before c (steps_of p v)))
    side v f =
        ap (λ (l : List Step). held_by s.own (before c l)) (sym (steps_mine p v s c f sits))
        ∙ ap (λ (l : List Step). held_by s.own l) (sym (mine_before (device s) c (steps_of p v)))
        ∙ held_mine (device s) s.own (before c (steps_of p v))
