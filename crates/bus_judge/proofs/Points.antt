-- Points of a session, part by part.
use Rattle.std.proofs.Common.{◌≡◌, ℕ, List, Option, ap, ◌∙◌}
use Rattle.cbm_iec.specs.declared.lines.Held.{Held}
use Rattle.cbm_session.specs.Pieces.{BusPlace, Point}
use Rattle.cbm_session.specs.Seats.{Seat}

abbrev point_with : BusPlace → List Seat → Held → ℕ → Option ℕ → ℕ → ℕ → Point
point_with place seats host pulled released accepted since = record { place = place; seats = seats; host = host; pulled = pulled; released = released; accepted = accepted; since = since }

pub same_points : (place place2 : BusPlace) (seats seats2 : List Seat) (host host2 : Held) (pulled : ℕ) (released : Option ℕ) (accepted since since2 : ℕ)
    → place ≡ place2 → seats ≡ seats2 → host ≡ host2 → since ≡ since2 → point_with place seats host pulled released accepted since ≡ point_with place2 seats2 host2 pulled released accepted since2
same_points place place2 seats seats2 host host2 pulled released accepted since since2 a b c d =
    ap (λ (x : BusPlace). point_with x seats host pulled released accepted since) a
    ∙ (ap (λ (x : List Seat). point_with place2 x host pulled released accepted since) b
    ∙ (ap (λ (x : Held). point_with place2 seats2 x pulled released accepted since) c
    ∙ ap (λ (x : ℕ). point_with place2 seats2 host2 pulled released accepted x) d))
