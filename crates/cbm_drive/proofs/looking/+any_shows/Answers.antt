use Rattle.std.proofs.Common.{Bool, false, List, [], ◌∷◌, ◌≡◌, sym, subst}
use Rattle.cbm_drive.specs.Seats.{Seated}
use Rattle.cbm_drive.specs.Silence.{Foretold}
use Rattle.cbm_drive.proofs.Alone.{ShowsAll, shows_none, shows_first, shows_rest}
use Rattle.cbm_drive.proofs.Heard.{no_items}
use Rattle.cbm_drive.proofs.looking.+any_shows.Goals as goal

pub returns-in_default-clause-recorded : goal.returns-in_default-clause-recorded
returns-in_default-clause-recorded g t c =
    let none : c.args.drives.now ≡ [] = no_items c.args.drives.now c.in_default.ensures.cases in
    subst (λ (xs : List (Seated _)). ShowsAll g.D.Machine.shows c.args.limit false xs) (sym none) (shows_none g.D.Machine.shows c.args.limit)

-- the first does
pub returns-then-shows_before-clause-recorded : goal.returns-then-shows_before-clause-recorded
returns-then-shows_before-clause-recorded g t c =
    let first = c.in-Some.first.now in
    subst (λ (xs : List (Seated _)). ShowsAll g.D.Machine.shows c.args.limit c.shows_before.result xs) (sym c.in-Some.ensures.cases.0)
    (subst (λ (b : Bool). ShowsAll g.D.Machine.shows c.args.limit b (first ∷ c.in-Some.rest.now)) (sym c.if-shows_before.true)
    (shows_first g.D.Machine.shows c.args.limit first c.in-Some.rest.now (subst (λ (b : Bool). Foretold c.args.limit (g.D.Machine.shows first.machine) b first.port) c.if-shows_before.true c.shows_before.ensures.shows)))

-- it is one of those after it, or none
pub returns-else-shows_before-clause-recorded : goal.returns-else-shows_before-clause-recorded
returns-else-shows_before-clause-recorded g t c =
    let first = c.in-Some.first.now in
    subst (λ (xs : List (Seated _)). ShowsAll g.D.Machine.shows c.args.limit c.any_shows.result xs) (sym c.in-Some.ensures.cases.0)
    (shows_rest g.D.Machine.shows c.args.limit c.any_shows.result first c.in-Some.rest.now (subst (λ (b : Bool). Foretold c.args.limit (g.D.Machine.shows first.machine) b first.port) c.if-shows_before.false c.shows_before.ensures.shows)
    (λ later all ss h. c.any_shows.ensures.recorded later all ss h))
