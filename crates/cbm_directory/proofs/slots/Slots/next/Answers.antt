use Rattle.std.proofs.Common.{◌-◌, ◌+◌, ℕ, List, ap, sym, ◌∙◌, arith, [], ◌∷◌}
use Rattle.cbm_directory.specs.Slots.{Cursor, listed_left, entries_from, listed_from, listed_after, most_left}
use Rattle.cbm_directory.proofs.Stepping.{used_up, one_given, none_left, most_one}
use Rattle.cbm_directory.proofs.slots.Slots.next.Goals as goal

-- after `fill` a reader without entries is at the end
pub returns-then-self-eq-ENTRIES-clause-gives : goal.returns-then-self-eq-ENTRIES-clause-gives
unfolding listed_left
returns-then-self-eq-ENTRIES-clause-gives g c =
    let none = ap (λ (r : Cursor). r.entries) (sym c.self.view_is) ∙ none_left c.self.inside.number c.self.inside.sector (omega arith) in
    let last = ap (λ (r : Cursor). r.next.track) c.self.view_is ∙ c.in_ok-fill.ensures.ready none in (
      sym c.in_ok-fill.ensures.left
          ∙ ap (λ (r : Cursor). listed_left (g.M.Medium.seen c.args.medium.now).content r) (sym c.self.view_is)
          ∙ used_up c.self.inside.geometry (g.M.Medium.seen c.args.medium.now).content c.self.inside.left c.self.inside.number c.self.inside.sector c.self.inside.next (omega arith) last,
      c.in_ok-fill.ensures.left,
    )

pub returns-clause-gives : goal.returns-clause-gives
unfolding listed_left
returns-clause-gives g c =
    sym c.in_ok-fill.ensures.left
    ∙ ap (λ (r : Cursor). listed_left (g.M.Medium.seen c.args.medium.now).content r) (sym c.self.view_is)
    ∙ one_given c.self.inside.number c.self.inside.sector (listed_from c.self.inside.geometry (g.M.Medium.seen c.args.medium.now).content c.self.inside.left c.self.inside.next) (omega arith)
    ∙ ap (λ (entry : List ℕ). listed_after (entry ∷ [])
    (listed_after (entries_from (8 - (c.self.inside.number + 1)) c.self.inside.sector (c.self.inside.number + 1))
    (listed_from c.self.inside.geometry (g.M.Medium.seen c.args.medium.now).content c.self.inside.left c.self.inside.next))) (sym c.of-entry.ensures)

pub returns-clause-most : goal.returns-clause-most
returns-clause-most g c =
    most_one c.self.inside.number c.self.inside.left c.self.inside.sector (omega arith)
    ∙ ap (λ (r : Cursor). most_left r) c.self.view_is
    ∙ c.in_ok-fill.ensures.most
