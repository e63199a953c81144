use Rattle.std.proofs.Common.{rules, ◌≡◌, List, ◌∷◌, [], ◌++◌, ap, sym, ◌∙◌}
use Rattle.cbm_iec.specs.declared.lines.Change.{Change}
use Rattle.cbm_iec.specs.declared.lines.Lines.{Lines as TheseLines}
use Rattle.bus_tidy.proofs.Adding.{after_more}
use Rattle.bus_tidy.proofs.tidy.Tidy.give.Goals as goal
use Rattle.cbm_iec.specs.Changes.{lines_changed}
use Rattle.bus_tidy.specs.Tidied.{after_all}

-- the change is the last of those that were given
pub returns-then-ne-clause-tidy : goal.returns-then-ne-clause-tidy
returns-then-ne-clause-tidy c =
    let given : Change = record { moment = c.args.moment; line = c.args.line; way = c.if-low.way' } in
    let pushed : c.try_push.new.self.items ≡ c.args.changes.now.items ++ given ∷ [] = search rules in
    λ l e. c.after-tidy.ensures ∙ ap (λ (v : TheseLines). lines_changed given v) e ∙ sym (after_more c.args.changes.now.items given l) ∙ ap (λ (cs : List Change). after_all cs l) (sym pushed)
