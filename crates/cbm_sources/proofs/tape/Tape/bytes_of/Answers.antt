use Rattle.std.proofs.Common.{◌<◌, ◌≤◌, ◌+◌, ◌∷◌, slice_index, slice_range, ℕ, List, length, ap, subst, ◌∙◌, inr}
use Rattle.cbm_sources.proofs.TapeLemmas.{told_cut, told_whole}
use Rattle.cbm_sources.proofs.tape.Tape.bytes_of.Goals as goal

pub returns-then-from-self : goal.returns-then-from-self
returns-then-from-self c =
    inr (told_cut c.args.self.now c.args.record.now c.offset-from.result (subst (λ (xs : List ℕ). length xs ≤ c.offset-from.result) c.self.view_is c.if-from-self.true)
    c.offset-from.ensures.value)

pub returns-in-Ok : goal.returns-in-Ok
returns-in-Ok c =
    told_whole c.args.self.now c.args.record.now c.in-Ok.file.items c.offset-from.result c.size-size.result
    (subst (λ (xs : List ℕ). c.offset-from.result < length xs) c.self.view_is c.if-from-self.false) c.offset-from.ensures.value c.size-size.ensures.value
    (c.in-Ok.ensures ∙ ap (λ (xs : List ℕ). slice_index c.args.record.now 2 ∷ slice_index c.args.record.now 3
    ∷ slice_range xs c.offset-from.result (c.offset-from.result + c.size-size.result)) c.self.view_is)
