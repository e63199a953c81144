use Rattle.std.proofs.Common.{◌≡◌, ◌⊎◌, ◌≤◌, length, slice_get, List, MatchResult, Ok, Err, ap, sym, subst, ◌∙◌, refl, inr}
use Rattle.std.proofs.lemmas.Option.{slice_get_read, slice_get_past}
use Rattle.cbm_sources.specs.declared.fault.Fault.{Fault}
use Rattle.cbm_sources.specs.declared.fault.Fault.TheVariants.{Memory}
use Rattle.cbm_sources.specs.declared.lynx.Piece.{Piece}
use Rattle.cbm_sources.specs.Answers.{FileTold}
use Rattle.cbm_sources.specs.Lynxes.{lynx_told}
use Rattle.cbm_sources.proofs.lynx.file_among.Goals as goal

pub returns-in-None : goal.returns-in-None
returns-in-None c =
    let h = c.in-None.ensures.lookup in
    inr (ap (lynx_told c.args.bytes.now c.args.found.now.broken) (slice_get_past c.args.found.now.pieces.items c.args.number
    (subst (λ (xs : List Piece). length xs ≤ c.args.number) c.as_slice.ensures.value h.3)) ∙ ap (λ (fault : Fault). let t : FileTold = Err fault in t) (sym c.missing.ensures))

pub returns-in-Some : goal.returns-in-Some
returns-in-Some c =
    let h = c.in-Some.ensures.lookup in
    let there = slice_get_read c.as_slice.result.now _ c.args.number c.in-Some.piece.now refl h.3.0 h.1 in
    subst (λ (told : FileTold). MatchResult c.bytes_of.result (λ v. told ≡ Ok v.items) (λ fault. (fault ≡ Memory) ⊎ (told ≡ Err fault)))
    (sym (ap (lynx_told c.args.bytes.now c.args.found.now.broken) (ap (λ xs. slice_get xs c.args.number) (sym c.as_slice.ensures.value) ∙ there)))
    c.bytes_of.ensures
