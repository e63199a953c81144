use Rattle.std.proofs.Common.{◌≡◌, ◌⊎◌, MatchResult, Some, None, Ok, Err, sym, subst, refl, inr}
use Rattle.std.proofs.lemmas.Option.{slice_get_read, slice_get_past}
use Rattle.cbm_sources.specs.declared.fault.Fault.TheVariants.{Memory}
use Rattle.cbm_sources.specs.Answers.{FileTold}
use Rattle.cbm_sources.proofs.TapeLemmas.{file_is}
use Rattle.cbm_sources.proofs.tape.Tape.file_among.Goals as goal

pub returns-in-None : goal.returns-in-None
returns-in-None c =
    let h = c.in-None.ensures.lookup in
    inr (file_is c.args.self.now c.args.number c.args.records.now None c.requires (slice_get_past c.args.records.now c.args.number h.3))

pub returns-in-Some : goal.returns-in-Some
returns-in-Some c =
    let h = c.in-Some.ensures.lookup in
    subst (λ (told : FileTold). MatchResult c.bytes_of.result (λ v. told ≡ Ok v.items) (λ fault. (fault ≡ Memory) ⊎ (told ≡ Err fault)))
    (sym (file_is c.args.self.now c.args.number c.args.records.now (Some c.in-Some.record.now) c.requires
    (slice_get_read c.args.records.now _ c.args.number c.in-Some.record.now refl h.3.0 h.1)))
    c.bytes_of.ensures
