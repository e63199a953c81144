use Rattle.std.proofs.Common.{◌≡◌, ◌⊎◌, MatchResult, Ok, Err, sym, subst}
use Rattle.cbm_sources.specs.declared.fault.Fault.TheVariants.{Memory}
use Rattle.cbm_sources.specs.Answers.{FileTold}
use Rattle.cbm_sources.specs.Lynxes.{Members}
use Rattle.cbm_sources.proofs.LynxLemmas.{file_is}
use Rattle.cbm_sources.proofs.lynx.Lynx.file.Goals as goal

pub returns : goal.returns
returns c =
    let inside = c.self.inside in
    let found : Members = record { entries = inside.found.entries.items; pieces = inside.found.pieces.items; broken = inside.found.broken } in
    subst (λ (told : FileTold). MatchResult c.file_among.result (λ v. told ≡ Ok v.items) (λ fault. (fault ≡ Memory) ⊎ (told ≡ Err fault)))
    (sym (file_is c.args.self.now inside.bytes.now c.args.number found c.self.view_is c.self.invariant)) c.file_among.ensures
