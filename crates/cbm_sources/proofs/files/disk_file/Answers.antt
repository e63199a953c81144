use Rattle.std.proofs.Common.{◌≡◌, ◌⊎◌, MatchResult, Ok, Err, sym, subst}
use Rattle.cbm_directory.specs.Slots.{Listed}
use Rattle.cbm_sources.specs.declared.fault.Fault.TheVariants.{Memory}
use Rattle.cbm_sources.specs.Answers.{FileTold}
use Rattle.cbm_sources.proofs.Sourced.{file_is}
use Rattle.cbm_sources.proofs.files.disk_file.Goals as goal

pub returns-in-Ok : goal.returns-in-Ok
returns-in-Ok c =
    let listed : Listed = record { entries = c.in-Ok.listed.entries.items; trouble = c.in-Ok.listed.trouble } in
    subst (λ (told : FileTold). MatchResult c.file_among.result (λ v. told ≡ Ok v.items) (λ fault. (fault ≡ Memory) ⊎ (told ≡ Err fault)))
    (sym (file_is c.args.disk.now c.args.number listed c.in-Ok.ensures)) c.file_among.ensures
