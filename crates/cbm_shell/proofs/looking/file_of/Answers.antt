use Rattle.std.proofs.Common.{◌≡◌}
use Rattle.cbm_volume.specs.Holding.{EntryStandsAt}
use Rattle.cbm_shell.specs.declared.fault.ShellFault.TheVariants as fault
use Rattle.cbm_image.specs.AnyDisks.{any_seen}
use Rattle.cbm_shell.proofs.ImageLemmas.{opened_holds, or_open_fault, from_image}
use Rattle.cbm_shell.proofs.looking.file_of.Goals as goal

pub returns : goal.returns
returns c = λ d n bytes h stands has.
    let seen = any_seen c.in_ok-disk.disk in
    let opened = c.in_ok-disk.ensures.ok in
    or_open_fault c.args.image.now c.read_file.result (λ v. v.items ≡ bytes) (λ f. f ≡ fault.Memory) (λ n h. absurd (cc))
    (c.read_file.ensures.means d n bytes (opened_holds c.args.image.now seen d opened h)
    (from_image (λ m t. EntryStandsAt m t n c.args.entry.now) c.args.image.now seen opened stands) has)
