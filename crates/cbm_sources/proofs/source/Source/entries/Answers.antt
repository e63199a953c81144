use Rattle.std.proofs.Common.{Option, ap, sym, ◌∙◌}
use Rattle.cbm_directory.specs.Slots as slots
use Rattle.cbm_sources.specs.declared.fault.Fault.{Fault}
use Rattle.cbm_sources.specs.Told.{Listing, disk_fault, contents_of}
use Rattle.cbm_sources.proofs.source.Source.entries.Goals as goal

pub returns-in_ok-listed-in-Image : goal.returns-in_ok-listed-in-Image
returns-in_ok-listed-in-Image c =
    ap contents_of c.in-Image.is
    ∙ ap (λ (l : slots.Listed). let r : Listing = record { entries = l.entries; fault = disk_fault l.trouble } in r) c.in_ok-listed-in-Image.ensures
    ∙ ap (λ (f : Option Fault). let r : Listing = record { entries = c.in_ok-listed-in-Image.listed.entries.items; fault = f } in r) (sym c.fault_of-fault.ensures)
