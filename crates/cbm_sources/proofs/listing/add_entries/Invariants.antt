use Rattle.std.proofs.Common.{◌≡◌, ◌-◌, ◌++◌}
use Rattle.cbm_directory.specs.Slots.{entries_from}
use Rattle.cbm_sources.specs.Directories.{used}
use Rattle.cbm_sources.proofs.listing.add_entries.Given as goal

abbrev pub invariant-loop-number : goal.invariant-loop-number
invariant-loop-number l =
    l.entries.items ++ used (entries_from (8 - l.number) l.sector l.number) ≡ l.fn.entries.items ++ used (entries_from 8 l.fn.sector 0)
