use Rattle.std.proofs.Common.{◌≡◌, ◌≤◌, take}
use Rattle.cbm_drive.specs.Seats.{total, clock_of, data_pulls}
use Rattle.cbm_drive.proofs.wires.Wires.of.Given as goal

-- what those hold that were looked at
abbrev pub invariant-loop-drive : goal.invariant-loop-drive
invariant-loop-drive g l =
    (l.clocks ≡ total clock_of (take l.drive-index l.drives)) × (l.datas ≡ total data_pulls (take l.drive-index l.drives)) × (l.clocks ≤ l.drive-index) × (l.datas ≤ l.drive-index)
