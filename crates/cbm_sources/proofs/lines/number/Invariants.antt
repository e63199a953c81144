use Rattle.std.proofs.Common.{◌≡◌, drop}
use Rattle.cbm_sources.specs.Lynxes.{spelled_from}
use Rattle.cbm_sources.proofs.lines.number.Given as goal

abbrev pub invariant-loop-byte : goal.invariant-loop-byte
invariant-loop-byte l = spelled_from l.number (drop l.byte-index l.text) ≡ spelled_from 0 l.text
