use Rattle.std.proofs.Common.{◌≡◌, ◌*◌, ◌≤◌}
use Rattle.cbm_sources.specs.Forms.{sectors_ahead}
use Rattle.cbm_sources.proofs.form.Form.sectors_before.Given as goal

abbrev pub invariant-loop-earlier : goal.invariant-loop-earlier
invariant-loop-earlier l = record {
  sum : l.before ≡ sectors_ahead l.self l.earlier;
  small : l.before ≤ 255 * l.earlier;
}
