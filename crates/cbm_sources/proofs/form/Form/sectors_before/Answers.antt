use Rattle.std.proofs.Common.{sym, arith}
use Rattle.cbm_sources.proofs.Places.{one_track_more, no_track_yet}
use Rattle.cbm_sources.proofs.form.Form.sectors_before.Goals as goal

pub loop-earlier-init : goal.loop-earlier-init
loop-earlier-init c = record { sum = sym (no_track_yet c.args.self); small = omega arith }

pub loop-earlier-preserved : goal.loop-earlier-preserved
loop-earlier-preserved c = record {
  sum = omega (arith, one_track_more c.args.self c.loop-earlier.earlier, c.sectors_of.ensures, c.loop-earlier.invariant.sum);
  small = omega (arith, c.sectors_of.type_inv, c.loop-earlier.invariant.small);
}
