use Rattle.std.proofs.Common.{arith, ap}
use Rattle.cbm_medium.specs.Content.{Content}
use Rattle.cbm_g64.proofs.Held.{held_fresh, fresh_content, fresh_id_for, fresh_laid}
use Rattle.cbm_g64.proofs.Filled.{filled_fresh}
use Rattle.cbm_g64.proofs.copying.fresh_tracks.Goals as goal

pub returns-clause-blank : goal.returns-clause-blank
returns-clause-blank c = λ p. ap (λ (content : Content). content p) (fresh_content c.args.id.now c.loop-track.tracks.items c.fits-id c.told-id (λ i h. c.loop-track.invariant.fresh i (omega arith)))

pub returns-clause-disk : goal.returns-clause-disk
returns-clause-disk c = record {
  held = held_fresh c.args.id.now c.loop-track.tracks.items (omega (arith, c.loop-track.invariant.count)) (λ i h. c.loop-track.invariant.fresh i (omega arith));
  laid = fresh_laid c.args.id.now c.loop-track.tracks.items c.fits-id c.told-id (λ i h. c.loop-track.invariant.fresh i (omega arith));
  filled = filled_fresh c.args.id.now c.loop-track.tracks.items c.fits-id c.told-id (λ i h. c.loop-track.invariant.fresh i (omega arith));
  named = fresh_id_for c.args.id.now c.loop-track.tracks.items c.fits-id c.told-id (λ i h. c.loop-track.invariant.fresh i (omega arith));
}
