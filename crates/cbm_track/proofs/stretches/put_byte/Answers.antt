use Rattle.std.proofs.Common.{◌∙◌, ◌+◌, ◌/◌, refl, arith}
use Rattle.std.proofs.Math.Nat.{mod-eq_of_lt}
use Rattle.cbm_track.proofs.Crossing.{IsCrossed, crossed_here, crossed_others}
use Rattle.cbm_track.proofs.Places.{wrap_once}
use Rattle.cbm_track.proofs.stretches.put_byte.Goals as goal

crossing : (c : goal.After-ended) → IsCrossed c.args.track.now c.args.place c.args.byte (c.args.place / 8) c.wrapped-last.result c.begun.result c.ended.result
crossing c = record {
  inside = c.requires;
  first = refl;
  near = λ h. c.wrapped-last.ensures.value ∙ mod-eq_of_lt h;
  far = λ h. c.wrapped-last.ensures.value ∙ wrap_once (c.args.place / 8 + 1) _ h (omega arith) ∙ omega arith;
  front_kept = c.begun.ensures.kept;
  front_new = c.begun.ensures.written;
  back_new = c.ended.ensures.written;
  back_kept = c.ended.ensures.kept;
}

pub returns-clause-written : goal.returns-clause-written
returns-clause-written c = crossed_here _ _ _ _ _ _ _ (crossing c)

pub returns-clause-others : goal.returns-clause-others
returns-clause-others c = crossed_others _ _ _ _ _ _ _ (crossing c)
