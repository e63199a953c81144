use Rattle.std.proofs.Common.{◌≡◌, ◌∙◌, arith, true}
use Rattle.std.specs.Prelude.{is_some}
use Rattle.cbm_directory.proofs.Stepping.{some_passed, answered}
use Rattle.cbm_directory.proofs.slots.slot.Goals as goal

pub loop-passed-preserved : goal.loop-passed-preserved
loop-passed-preserved g c =
    let found : is_some c.in_ok-next.field-0 ≡ true = grind arith in (
      c.in_ok-next.ensures.tracks ∙ c.loop-passed.invariant.0,
      some_passed _ _ _ c.loop-passed.passed c.in_ok-next.field-0 found c.loop-passed.invariant.1 c.in_ok-next.ensures.gives,
    )

pub returns : goal.returns
returns g c = answered _ _ _ c.loop-passed.passed c.args.number c.next-2.result c.loop-passed.invariant.1 (omega arith) c.next-2.ensures.gives
