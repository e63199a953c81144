use Rattle.std.proofs.Common.{◌≡◌, rules, to_z, of_z, w32}
use Rattle.cbm_odd.specs.Away.{IsNotAwayIn}
use Rattle.yellowadze1541.specs.Odd.{IsLeftOf}
use Rattle.yellowadze1541.proofs.Slotting.{gives_shell}
use Rattle.yellowadze1541.proofs.odd.y1541_image_put_away.Goals as goal

pub returns : goal.returns
returns c =
    let same : to_z w32 (of_z w32 c.handed.result) ≡ c.handed.result = search rules in
    gives_shell (λ v. v.items) (IsLeftOf c.args.image.now) (IsNotAwayIn c.args.image.now) c.left_of.result (to_z w32 (of_z w32 c.handed.result)) c.handed.result c.args.out.now c.handed.new.out c.args.needed.now c.handed.new.needed
    same c.left_of.ensures.left c.left_of.ensures.fault c.handed.ensures
