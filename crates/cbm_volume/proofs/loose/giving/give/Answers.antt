use Rattle.std.proofs.Common.{arith}
use Rattle.cbm_volume.proofs.loosened.Remapped.{given_map}
use Rattle.cbm_volume.proofs.loose.giving.give.Goals as goal

pub returns-clause-ok : goal.returns-clause-ok
returns-clause-ok g c = λ few.
    given_map c.args.geometry (g.M.Medium.seen c.args.medium.now).content (g.M.Medium.seen c.write.new.medium).content c.args.at c.in_ok-release.release c.give.new.self c.in_ok-release.ensures.ok
    (c.give.ensures c.args.geometry few (omega (arith, c.tracks.ensures.value, c.tracks.ensures.either))) c.in_ok-write.ensures.ok
