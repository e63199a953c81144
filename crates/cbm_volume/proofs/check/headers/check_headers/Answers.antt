use Rattle.std.proofs.Common.{rules, ◌≡◌, ◌≤◌, arith}
use Rattle.cbm_medium.specs.Place.{Place}
use Rattle.cbm_bam.specs.Map.{at}
use Rattle.cbm_volume.specs.check.Headers.{IsFirstBad}
use Rattle.cbm_volume.specs.check.Claims.{fault_at}
use Rattle.cbm_volume.proofs.checked.FirstBad.{up_more, first_bad}
use Rattle.cbm_volume.proofs.check.headers.check_headers.Goals as goal

pub loop-track-init : goal.loop-track-init
loop-track-init g c = λ p has l. absurd (omega (arith, has.0))

pub loop-track-preserved : goal.loop-track-preserved
loop-track-preserved g c = up_more c.args.geometry (g.M.Medium.seen c.args.medium.now).content c.loop-track.track c.loop-track.invariant c.in_ok-check_track.ensures.ok

pub returns-clause-ok : goal.returns-clause-ok
returns-clause-ok g c = λ p has. c.loop-track.invariant p has (omega (arith, has.1, c.tracks-track-end.ensures.value, c.loop-track-test.false))

pub returns-in_err-check_track-clause-err : goal.returns-in_err-check_track-clause-err
returns-in_err-check_track-clause-err g c =
    let e = c.in_err-check_track.ensures.err in
    let few : c.loop-track.track ≤ c.args.geometry = omega (arith, c.loop-track-test.true, c.tracks-track-end.ensures.value) in
    let bad = first_bad c.args.geometry (g.M.Medium.seen c.args.medium.now).content c.loop-track.track e.0 c.loop-track.auto.track few c.loop-track.invariant e.1 e.2 e.3 in
    let whole : (p : Place) × IsFirstBad c.args.geometry (g.M.Medium.seen c.args.medium.now).content p × (c.in_err-check_track.field-0.0 ≡ fault_at 5 p) = (at c.loop-track.track e.0, bad, e.4) in
    search rules
