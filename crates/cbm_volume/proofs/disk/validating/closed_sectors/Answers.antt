use Rattle.cbm_bam.specs.Marks.{is_marked}
use Rattle.cbm_volume.proofs.mended.Validates.{claimed_there, no_flaw, flaw_there}
use Rattle.cbm_volume.proofs.disk.validating.closed_sectors.Goals as goal

pub returns-in-Ok-clause-ok : goal.returns-in-Ok-clause-ok
returns-in-Ok-clause-ok g c = claimed_there (g.M.Medium.seen c.args.medium.now).tracks (g.M.Medium.seen c.args.medium.now).content c.geometry-geometry.result (is_marked c.in-Ok.used) c.geometry-geometry.ensures.whole c.geometry-geometry.ensures.value c.in-Ok.ensures.ok

-- on a sound disk nothing is wrong
pub returns-in-Err-clause-exact : goal.returns-in-Err-clause-exact
returns-in-Err-clause-exact g c = λ l s. absurd (no_flaw (g.M.Medium.seen c.args.medium.now).tracks (g.M.Medium.seen c.args.medium.now).content c.geometry-geometry.result c.in-Err.flaw c.geometry-geometry.ensures.whole c.geometry-geometry.ensures.value c.in-Err.ensures.err l s)

pub returns-in-Err-clause-err : goal.returns-in-Err-clause-err
returns-in-Err-clause-err g c = flaw_there (g.M.Medium.seen c.args.medium.now).tracks (g.M.Medium.seen c.args.medium.now).content c.geometry-geometry.result c.flaw_code.result c.in-Err.flaw c.geometry-geometry.ensures.whole c.geometry-geometry.ensures.value c.flaw_code.ensures.value c.in-Err.ensures.err
