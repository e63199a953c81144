use Rattle.cbm_bam.specs.Map.{geometry_of}
use Rattle.cbm_bam.specs.Marks.{is_marked}
use Rattle.cbm_volume.proofs.checked.CheckedSound.{claims_into}
use Rattle.cbm_volume.proofs.check.check_disk.Goals as goal

-- each step's success is the whole's
pub returns-clause-ok : goal.returns-clause-ok
returns-clause-ok g c = claims_into (geometry_of (g.M.Medium.seen c.args.medium.now).tracks (g.M.Medium.seen c.args.medium.now).content) c.geometry-geometry.result (g.M.Medium.seen c.args.medium.now).content c.new-first.result
    (is_marked c.head_alone-claimed.result) (is_marked c.head_alone-met.result) (is_marked c.claim_chain.new.claimed) (is_marked c.check_slots.new.claimed)
    c.geometry-geometry.ensures.value c.new-first.ensures c.head_alone-claimed.ensures c.head_alone-met.ensures
    c.in_ok-check_headers.ensures.ok c.in_ok-check_map.ensures.ok c.in_ok-claim_chain.ensures.ok c.in_ok-check_slots.ensures.ok
