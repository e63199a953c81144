use Rattle.yellowadze1541.proofs.AroundLemmas.{whole_made, whole_failed}
use Rattle.yellowadze1541.proofs.odd.whole_of.Goals as goal

pub returns-clause-whole : goal.returns-clause-whole
returns-clause-whole c =
    whole_made (λ v. v.items) c.put_back.result c.args.image.now c.args.changed.now c.in_ok-away.away c.as_slice.result.now c.in_ok-away.ensures.away c.as_slice.ensures.value c.put_back.ensures.back

pub returns-clause-fault : goal.returns-clause-fault
returns-clause-fault c =
    whole_failed c.put_back.result c.args.image.now c.args.changed.now c.in_ok-away.away c.as_slice.result.now c.in_ok-away.ensures.away c.as_slice.ensures.value c.put_back.ensures.fault
