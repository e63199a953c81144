use Rattle.std.proofs.Common.{◌≡◌, ap, rules}
use Rattle.cbm_medium.specs.Place.{directory_head}
use Rattle.cbm_bam.specs.Marks.{is_marked}
use Rattle.cbm_odd.proofs.FaultLemmas.{clear_refused}
use Rattle.cbm_odd.proofs.away.require_clear.Goals as goal

pub returns-clause-fault : goal.returns-clause-fault
returns-clause-fault g c =
    let now = g.M.Medium.seen c.args.volume.now in
    let medium : c.medium.result.now ≡ c.args.volume.now = search rules in
    clear_refused now.tracks now.content ((g.M.Medium.seen c.medium.result.now).content directory_head) (is_marked c.args.used.now) (is_marked c.args.before.now) c.args.held.now c.require_kept.result
    (ap (λ m. (g.M.Medium.seen m).content directory_head) medium) c.require_kept.ensures.fault
