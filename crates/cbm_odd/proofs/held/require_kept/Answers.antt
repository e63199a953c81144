use Rattle.std.proofs.Common.{◌≡◌, ◌∷◌, Some, None, ap, rules}
use Rattle.cbm_medium.specs.Place.{directory_head}
use Rattle.cbm_bam.specs.Marks.{is_marked}
use Rattle.cbm_shell.specs.declared.fault.ShellFault.TheVariants as fault
use Rattle.cbm_odd.specs.Held.{is_only_in, spoilt_at, IsSpoiltAmong}
use Rattle.cbm_odd.proofs.HeldLemmas.{kept_more, spoilt_more, spoilt_here}
use Rattle.cbm_odd.proofs.held.require_kept.Goals as goal

pub sectors-preserved : goal.sectors-preserved
sectors-preserved g c =
    let head = (g.M.Medium.seen c.args.medium.now).content directory_head in
    let used = is_only_in (is_marked c.args.used.now) (is_marked c.args.before.now) in
    let begins : c.sectors.rest.now ≡ c.in-Some.at.now ∷ c.in-Some.more.now = search rules in
    let none : spoilt_at head used c.in-Some.at.now ≡ None = search rules in (
      kept_more head used c.in-Some.at.now c.sectors.rest.now c.in-Some.more.now _ begins c.sectors.invariant.0 none,
      spoilt_more head used c.in-Some.at.now c.sectors.rest.now c.in-Some.more.now (IsSpoiltAmong head used c.args.held.now) begins c.sectors.invariant.1,
    )

pub returns-in-Some-spoilt-clause-fault : goal.returns-in-Some-spoilt-clause-fault
returns-in-Some-spoilt-clause-fault g c =
    let head = (g.M.Medium.seen c.args.medium.now).content directory_head in
    let used = is_only_in (is_marked c.args.used.now) (is_marked c.args.before.now) in
    let begins : c.sectors.rest.now ≡ c.in-Some.at.now ∷ c.in-Some.more.now = search rules in
    let here : spoilt_at head used c.in-Some.at.now ≡ Some c.in-Some-spoilt.number = search rules in
    spoilt_here head used c.in-Some.at.now c.sectors.rest.now c.in-Some.more.now (IsSpoiltAmong head used c.args.held.now) c.in-Some-spoilt.number _ begins c.sectors.invariant.1 here
    (ap fault.Unsound c.unsound_at.ensures)
