use Rattle.std.proofs.Common.{refl, subst, ◌∙◌}
use Rattle.std.proofs.lemmas.List.{drop_all}
use Rattle.cbm_directory.specs.Entries.{EntersLed}
use Rattle.cbm_odd.proofs.AwayLemmas.{one_off, putting-start, putting-on, putting-end}
use Rattle.cbm_odd.proofs.away.put_each_away.Goals as goal

pub loop-odd-init : goal.loop-odd-init
loop-odd-init g c = (putting-start c.args.geometry _ _ _ refl, refl, refl)

pub loop-odd-preserved : goal.loop-odd-preserved
loop-odd-preserved g c =
    let old = g.M.Medium.seen c.args.medium.now in
    let now = g.M.Medium.seen c.loop-odd.medium in
    let next = g.M.Medium.seen c.put_entry.new.medium in
    let inv = c.loop-odd.invariant in
    let begins = one_off c.args.odds.now c.odd-item.result c.loop-odd.odd-index c.odd-item.is c.loop-odd-test.true in (
      putting-on c.args.geometry _ _ _ _ old.content now.content next.content inv.0 begins
          (subst (λ e. EntersLed c.args.geometry now.content next.content c.odd-item.result.slot e) c.away_entry.ensures c.in_ok-put_entry.ensures.entered),
      c.put_entry.ensures.tracks ∙ inv.1,
      c.put_entry.ensures.outside ∙ inv.2,
    )

pub returns-clause-away : goal.returns-clause-away
returns-clause-away g c =
    putting-end c.args.geometry _ _ (g.M.Medium.seen c.args.medium.now).content (g.M.Medium.seen c.loop-odd.medium).content c.loop-odd.invariant.0
    (drop_all c.loop-odd.odd-index c.args.odds.now c.loop-odd-test.false)
