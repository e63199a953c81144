use Rattle.std.proofs.Common.{◌≡◌, ◌∷◌, [], ◌++◌, ◌-◌, ℕ, sym, ap, ◌∙◌, List, subst}
use Rattle.cbm_medium.specs.Place.{Place, sector_count}
use Rattle.cbm_medium.specs.Content.{Content}
use Rattle.cbm_medium.specs.Links.{follow, with_block}
use Rattle.cbm_chain.specs.Writing.{State, StandsAfter}
use Rattle.cbm_chain.proofs.After.{one_taken, followed_on, all_taken}
use Rattle.cbm_chain.proofs.writer.ChainWriter.after.Goals as goal

pub loop-at-preserved : goal.loop-at-preserved
loop-at-preserved g c =
    let content : Content = (g.M.Medium.seen c.args.medium.now).content in
    let on : follow c.args.geometry content c.loop-at.left c.loop-at.at ≡ with_block c.loop-at.at (follow c.args.geometry content (c.loop-at.left - 1) c.in_ok-at.at)
    = subst (λ (n : ℕ). follow n content c.loop-at.left c.loop-at.at ≡ with_block c.loop-at.at (follow n content (c.loop-at.left - 1) c.in_ok-at.at)) c.loop-at.invariant.tracks c.in_ok-at.ensures.step.followed in
    record {
      tracks = ap (λ (s : State). s.tracks) c.in_ok-at.ensures.taken ∙ c.loop-at.invariant.tracks;
      so_far = (
        c.loop-at.invariant.so_far.0 ++ c.loop-at.at ∷ [],
        (
          followed_on (follow c.args.geometry content (sector_count c.args.geometry) c.args.first) (follow c.args.geometry content c.loop-at.left c.loop-at.at)
              (follow c.args.geometry content (c.loop-at.left - 1) c.in_ok-at.at) c.loop-at.invariant.so_far.0 c.loop-at.at c.loop-at.invariant.so_far.1.0 on,
          one_taken c.args.geometry content c.loop-at.invariant.so_far.0 c.loop-at.at c.loop-at.writer c.take_up_at.new.self c.loop-at.invariant.so_far.1.1 c.in_ok-at.ensures.taken,
        ),
      );
    }

pub returns-clause-stands : goal.returns-clause-stands
returns-clause-stands g c =
    let content : Content = (g.M.Medium.seen c.args.medium.now).content in
    let all = all_taken c.args.geometry c.loop-at.left content c.loop-at.at (follow c.args.geometry content (sector_count c.args.geometry) c.args.first) c.loop-at.invariant.so_far.0
    (c.is_end.ensures.0 c.loop-at-test.false) c.loop-at.invariant.so_far.1.0 in
    subst (λ (blocks : List Place). StandsAfter c.args.geometry content blocks c.loop-at.writer) (sym all.0) c.loop-at.invariant.so_far.1.1

pub returns-clause-walk : goal.returns-clause-walk
returns-clause-walk g c =
    let content : Content = (g.M.Medium.seen c.args.medium.now).content in
    record {
      whole = (all_taken c.args.geometry c.loop-at.left content c.loop-at.at (follow c.args.geometry content (sector_count c.args.geometry) c.args.first) c.loop-at.invariant.so_far.0
          (c.is_end.ensures.0 c.loop-at-test.false) c.loop-at.invariant.so_far.1.0).1;
      cut = tt;
      never_26 = tt;
    }
