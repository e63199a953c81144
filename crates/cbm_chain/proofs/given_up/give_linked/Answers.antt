use Rattle.std.proofs.Common.{rules, ◌≡◌, ◌+◌, ◌-◌, ◌∷◌, [], ℕ, suc, Some, refl, sym, ap, subst, ◌∙◌, arith}
use Rattle.std.proofs.lemmas.Result.{err_from_is_err_and}
use Rattle.cbm_medium.specs.Content.{Content}
use Rattle.cbm_medium.specs.Links.{Followed, ended, with_block}
use Rattle.cbm_medium.specs.declared.fault.Trouble.{Trouble}
use Rattle.cbm_bam.specs.Map.{Frees}
use Rattle.cbm_chain.specs.GivenUp.{linked_blocks}
use Rattle.cbm_chain.proofs.Linked.{linked_last, linked_off, given_then, trouble_then}
use Rattle.cbm_chain.proofs.given_up.give_linked.Goals as goal

pub loop-passed-preserved : goal.loop-passed-preserved
loop-passed-preserved g c =
    let content : Content = (g.M.Medium.seen c.args.medium.now).content in
    let left : ℕ = c.args.more - (c.loop-passed.passed + 1) in
    let one : c.args.more - c.loop-passed.passed ≡ suc left = omega arith in
    let whole : Followed = linked_blocks c.args.geometry content c.args.more c.args.first in
    let here : Followed = linked_blocks c.args.geometry content (c.args.more - c.loop-passed.passed) c.loop-passed.at in
    let next : Followed = linked_blocks c.args.geometry content left c.in_ok-at.at in
    let on : here ≡ with_block c.loop-passed.at next = ap (λ (n : ℕ). linked_blocks c.args.geometry content n c.loop-passed.at) one ∙ c.in_ok-at.ensures.followed left in
    record {
      forth = given_then c.args.geometry c.loop-passed.at c.args.release.now c.loop-passed.release c.give_and_follow.new.release whole here next on c.in_ok-at.ensures.given c.loop-passed.invariant.forth;
      trouble = trouble_then c.loop-passed.at whole here next on c.loop-passed.invariant.trouble;
    }

-- a walk that is cut on the way
pub returns-in_err-at-clause-walk : goal.returns-in_err-at-clause-walk
returns-in_err-at-clause-walk g c =
    let content : Content = (g.M.Medium.seen c.args.medium.now).content in
    let one : c.args.more - c.loop-passed.passed ≡ suc (c.args.more - (c.loop-passed.passed + 1)) = omega arith in
    let p = err_from_is_err_and c.from_residual.result c.from_residual.ensures.1 in
    record {
      whole = rw p.1 tt;
      cut = rw (p.1, p.2) (sym c.loop-passed.invariant.trouble ∙ ap (λ (n : ℕ). (linked_blocks c.args.geometry content n c.loop-passed.at).trouble) one
          ∙ ap (λ (y : Followed). y.trouble) (c.in_err-at.ensures.err (c.args.more - (c.loop-passed.passed + 1))));
      never_26 = (search rules);
    }

-- or at its last block
pub returns-in_err-give_at-clause-walk : goal.returns-in_err-give_at-clause-walk
returns-in_err-give_at-clause-walk g c =
    let content : Content = (g.M.Medium.seen c.args.medium.now).content in
    let p = err_from_is_err_and c.from_residual-in_err-give_at.result c.from_residual-in_err-give_at.ensures.1 in
    record {
      whole = rw p.1 tt;
      cut = rw (p.1, p.2) (sym c.loop-passed.invariant.trouble
          ∙ ap (λ (y : Followed). y.trouble) (linked_off c.args.geometry content (c.args.more - c.loop-passed.passed) c.loop-passed.at c.in_err-give_at.ensures.err.0)
          ∙ ap (λ (t : Trouble). Some t) (sym c.in_err-give_at.ensures.err.1));
      never_26 = (search rules);
    }

pub returns-clause-freed : goal.returns-clause-freed
returns-clause-freed g c =
    let content : Content = (g.M.Medium.seen c.args.medium.now).content in
    let none : c.args.more - c.loop-passed.passed ≡ 0 = omega arith in
    let last : linked_blocks c.args.geometry content (c.args.more - c.loop-passed.passed) c.loop-passed.at ≡ ended (c.loop-passed.at ∷ []) =
    ap (λ (n : ℕ). linked_blocks c.args.geometry content n c.loop-passed.at) none ∙ linked_last c.args.geometry content c.loop-passed.at c.in_ok-give_at.ensures.has in
    c.loop-passed.invariant.forth c.give_at.new.release
    (subst (λ (f : Followed). Frees c.args.geometry c.loop-passed.release f.blocks c.give_at.new.release) (sym last) (c.give_at.new.release, c.in_ok-give_at.ensures.given, refl))

pub returns-clause-walk : goal.returns-clause-walk
returns-clause-walk g c =
    let content : Content = (g.M.Medium.seen c.args.medium.now).content in
    let none : c.args.more - c.loop-passed.passed ≡ 0 = omega arith in
    record {
      whole = sym c.loop-passed.invariant.trouble
          ∙ ap (λ (n : ℕ). (linked_blocks c.args.geometry content n c.loop-passed.at).trouble) none
          ∙ ap (λ (y : Followed). y.trouble) (linked_last c.args.geometry content c.loop-passed.at c.in_ok-give_at.ensures.has);
      cut = tt;
      never_26 = tt;
    }
