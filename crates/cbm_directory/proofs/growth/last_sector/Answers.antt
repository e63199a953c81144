use Rattle.std.proofs.Common.{◌-◌, List, [], ◌∷◌, ◌++◌, sym, ap, ◌∙◌, subst, arith}
use Rattle.std.proofs.lemmas.List.{append_assoc, length-append}
use Rattle.cbm_medium.specs.Place.{Place}
use Rattle.cbm_medium.specs.Content.{Content}
use Rattle.cbm_medium.specs.Links.{Chain, Followed, follow}
use Rattle.cbm_directory.specs.Entries.{first_directory}
use Rattle.cbm_directory.proofs.Grown.{chained_on}
use Rattle.cbm_directory.proofs.growth.last_sector.Goals as goal

pub loop-bytes-preserved : goal.loop-bytes-preserved
loop-bytes-preserved g c =
    let content : Content = (g.M.Medium.seen c.args.medium.now).content in
    let passed : List Place = c.loop-bytes.invariant.before.0 in
    record {
      going = λ z. (let f = c.if-is_end.ensures.1 z in cc);
      before = (
        passed ++ c.loop-bytes.at ∷ [],
        (
          (λ xs h. subst (λ (ys : List Place). Chain c.args.geometry content first_directory ys) (sym (append_assoc passed (c.loop-bytes.at ∷ []) xs))
              (c.loop-bytes.invariant.before.1.0 (c.loop-bytes.at ∷ xs) (chained_on c.args.geometry content c.loop-bytes.at c.of-next.result c.in_ok-bytes.bytes xs c.in_ok-bytes.ensures.has c.in_ok-bytes.ensures.ok c.of-next.ensures h))),
          omega (arith, length-append passed (c.loop-bytes.at ∷ []), c.loop-bytes.invariant.before.1.1, c.in_ok-bytes.ensures.step.some),
        ),
      );
      trouble = ap (λ (p : Place). (follow c.args.geometry content (c.loop-bytes.left - 1) p).trouble) c.of-next.ensures
          ∙ sym (ap (λ (y : Followed). y.trouble) c.in_ok-bytes.ensures.step.followed) ∙ c.loop-bytes.invariant.trouble;
    }
