use Rattle.std.proofs.Common.{rules, ◌≡◌, false, ◌∙◌}
use Rattle.cbm_basic.specs.Links.{links_hold}
use Rattle.cbm_basic.proofs.LinkLemmas.{line-holds, line-short, line-cut, link-holds, link-fails}
use Rattle.cbm_basic.proofs.links.linked_line.Goals as goal

-- it breaks off before its number, or within it
pub returns-in_err-rest-clause-holds : goal.returns-in_err-rest-clause-holds
returns-in_err-rest-clause-holds c = λ n.
    let short : links_hold c.args.at c.args.bytes.now ≡ false =
    line-short c.args.at _ _ _ _ _ c.in_ok-low.ensures.cases.0 c.in_ok-high.ensures.cases.0 c.in_err-rest.ensures.cases n in
    search rules

pub returns-in_err-rest-2-clause-holds : goal.returns-in_err-rest-2-clause-holds
returns-in_err-rest-2-clause-holds c = λ n.
    let cut : links_hold c.args.at c.args.bytes.now ≡ false =
    line-cut c.args.at _ _ _ _ _ _ _ c.in_ok-low.ensures.cases.0 c.in_ok-high.ensures.cases.0 c.in_ok-rest.ensures.cases.0 c.in_err-rest-2.ensures.cases n in
    search rules

-- no 0 ends its text
pub returns-in_err-next-clause-holds : goal.returns-in_err-next-clause-holds
returns-in_err-next-clause-holds c = λ n.
    let unended : links_hold c.args.at c.args.bytes.now ≡ false =
    line-holds c.args.at _ _ _ _ _ _ _ _ _ c.in_ok-low.ensures.cases.0 c.in_ok-high.ensures.cases.0 c.in_ok-rest.ensures.cases.0 c.in_ok-rest-2.ensures.cases.0 n
    ∙ c.in_err-next.ensures.holds _ in
    search rules

pub returns-then-next-low-clause-holds : goal.returns-then-next-low-clause-holds
returns-then-next-low-clause-holds c = λ n.
    line-holds c.args.at _ _ _ _ _ _ _ _ _ c.in_ok-low.ensures.cases.0 c.in_ok-high.ensures.cases.0 c.in_ok-rest.ensures.cases.0 c.in_ok-rest-2.ensures.cases.0 n
    ∙ (c.in_ok-next.ensures.holds _ ∙ link-holds _ _ _ c.if-next-low.true)

pub returns-else-next-low-clause-holds : goal.returns-else-next-low-clause-holds
returns-else-next-low-clause-holds c = λ n.
    line-holds c.args.at _ _ _ _ _ _ _ _ _ c.in_ok-low.ensures.cases.0 c.in_ok-high.ensures.cases.0 c.in_ok-rest.ensures.cases.0 c.in_ok-rest-2.ensures.cases.0 n
    ∙ (c.in_ok-next.ensures.holds _ ∙ link-fails _ _ _ c.if-next-low.false)
