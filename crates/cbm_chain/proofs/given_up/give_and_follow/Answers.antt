use Rattle.std.proofs.Common.{◌≡◌, suc, [], Some, Ok, Err, sym, ap, subst, ◌∙◌}
use Rattle.std.proofs.lemmas.Result.{err_from_is_err_and}
use Rattle.cbm_medium.specs.Place.{Place}
use Rattle.cbm_medium.specs.Content.{Content}
use Rattle.cbm_medium.specs.Links.{Followed, with_block}
use Rattle.cbm_medium.specs.declared.fault.Trouble.{Trouble}
use Rattle.cbm_chain.specs.GivenUp.{linked_blocks}
use Rattle.cbm_chain.proofs.Linked.{linked_off, linked_fault, linked_next}
use Rattle.cbm_chain.proofs.given_up.give_and_follow.Goals as goal

-- the link names no sector
pub returns-in_err-address-clause-err : goal.returns-in_err-address-clause-err
returns-in_err-address-clause-err g c = λ n.
    let p = err_from_is_err_and c.from_residual.result c.from_residual.ensures.1 in
    rw (p.1, p.2) (linked_off c.args.geometry (g.M.Medium.seen c.args.medium.now).content (suc n) c.args.at c.in_err-address.ensures.err.0
    ∙ ap (λ (t : Trouble). let f : Followed = record { blocks = []; trouble = Some t } in f) (sym c.in_err-address.ensures.err.1))

-- its block doesn't read
pub returns-in_err-bytes-clause-err : goal.returns-in_err-bytes-clause-err
returns-in_err-bytes-clause-err g c = λ n.
    let content : Content = (g.M.Medium.seen c.args.medium.now).content in
    let at : c.in_ok-address.address ≡ c.args.at = c.in_ok-address.ensures.place in
    let fault : content c.args.at ≡ Err c.in_err-bytes.field-0.0.code = subst (λ (q : Place). content q ≡ Err c.in_err-bytes.field-0.0.code) at c.in_err-bytes.ensures.err.0 in
    let named : c.args.at ≡ c.in_err-bytes.field-0.0.at = sym at ∙ sym c.in_err-bytes.ensures.err.1 in
    let p = err_from_is_err_and c.from_residual-in_err-bytes.result c.from_residual-in_err-bytes.ensures.1 in
    rw (p.1, p.2) (linked_fault c.args.geometry content n c.args.at c.in_err-bytes.field-0.0.code c.in_ok-address.ensures.has fault
    ∙ (λ i. record { blocks = []; trouble = Some (record { code = c.in_err-bytes.field-0.0.code; track = (named i).track; sector = (named i).sector }) }))

pub returns-clause-followed : goal.returns-clause-followed
returns-clause-followed g c = λ n.
    let content : Content = (g.M.Medium.seen c.args.medium.now).content in
    let reads : content c.args.at ≡ Ok c.in_ok-bytes.bytes = subst (λ (q : Place). content q ≡ Ok c.in_ok-bytes.bytes) c.in_ok-address.ensures.place c.in_ok-bytes.ensures.ok in
    linked_next c.args.geometry content n c.args.at c.in_ok-bytes.bytes c.in_ok-address.ensures.has reads
    ∙ ap (λ (q : Place). with_block c.args.at (linked_blocks c.args.geometry content n q)) (sym c.of.ensures)
