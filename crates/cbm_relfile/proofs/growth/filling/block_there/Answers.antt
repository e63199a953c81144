use Rattle.std.proofs.Common.{rules, ◌≡◌, refl, sym, ap, subst, ◌∙◌, IsOk, inl}
use Rattle.std.proofs.lemmas.Option.{get_or_from_slice_get}
use Rattle.cbm_medium.specs.Place.{Place, has, directory_head}
use Rattle.cbm_medium.specs.Content.{Cell}
use Rattle.cbm_medium.specs.Met.{place_of}
use Rattle.cbm_medium.specs.declared.fault.Trouble.{Trouble}
use Rattle.cbm_medium.proofs.Walks.{has_none}
use Rattle.cbm_medium.proofs.Reached.{one_start}
use Rattle.cbm_relfile.specs.Counting.{BlocksLeadTo}
use Rattle.cbm_relfile.proofs.FilePlaces.{off_met, met_or}
use Rattle.cbm_relfile.proofs.NotThere.{some_says}
use Rattle.cbm_relfile.proofs.Stretches.{block_found}
use Rattle.cbm_relfile.proofs.growth.filling.block_there.Goals as goal

-- a block of a chain is a sector of the disk
pub returns-in_default-address-clause-there : goal.returns-in_default-address-clause-there
returns-in_default-address-clause-there g c = λ blocks h short l.
    let found = block_found c.args.geometry (g.M.Medium.seen c.args.medium.now).content c.args.first blocks c.args.number c.in-Some.at h (sym c.in-Some.is ∙ c.in_ok-at.ensures.chain blocks h short) in
    c.in_default-address.ensures found.chain.1

-- and reads
pub returns-in_err-bytes-clause-there : goal.returns-in_err-bytes-clause-there
returns-in_err-bytes-clause-there g c = λ blocks h short l.
    let found = block_found c.args.geometry (g.M.Medium.seen c.args.medium.now).content c.args.first blocks c.args.number c.in-Some.at h (sym c.in-Some.is ∙ c.in_ok-at.ensures.chain blocks h short) in
    let reads : IsOk ((g.M.Medium.seen c.args.medium.now).content c.in-Some-address.address) = subst (λ (p : Place). IsOk ((g.M.Medium.seen c.args.medium.now).content p)) (sym c.in-Some-address.ensures.1) found.chain.2 in
    absurd (let z = subst (λ (x : Cell). IsOk x) c.in_err-bytes.ensures.err.0 reads in (cc))

pub returns-clause-there : goal.returns-clause-there
returns-clause-there g c = λ blocks h short l.
    c.in-Some-address.ensures.1 ∙ sym (get_or_from_slice_get blocks c.args.number c.in-Some.at directory_head (sym (c.in_ok-at.ensures.chain blocks h short) ∙ c.in-Some.is))

-- ---- what the content shows

-- the place to which the blocks lead is no sector of the disk
pub returns-in_default-address-clause-err : goal.returns-in_default-address-clause-err
returns-in_default-address-clause-err g c =
    let led : BlocksLeadTo c.args.geometry (g.M.Medium.seen c.args.medium.now).content c.args.first c.args.number c.in-Some.at = some_says (BlocksLeadTo c.args.geometry (g.M.Medium.seen c.args.medium.now).content c.args.first c.args.number) c.in_ok-at.field-0 c.in-Some.at c.in-Some.is c.in_ok-at.ensures.led in
    let t = c.trouble-in_default-address in
    inl (off_met c.args.geometry (g.M.Medium.seen c.args.medium.now).content (λ q. q ≡ c.args.first) t.result c.in-Some.at (c.args.first, led.blocks, refl, led.leads) (ap place_of t.ensures) (ap (λ (x : Trouble). x.code) t.ensures)
    (ap (λ (x : Trouble). has c.args.geometry (place_of x)) t.ensures ∙ has_none c.args.geometry c.in-Some.at c.in_default-address.ensures))

-- or it doesn't read
pub returns-in_err-bytes-clause-err : goal.returns-in_err-bytes-clause-err
returns-in_err-bytes-clause-err g c =
    let led : BlocksLeadTo c.args.geometry (g.M.Medium.seen c.args.medium.now).content c.args.first c.args.number c.in-Some.at = some_says (BlocksLeadTo c.args.geometry (g.M.Medium.seen c.args.medium.now).content c.args.first c.args.number) c.in_ok-at.field-0 c.in-Some.at c.in-Some.is c.in_ok-at.ensures.led in
    let starts : Place → Type 0 = λ q. q ≡ c.args.first in
    met_or c.args.geometry (g.M.Medium.seen c.args.medium.now).content (λ q. q ≡ c.in-Some.at) starts (λ t. (t.code ≡ 71) × (place_of t ≡ c.args.first)) c.from_residual-in_err-bytes.result (one_start c.args.geometry (g.M.Medium.seen c.args.medium.now).content starts c.in-Some.at (c.args.first, led.blocks, refl, led.leads)) (search rules)
