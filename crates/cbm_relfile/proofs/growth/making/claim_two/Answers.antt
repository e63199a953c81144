use Rattle.std.proofs.Common.{Err, inr, ap, sym, ◌∙◌}
use Rattle.std.proofs.lemmas.Result.{err_from_is_err_and}
use Rattle.cbm_medium.specs.Seen.{Seen}
use Rattle.cbm_medium.proofs.Sequences.{only_after, only_refused, only_then}
use Rattle.cbm_relfile.proofs.NewFiles.{is_claimed, no_second}
use Rattle.cbm_relfile.proofs.growth.making.claim_two.Goals as goal

pub returns-in_default-2-clause-claimed : goal.returns-in_default-2-clause-claimed
returns-in_default-2-clause-claimed g c =
    let old : Seen = g.M.Medium.seen c.args.medium.now in
    let mid : Seen = g.M.Medium.seen c.claim_first.new.medium in
    let k = is_claimed c.args.geometry old.content mid.content c.in_ok-block.field-0 c.in-Some.block c.in-Some.is c.in_ok-block.ensures.claimed in
    no_second c.args.geometry old.content mid.content (g.M.Medium.seen c.claim_next.new.medium).content c.in_ok-side.field-0 c.in-Some.block k c.in_default-2.is c.in_ok-side.ensures.claimed

-- the second claim was refused
pub returns-in_err-side-clause-stopped : goal.returns-in_err-side-clause-stopped
returns-in_err-side-clause-stopped g c =
    let p = err_from_is_err_and c.from_residual-in_err-side.result c.from_residual-in_err-side.ensures.1 in
    let old : Seen = g.M.Medium.seen c.args.medium.now in
    let mid : Seen = g.M.Medium.seen c.claim_first.new.medium in
    let k = is_claimed c.args.geometry old.content mid.content c.in_ok-block.field-0 c.in-Some.block c.in-Some.is c.in_ok-block.ensures.claimed in
    rw (p.1, p.2) (record { mid = mid; before = inr (c.in-Some.block, k); protected = c.claim_first.ensures.only.protected; counted = c.claim_first.ensures.only.counted; same = c.in_err-side.ensures.err; cause = c.in_err-side.ensures.cause })

pub returns-in_err-side-clause-only : goal.returns-in_err-side-clause-only
returns-in_err-side-clause-only g c =
    let old : Seen = g.M.Medium.seen c.args.medium.now in
    let mid : Seen = g.M.Medium.seen c.claim_first.new.medium in
    let new : Seen = g.M.Medium.seen c.claim_next.new.medium in
    let p = err_from_is_err_and c.from_residual-in_err-side.result c.from_residual-in_err-side.ensures.1 in
    only_refused c.claim_next.result c.from_residual-in_err-side.result p.0 old new (c.in_err-side.was ∙ ap Err (sym p.2)) p.1
    (only_after c.claim_first.result c.in_ok-block.field-0 c.claim_next.result old mid new c.in_ok-block.was c.claim_first.ensures.only c.claim_next.ensures.only)

pub returns-clause-only : goal.returns-clause-only
returns-clause-only g c =
    let old : Seen = g.M.Medium.seen c.args.medium.now in
    let mid : Seen = g.M.Medium.seen c.claim_first.new.medium in
    let new : Seen = g.M.Medium.seen c.claim_next.new.medium in
    only_then c.claim_next.result _ c.in_ok-side.field-0 old new c.in_ok-side.was
    (only_after c.claim_first.result c.in_ok-block.field-0 c.claim_next.result old mid new c.in_ok-block.was c.claim_first.ensures.only c.claim_next.ensures.only) tt tt
