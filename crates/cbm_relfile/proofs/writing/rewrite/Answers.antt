use Rattle.std.proofs.Common.{◌≡◌, ◌⊎◌, Err, refl, ap, sym, ◌∙◌, inl, inr}
use Rattle.std.proofs.lemmas.Result.{err_from_is_err_and}
use Rattle.cbm_medium.proofs.Sequences.{only_after, only_refused}
use Rattle.cbm_medium.specs.Place.{Place}
use Rattle.cbm_medium.specs.Links.{link}
use Rattle.cbm_medium.specs.Seen.{Seen}
use Rattle.cbm_medium.proofs.Reached.{one_of, met_more}
use Rattle.cbm_relfile.specs.Records.{IsRecordRefused}
use Rattle.cbm_relfile.specs.Changing.{IsWriteRefused}
use Rattle.cbm_relfile.proofs.FilePlaces.{part_refused}
use Rattle.cbm_relfile.proofs.Changed.{handed, back_refused}
use Rattle.cbm_relfile.proofs.writing.rewrite.Goals as goal
use Rattle.cbm_relfile.proofs.writing.rewrite.Given.{Over}

-- the next block doesn't read
pub returns-in_err-more-clause-cause : goal.returns-in_err-more-clause-cause
returns-in_err-more-clause-cause g c =
    let old : Seen = g.M.Medium.seen c.args.medium.now in
    let starts : Place → Type 0 = λ q. (q ≡ c.args.at) ⊎ (q ≡ link c.args.sector.now) in
    handed c.from_residual-in_err-more.result c.in_err-more.field-0.0 (IsRecordRefused c.args.geometry starts old old) c.from_residual-in_err-more.ensures.1
    (inl (met_more c.args.geometry old.content (λ q. q ≡ c.of-next.result) starts (one_of c.args.geometry old.content starts c.of-next.result (inr c.of-next.ensures)) c.in_err-more.field-0.0 c.in_err-more.ensures.err.shown))

-- the second sector was read before the first one was written
back : (g : Over) (c : goal.After-from_residual-in_err-put_part-3 g) → IsWriteRefused c.args.geometry (g.M.Medium.seen c.args.medium.now) (g.M.Medium.seen c.put_part-3.new.medium) c.in_err-put_part-3.field-0.0.code
back g c =
    let old : Seen = g.M.Medium.seen c.args.medium.now in
    let mid : Seen = g.M.Medium.seen c.put_part-2.new.medium in
    let new : Seen = g.M.Medium.seen c.put_part-3.new.medium in
    back_refused c.args.geometry old mid new c.args.at c.of-next.result _ c.in_ok-more.more c.in_err-put_part-3.field-0.0.code c.in_ok-put_part-2.ensures.ok c.in_ok-put_part-2.ensures.only.protected c.in_ok-put_part-2.ensures.only.counted c.in_ok-more.ensures.ok c.in_ok-more.ensures.has
    (c.in_err-put_part-3.ensures.refused c.in_ok-more.ensures.has)

pub returns-in_err-put_part-3-clause-refused : goal.returns-in_err-put_part-3-clause-refused
returns-in_err-put_part-3-clause-refused g c = λ here next.
    let old : Seen = g.M.Medium.seen c.args.medium.now in
    let new : Seen = g.M.Medium.seen c.put_part-3.new.medium in
    handed c.from_residual-in_err-put_part-3.result c.in_err-put_part-3.field-0.0 (λ t. IsWriteRefused c.args.geometry old new t.code) c.from_residual-in_err-put_part-3.ensures.1 (back g c)

pub returns-in_err-put_part-3-clause-cause : goal.returns-in_err-put_part-3-clause-cause
returns-in_err-put_part-3-clause-cause g c =
    let old : Seen = g.M.Medium.seen c.args.medium.now in
    let new : Seen = g.M.Medium.seen c.put_part-3.new.medium in
    let starts : Place → Type 0 = λ q. (q ≡ c.args.at) ⊎ (q ≡ link c.args.sector.now) in
    handed c.from_residual-in_err-put_part-3.result c.in_err-put_part-3.field-0.0 (IsRecordRefused c.args.geometry starts old new) c.from_residual-in_err-put_part-3.ensures.1
    (inr (elim (back g c) [ inl w ↦ inl (w.0, w.2) | inr failed ↦ inr failed ]))

pub returns-in_err-put_part-3-clause-only : goal.returns-in_err-put_part-3-clause-only
returns-in_err-put_part-3-clause-only g c =
    let old : Seen = g.M.Medium.seen c.args.medium.now in
    let mid : Seen = g.M.Medium.seen c.put_part-2.new.medium in
    let new : Seen = g.M.Medium.seen c.put_part-3.new.medium in
    let p = err_from_is_err_and c.from_residual-in_err-put_part-3.result c.from_residual-in_err-put_part-3.ensures.1 in
    only_refused c.put_part-3.result c.from_residual-in_err-put_part-3.result p.0 old new (c.in_err-put_part-3.was ∙ ap Err (sym p.2)) p.1
    (only_after c.put_part-2.result c.in_ok-put_part-2.field-0 c.put_part-3.result old mid new c.in_ok-put_part-2.was c.put_part-2.ensures.only c.put_part-3.ensures.only)

pub returns-in_err-put_part-clause-cause : goal.returns-in_err-put_part-clause-cause
returns-in_err-put_part-clause-cause g c =
    let old : Seen = g.M.Medium.seen c.args.medium.now in
    let new : Seen = g.M.Medium.seen c.put_part.new.medium in
    let starts : Place → Type 0 = λ q. (q ≡ c.args.at) ⊎ (q ≡ link c.args.sector.now) in
    handed c.from_residual.result c.in_err-put_part.field-0.0 (IsRecordRefused c.args.geometry starts old new) c.from_residual.ensures.1
    (part_refused c.args.geometry starts old new c.args.at c.in_err-put_part.field-0.0 (inl refl) c.in_err-put_part.ensures.cause)

pub returns-in_err-put_part-2-clause-cause : goal.returns-in_err-put_part-2-clause-cause
returns-in_err-put_part-2-clause-cause g c =
    let old : Seen = g.M.Medium.seen c.args.medium.now in
    let new : Seen = g.M.Medium.seen c.put_part-2.new.medium in
    let starts : Place → Type 0 = λ q. (q ≡ c.args.at) ⊎ (q ≡ link c.args.sector.now) in
    handed c.from_residual-in_err-put_part-2.result c.in_err-put_part-2.field-0.0 (IsRecordRefused c.args.geometry starts old new) c.from_residual-in_err-put_part-2.ensures.1
    (part_refused c.args.geometry starts old new c.args.at c.in_err-put_part-2.field-0.0 (inl refl) c.in_err-put_part-2.ensures.cause)
