use Rattle.std.proofs.Common.{◌*◌, drop, refl, arith, Ok, Err, ap, sym, ◌∙◌}
use Rattle.cbm_medium.specs.Seen.{Seen}
use Rattle.cbm_relfile.specs.Relisting.{IsSideRefused}
use Rattle.cbm_relfile.proofs.Changed.{refused_by}
use Rattle.cbm_medium.proofs.Sequences.{nothing_yet, only_more, only_after, only_refused}
use Rattle.cbm_relfile.proofs.Relisted.{relisting_begins, side_stopped, relisted_one}
use Rattle.std.proofs.lemmas.Result.{err_from_is_err_and}
use Rattle.cbm_relfile.proofs.growth.relisting.relist.Goals as goal

pub loop-number-init : goal.loop-number-init
loop-number-init g c = (
  nothing_yet (g.M.Medium.seen c.args.medium.now),
  λ file xs ss whole laid apart first names l none. relisting_begins c.args.geometry (g.M.Medium.seen c.args.medium.now).content file xs ss c.args.first whole laid first none,
)

-- a side sector isn't written
pub returns-in_err-at-clause-relisted : goal.returns-in_err-at-clause-relisted
returns-in_err-at-clause-relisted g c = λ file xs ss whole laid apart first names l none.
    let old : Seen = g.M.Medium.seen c.args.medium.now in
    let mid : Seen = g.M.Medium.seen c.loop-number.medium in
    let new : Seen = g.M.Medium.seen c.write_side.new.medium in
    let i = c.loop-number.invariant in
    let h = i.1 file xs ss whole laid apart first names l none in
    let r = side_stopped c.args.geometry old mid new file xs ss c.loop-number.number c.args.head.now c.side_named.result c.in_err-at.field-0.0.code h.relisted names (omega (arith, l, c.loop-number-test.true))
    c.side_named.ensures i.0.protected i.0.counted (λ has ok. c.in_err-at.ensures.listed (drop (120 * c.loop-number.number) xs) has ok h.chain) in
    (r.0, refused_by c.from_residual.result c.in_err-at.field-0.0 _ (λ t. IsSideRefused old new t.code) c.from_residual.ensures.1 r.1)

pub loop-number-preserved : goal.loop-number-preserved
loop-number-preserved g c =
    let old : Seen = g.M.Medium.seen c.args.medium.now in
    let mid : Seen = g.M.Medium.seen c.loop-number.medium in
    let new : Seen = g.M.Medium.seen c.write_side.new.medium in
    let i = c.loop-number.invariant in (
      only_more _ old mid new i.0 c.in_ok-at.ensures.only,
      λ file xs ss whole laid apart first names l none. (let h = i.1 file xs ss whole laid apart first names l none in
          relisted_one c.args.geometry old.content mid.content new.content file xs ss c.loop-number.number c.loop-number.at c.in_ok-at.at c.args.head.now c.side_named.result apart h (omega (arith, l, c.loop-number-test.true)) names c.side_named.ensures
          (λ has ok. c.in_ok-at.ensures.listed (drop (120 * c.loop-number.number) xs) has ok h.chain)),
    )

pub returns-clause-relisted : goal.returns-clause-relisted
returns-clause-relisted g c = λ file xs ss whole laid apart first names l none.
    let h = c.loop-number.invariant.1 file xs ss whole laid apart first names l none in
    (h.relisted, λ i k. h.before i (omega (arith, c.loop-number-test.false, l, k)) k)

pub returns-in_err-at-clause-only : goal.returns-in_err-at-clause-only
returns-in_err-at-clause-only g c =
    let old : Seen = g.M.Medium.seen c.args.medium.now in
    let mid : Seen = g.M.Medium.seen c.loop-number.medium in
    let new : Seen = g.M.Medium.seen c.write_side.new.medium in
    let p = err_from_is_err_and c.from_residual.result c.from_residual.ensures.1 in
    only_refused c.write_side.result c.from_residual.result p.0 old new (c.in_err-at.was ∙ ap Err (sym p.2)) p.1
    (only_after (Ok tt) tt c.write_side.result old mid new refl c.loop-number.invariant.0 c.write_side.ensures.only)
