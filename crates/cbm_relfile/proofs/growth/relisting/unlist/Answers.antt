use Rattle.std.proofs.Common.{◌≡◌, ℕ, ◌+◌, ◌-◌, [], refl, subst, arith, Ok, Err, ap, sym, ◌∙◌}
use Rattle.cbm_medium.specs.Seen.{Seen}
use Rattle.cbm_relfile.specs.Relisting.{IsSideRefused}
use Rattle.cbm_relfile.proofs.Changed.{refused_by}
use Rattle.cbm_medium.proofs.Sequences.{nothing_yet, only_more, only_after, only_refused}
use Rattle.cbm_relfile.proofs.Relisted.{Unlisting, unlisting_begins, side_stopped, no_blocks, unlisted_one}
use Rattle.std.proofs.lemmas.Result.{err_from_is_err_and}
use Rattle.cbm_relfile.proofs.growth.relisting.unlist.Goals as goal

pub loop-passed-init : goal.loop-passed-init
loop-passed-init g c = (
  nothing_yet (g.M.Medium.seen c.args.medium.now),
  λ file xs ss whole laid apart names l. unlisting_begins c.args.geometry (g.M.Medium.seen c.args.medium.now).content file xs ss (c.args.sides - 0) whole laid (omega (arith, l)),
)

-- a side sector isn't written
pub returns-in_err-write_side-clause-unlisted : goal.returns-in_err-write_side-clause-unlisted
returns-in_err-write_side-clause-unlisted g c = λ file xs ss whole laid apart names l.
    let old : Seen = g.M.Medium.seen c.args.medium.now in
    let mid : Seen = g.M.Medium.seen c.loop-passed.medium in
    let new : Seen = g.M.Medium.seen c.write_side.new.medium in
    let i = c.loop-passed.invariant in
    let h = i.1 file xs ss whole laid apart names l in
    let r = side_stopped c.args.geometry old mid new file xs ss (c.args.sides - 1 - c.loop-passed.passed) c.args.head.now c.side_named-side.result c.in_err-write_side.field-0.0.code h.relisted names (omega (arith, l, c.loop-passed-test.true))
    c.side_named-side.ensures i.0.protected i.0.counted (λ has ok. c.in_err-write_side.ensures.listed [] has ok (no_blocks c.args.geometry mid.content c.new.result c.new.ensures)) in
    (r.0, refused_by c.from_residual.result c.in_err-write_side.field-0.0 _ (λ t. IsSideRefused old new t.code) c.from_residual.ensures.1 r.1)

pub loop-passed-preserved : goal.loop-passed-preserved
loop-passed-preserved g c =
    let old : Seen = g.M.Medium.seen c.args.medium.now in
    let mid : Seen = g.M.Medium.seen c.loop-passed.medium in
    let new : Seen = g.M.Medium.seen c.write_side.new.medium in
    let i = c.loop-passed.invariant in (
      only_more _ old mid new i.0 c.in_ok-write_side.ensures.only,
      λ file xs ss whole laid apart names l. (let e : c.args.sides - 1 - c.loop-passed.passed ≡ c.args.sides - (c.loop-passed.passed + 1) = omega arith in
          subst (λ (m : ℕ). Unlisting c.args.geometry old.content new.content file xs ss m) e
          (unlisted_one c.args.geometry old.content mid.content new.content file xs ss (c.args.sides - c.loop-passed.passed) (c.args.sides - 1 - c.loop-passed.passed) c.args.head.now c.side_named-side.result apart laid (i.1 file xs ss whole laid apart names l)
          (omega (arith, c.loop-passed-test.true)) (omega (arith, l, c.loop-passed-test.true)) names c.side_named-side.ensures (λ has ok. (c.in_ok-write_side.ensures.listed [] has ok (no_blocks c.args.geometry mid.content c.new.result c.new.ensures)).0))),
    )

pub returns-clause-unlisted : goal.returns-clause-unlisted
returns-clause-unlisted g c = λ file xs ss whole laid apart names l.
    let h = c.loop-passed.invariant.1 file xs ss whole laid apart names l in
    (h.relisted, λ i k. h.afterwards i (omega (arith, c.loop-passed-test.false)) k)

pub returns-in_err-write_side-clause-only : goal.returns-in_err-write_side-clause-only
returns-in_err-write_side-clause-only g c =
    let old : Seen = g.M.Medium.seen c.args.medium.now in
    let mid : Seen = g.M.Medium.seen c.loop-passed.medium in
    let new : Seen = g.M.Medium.seen c.write_side.new.medium in
    let p = err_from_is_err_and c.from_residual.result c.from_residual.ensures.1 in
    only_refused c.write_side.result c.from_residual.result p.0 old new (c.in_err-write_side.was ∙ ap Err (sym p.2)) p.1
    (only_after (Ok tt) tt c.write_side.result old mid new refl c.loop-passed.invariant.0 c.write_side.ensures.only)
