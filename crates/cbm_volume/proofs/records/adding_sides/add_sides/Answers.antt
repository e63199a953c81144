use Rattle.std.proofs.Common.{◌≡◌, ℕ, ◌+◌, ◌-◌, ◌/◌, ◌≤◌, sym, subst, arith, refl}
use Rattle.std.proofs.Math.Nat.{max-eq_left, max-eq_right}
use Rattle.cbm_medium.proofs.Sequences.{nothing_yet, only_more}
use Rattle.cbm_medium.specs.Seen.{Seen}
use Rattle.cbm_file.specs.Records.{sides_for}
use Rattle.cbm_volume.specs.AddingSides.{HasSides}
use Rattle.cbm_volume.specs.Growing.{IsGrowthStopped}
use Rattle.cbm_volume.proofs.copied.CopySteps.{handed}
use Rattle.cbm_volume.proofs.grown.SidesAnswers.{OfRoomFor, OfSides, ok_then, stop_then, room_there, some_side}
use Rattle.cbm_volume.proofs.OneAfterAnother.{second_refused}
use Rattle.cbm_volume.proofs.records.adding_sides.add_sides.Goals as goal

-- a sound file has one
pub returns-then-sides-eq0-clause-added : goal.returns-then-sides-eq0-clause-added
returns-then-sides-eq0-clause-added g c = λ c0 d uses n w b s rs o e h.
    let old : Seen = g.M.Medium.seen c.args.medium.now in
    absurd (let some = some_side old.tracks c0 d uses n w b s rs o c.args.file old.content c.args.sides h.0 in omega (arith, some, c.if-sides-eq0.true))

-- they are enough
pub returns-then-all-sides-clause-added : goal.returns-then-all-sides-clause-added
returns-then-all-sides-clause-added g c = λ c0 d uses n w b s rs o e h. (sym (max-eq_left {n = c.args.sides} {m = (c.args.blocks + 119) / 120} (omega (arith, c.if-all-sides.true))), h.0)

pub loop-number-init : goal.loop-number-init
loop-number-init g c = (λ c0 d uses n w b s rs o e h. h, nothing_yet (g.M.Medium.seen c.args.medium.now), omega arith)

-- one isn't added
pub returns-in_err-add_empty-clause-added : goal.returns-in_err-add_empty-clause-added
returns-in_err-add_empty-clause-added g c = λ c0 d uses n w b s rs o e h.
    let old : Seen = g.M.Medium.seen c.args.medium.now in
    let mid : Seen = g.M.Medium.seen c.loop-number.medium in
    let new : Seen = g.M.Medium.seen c.add_empty.new.medium in
    let i = c.loop-number.invariant in
    let all : ℕ = (c.args.blocks + 119) / 120 in
    let size : sides_for c.args.sides c.args.blocks ≡ all = max-eq_right {n = c.args.sides} {m = all} (omega (arith, c.if-all-sides.false)) in
    handed c.from_residual.result c.in_err-add_empty.field-0.0 _ (IsGrowthStopped old new c0 o.holds.layout d uses n w rs) c.from_residual.ensures.1
    (stop_then old mid new c.args.geometry c.in_err-add_empty.field-0.0 (OfRoomFor c.args.file c.args.sides all) (OfRoomFor c.args.file c.loop-number.number all) (OfSides c.args.file (c.loop-number.number + 1)) i.1.tracks i.1.protected i.1.counted i.0
    (λ c1 d1 uses1 n1 w1 b1 s1 rs1 o1 e1 h1. c.in_err-add_empty.ensures.added c1 d1 uses1 n1 w1 b1 s1 rs1 o1 e1 (h1.0, room_there mid.tracks c1 d1 uses1 n1 w1 b1 s1 rs1 o1 c.args.file mid.content c.loop-number.number all h1 c.loop-number-test.true))
    c0 d uses n w b s rs o e (h.0, subst (λ (m : ℕ). m - s ≤ d.free) size h.1))

pub loop-number-preserved : goal.loop-number-preserved
loop-number-preserved g c =
    let old : Seen = g.M.Medium.seen c.args.medium.now in
    let mid : Seen = g.M.Medium.seen c.loop-number.medium in
    let new : Seen = g.M.Medium.seen c.add_empty.new.medium in
    let i = c.loop-number.invariant in
    let all : ℕ = (c.args.blocks + 119) / 120 in (
      ok_then old mid new c.args.geometry (OfRoomFor c.args.file c.args.sides all) (OfRoomFor c.args.file c.loop-number.number all) (OfRoomFor c.args.file (c.loop-number.number + 1) all) i.1.tracks i.0
          (λ c1 d1 uses1 n1 w1 b1 s1 rs1 o1 e1 h1. (c.in_ok-add_empty.ensures.added c1 d1 uses1 n1 w1 b1 s1 rs1 o1 e1 (h1.0, room_there mid.tracks c1 d1 uses1 n1 w1 b1 s1 rs1 o1 c.args.file mid.content c.loop-number.number all h1 c.loop-number-test.true), h1.1)),
      only_more c.in_ok-add_empty.field-0 old mid new i.1 c.in_ok-add_empty.ensures.only,
      omega (arith, i.2),
    )

pub returns-clause-added : goal.returns-clause-added
returns-clause-added g c = λ c0 d uses n w b s rs o e h.
    let old : Seen = g.M.Medium.seen c.args.medium.now in
    let new : Seen = g.M.Medium.seen c.loop-number.medium in
    let all : ℕ = (c.args.blocks + 119) / 120 in
    let size : sides_for c.args.sides c.args.blocks ≡ all = max-eq_right {n = c.args.sides} {m = all} (omega (arith, c.if-all-sides.false)) in
    let last : c.loop-number.number ≡ all = omega (arith, c.loop-number-test.false, c.loop-number.auto.number-end) in
    let done = c.loop-number.invariant.0 c0 d uses n w b s rs o e (h.0, subst (λ (m : ℕ). m - s ≤ d.free) size h.1) in
    (sym size, subst (λ (k : ℕ). HasSides old.tracks c0 d uses n w b s rs o c.args.file new.content k) last done.0)

pub returns-in_err-add_empty-clause-only : goal.returns-in_err-add_empty-clause-only
returns-in_err-add_empty-clause-only g c = second_refused c.from_residual.result refl c.in_err-add_empty.was c.from_residual.ensures.1 c.loop-number.invariant.1 c.add_empty.ensures.only
