use Rattle.std.proofs.Common.{◌+◌, ℕ, subst, ◌∙◌, arith}
use Rattle.cbm_medium.specs.Seen.{Seen}
use Rattle.cbm_volume.specs.Growing.{HasGrown, IsGrowthStopped}
use Rattle.std.specs.Prelude.{MatchResult}
use Rattle.cbm_volume.proofs.copied.CopySteps.{handed}
use Rattle.cbm_volume.proofs.grown.GrowingJoined.{CopiesAll, AddsBy, later}
use Rattle.cbm_volume.proofs.grown.GrowingLists.{stop_later}
use Rattle.cbm_medium.proofs.Sequences.{only_after}
use Rattle.cbm_volume.proofs.OneAfterAnother.{second_refused}
use Rattle.cbm_volume.proofs.records.growing_blocks.add_side.Goals as goal

pub returns-in_err-side-clause-added : goal.returns-in_err-side-clause-added
returns-in_err-side-clause-added g c = λ b1 whole c0 d uses n w b s rs o e h.
    let old : Seen = g.M.Medium.seen c.args.medium.now in
    let new : Seen = g.M.Medium.seen c.open_side.new.medium in
    handed c.from_residual.result c.in_err-side.field-0.0 _ (IsGrowthStopped old new c0 o.holds.layout d uses n w rs) c.from_residual.ensures.1 (c.in_err-side.ensures.begun b1 c0 d uses n w b s rs o e h)

pub returns-in_err-copy_sides-clause-added : goal.returns-in_err-copy_sides-clause-added
returns-in_err-copy_sides-clause-added g c = λ b1 whole c0 d uses n w b s rs o e h.
    let old : Seen = g.M.Medium.seen c.args.medium.now in
    let mid : Seen = g.M.Medium.seen c.open_side.new.medium in
    let new : Seen = g.M.Medium.seen c.copy_sides.new.medium in
    let only = c.in_ok-side.ensures.only in
    let begun = c.in_ok-side.ensures.begun b1 c0 d uses n w b s rs o e h in
    handed c.from_residual-in_err-copy_sides.result c.in_err-copy_sides.field-0.0 _ (IsGrowthStopped old new c0 o.holds.layout d uses n w rs) c.from_residual-in_err-copy_sides.ensures.1
    (stop_later old mid new c0 o.holds.layout d uses n w rs c.in_err-copy_sides.field-0.0 only.tracks only.protected only.counted
    (subst (λ (m : ℕ). CopiesAll m mid new c.args.file c.args.geometry c.args.sides c.in_ok-side.side (λ p y. y c.in_err-copy_sides.field-0.0)) only.tracks (λ c1 d1 uses1 n1 w1 b2 s2 bb rs1 q1 o1 e1 h1. c.in_err-copy_sides.ensures.copied bb q1 c1 d1 uses1 n1 w1 b2 s2 rs1 o1 e1 h1) c0 d uses n w b s b1 rs c.args.block o e begun))

pub returns-clause-added : goal.returns-clause-added
returns-clause-added g c = λ b1 whole c0 d uses n w b s rs o e h.
    let old : Seen = g.M.Medium.seen c.args.medium.now in
    let one : Seen = g.M.Medium.seen c.open_side.new.medium in
    let mid : Seen = g.M.Medium.seen c.copy_sides.new.medium in
    let new : Seen = g.M.Medium.seen c.copy_side.new.medium in
    let first = c.in_ok-side.ensures.only in
    let then = c.in_ok-copy_sides.ensures.only in
    let begun = c.in_ok-side.ensures.begun b1 c0 d uses n w b s rs o e h in
    let copied = subst (λ (m : ℕ). CopiesAll m one mid c.args.file c.args.geometry c.args.sides c.in_ok-side.side (λ p y. p)) first.tracks (λ c1 d1 uses1 n1 w1 b2 s2 bb rs1 q1 o1 e1 h1. c.in_ok-copy_sides.ensures.copied bb q1 c1 d1 uses1 n1 w1 b2 s2 rs1 o1 e1 h1) c0 d uses n w b s b1 rs c.args.block o e begun in
    later c.copy_side.result (HasGrown old.tracks c0 d uses n w b s rs o c.args.file new.content (b1 + 1) (c.args.sides + 1) c.args.block) old mid new c0 o.holds.layout d uses n w rs (then.tracks ∙ first.tracks) (then.protected ∙ first.protected) (omega (arith, first.counted, then.counted))
    (subst (λ (m : ℕ). AddsBy m mid new c.args.file c.args.geometry c.args.sides 0 c.in_ok-side.side (λ p y. MatchResult c.copy_side.result (λ x. p) y)) (then.tracks ∙ first.tracks) (λ c1 d1 uses1 n1 w1 b2 s2 bb rs1 q1 o1 e1 h1 zero1 whole1. c.copy_side.ensures.added bb q1 zero1 whole1 c1 d1 uses1 n1 w1 b2 s2 rs1 o1 e1 h1) c0 d uses n w b s b1 rs c.args.block o e copied (λ i. 0) whole)

pub returns-in_err-copy_sides-clause-only : goal.returns-in_err-copy_sides-clause-only
returns-in_err-copy_sides-clause-only g c = second_refused c.from_residual-in_err-copy_sides.result c.in_ok-side.was c.in_err-copy_sides.was c.from_residual-in_err-copy_sides.ensures.1 c.open_side.ensures.only c.copy_sides.ensures.only

pub returns-clause-only : goal.returns-clause-only
returns-clause-only g c = only_after _ _ _ _ _ _ c.in_ok-copy_sides.was (only_after _ _ _ _ _ _ c.in_ok-side.was c.open_side.ensures.only c.copy_sides.ensures.only) c.copy_side.ensures.only
