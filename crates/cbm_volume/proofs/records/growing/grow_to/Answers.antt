use Rattle.std.proofs.Common.{◌≡◌, ◌≤◌, ◌+◌, ◌-◌, ℕ, sym, ap, subst, ◌∙◌, arith}
use Rattle.cbm_medium.specs.Seen.{Seen}
use Rattle.cbm_file.specs.Records.{sides_for}
use Rattle.cbm_bam.specs.Map.{geometry_of}
use Rattle.cbm_volume.specs.Growing.{HasGrown, IsGrowthStopped}
use Rattle.cbm_volume.proofs.copied.CopySteps.{handed}
use Rattle.cbm_volume.proofs.grown.GrowingEnds.{told_ends}
use Rattle.cbm_volume.proofs.grown.GrowingJoined.{BlocksBy}
use Rattle.cbm_volume.proofs.grown.GrowingLists.{stop_later}
use Rattle.cbm_volume.proofs.grown.GrowthBegun.{sides_room, sides_twice}
use Rattle.cbm_volume.proofs.layouts.OnDisks.{of_tracks}
use Rattle.cbm_volume.proofs.OneAfterAnother.{after_done, second_refused}
use Rattle.cbm_volume.proofs.records.growing.grow_to.Goals as goal

-- the growth didn't begin
pub returns-in_err-from-clause-grown : goal.returns-in_err-from-clause-grown
returns-in_err-from-clause-grown g c = λ d uses w rs o is free.
    let old : Seen = g.M.Medium.seen c.args.medium.now in
    let new : Seen = g.M.Medium.seen c.begin_growth.new.medium in
    handed c.from_residual.result c.in_err-from.field-0.0 _ (IsGrowthStopped old new old.content o.holds.layout d uses c.args.slot w rs) c.from_residual.ensures.1
    (c.in_err-from.ensures.begun c.args.slot c.geometry-geometry.ensures.value d uses w rs o is (sides_room c.args.extent.sides c.args.extent.blocks c.args.blocks d.free c.requires.blocks.1 free))

-- a write of a block was refused
pub returns-in_err-reach-clause-grown : goal.returns-in_err-reach-clause-grown
returns-in_err-reach-clause-grown g c = λ d uses w rs o is free.
    let old : Seen = g.M.Medium.seen c.args.medium.now in
    let mid : Seen = g.M.Medium.seen c.begin_growth.new.medium in
    let new : Seen = g.M.Medium.seen c.grow_blocks.new.medium in
    let only = c.in_ok-from.ensures.only in
    let b : ℕ = c.args.extent.blocks in
    let s : ℕ = c.args.extent.sides in
    let k = c.in_ok-from.ensures.begun c.args.slot c.geometry-geometry.ensures.value d uses w rs o is (sides_room s b c.args.blocks d.free c.requires.blocks.1 free) in
    let at : c.in_ok-from.from.blocks ≡ b = c.in_ok-from.ensures.bound.0 in
    let begun = subst (λ (m : ℕ). HasGrown old.tracks old.content d uses c.args.slot w b s rs o c.args.file mid.content m c.in_ok-from.from.sides c.in_ok-from.from.last) (sym at) k.1 in
    let same : c.geometry-geometry.result ≡ geometry_of old.tracks old.content = c.geometry-geometry.ensures.value in
    let all : c.args.blocks ≡ c.in_ok-from.from.blocks + (c.args.blocks - b) = omega (arith, c.requires.blocks.1, at) in
    let twice : sides_for c.in_ok-from.from.sides c.args.blocks ≡ sides_for s c.args.blocks = ap (λ (m : ℕ). sides_for m c.args.blocks) k.0 ∙ sides_twice s b c.args.blocks c.requires.blocks.1 in
    let free2 : c.args.blocks + sides_for c.in_ok-from.from.sides c.args.blocks - (b + s) ≤ d.free = subst (λ (m : ℕ). c.args.blocks + m - (b + s) ≤ d.free) (sym twice) free in
    handed c.from_residual-in_err-reach.result c.in_err-reach.field-0.0 _ (IsGrowthStopped old new old.content o.holds.layout d uses c.args.slot w rs) c.from_residual-in_err-reach.ensures.1
    (stop_later old mid new old.content o.holds.layout d uses c.args.slot w rs c.in_err-reach.field-0.0 only.tracks only.protected only.counted
    (subst (λ (m : ℕ). BlocksBy m mid new c.args.file c.geometry-geometry.result c.in_ok-from.from.blocks c.in_ok-from.from.sides c.in_ok-from.from.last (c.args.blocks - b) 0 c.in_ok-from.from.last (λ p q. q c.in_err-reach.field-0.0)) only.tracks (λ c1 d1 uses1 n1 w1 b2 s2 rs1 o1 e1 h1 room1. c.in_err-reach.ensures.grown c1 d1 uses1 n1 w1 b2 s2 rs1 o1 e1 (h1, room1))
    old.content d uses c.args.slot w b s rs o same begun (subst (λ (j : ℕ). j + sides_for c.in_ok-from.from.sides j - (b + s) ≤ d.free) all free2)))

pub returns-clause-grown : goal.returns-clause-grown
returns-clause-grown g c = λ d uses w rs o is free.
    let old : Seen = g.M.Medium.seen c.args.medium.now in
    let one : Seen = g.M.Medium.seen c.begin_growth.new.medium in
    let mid : Seen = g.M.Medium.seen c.grow_blocks.new.medium in
    let new : Seen = g.M.Medium.seen c.tell_blocks.new.medium in
    let first = c.in_ok-from.ensures.only in
    let then = c.in_ok-reach.ensures.only in
    let b : ℕ = c.args.extent.blocks in
    let s : ℕ = c.args.extent.sides in
    let k = c.in_ok-from.ensures.begun c.args.slot c.geometry-geometry.ensures.value d uses w rs o is (sides_room s b c.args.blocks d.free c.requires.blocks.1 free) in
    let at : c.in_ok-from.from.blocks ≡ b = c.in_ok-from.ensures.bound.0 in
    let begun = subst (λ (m : ℕ). HasGrown old.tracks old.content d uses c.args.slot w b s rs o c.args.file one.content m c.in_ok-from.from.sides c.in_ok-from.from.last) (sym at) k.1 in
    let same : c.geometry-geometry.result ≡ geometry_of old.tracks old.content = c.geometry-geometry.ensures.value in
    let all : c.args.blocks ≡ c.in_ok-from.from.blocks + (c.args.blocks - b) = omega (arith, c.requires.blocks.1, at) in
    let twice : sides_for c.in_ok-from.from.sides c.args.blocks ≡ sides_for s c.args.blocks = ap (λ (m : ℕ). sides_for m c.args.blocks) k.0 ∙ sides_twice s b c.args.blocks c.requires.blocks.1 in
    let free2 : c.args.blocks + sides_for c.in_ok-from.from.sides c.args.blocks - (b + s) ≤ d.free = subst (λ (m : ℕ). c.args.blocks + m - (b + s) ≤ d.free) (sym twice) free in
    let grown = subst (λ (m : ℕ). BlocksBy m one mid c.args.file c.geometry-geometry.result c.in_ok-from.from.blocks c.in_ok-from.from.sides c.in_ok-from.from.last (c.args.blocks - b) c.in_ok-reach.reach.sides c.in_ok-reach.reach.last (λ p q. p)) first.tracks (λ c1 d1 uses1 n1 w1 b2 s2 rs1 o1 e1 h1 room1. c.in_ok-reach.ensures.grown c1 d1 uses1 n1 w1 b2 s2 rs1 o1 e1 (h1, room1))
    old.content d uses c.args.slot w b s rs o same begun (subst (λ (j : ℕ). j + sides_for c.in_ok-from.from.sides j - (b + s) ≤ d.free) all free2) in
    let here = subst (λ (j : ℕ). HasGrown old.tracks old.content d uses c.args.slot w b s rs o c.args.file mid.content j c.in_ok-reach.reach.sides c.in_ok-reach.reach.last) (sym all) grown.1 in
    let sides : c.in_ok-reach.reach.sides ≡ sides_for s c.args.blocks = grown.0 ∙ ap (sides_for c.in_ok-from.from.sides) (sym all) ∙ twice in
    let sized : c.geometry-geometry.result ≡ geometry_of mid.tracks mid.content = same ∙ sym here.same ∙ ap (λ (m : ℕ). geometry_of m mid.content) (sym (then.tracks ∙ first.tracks)) in
    told_ends old mid new d uses c.args.slot w b s rs o c.args.file c.args.blocks c.in_ok-reach.reach.sides c.in_ok-reach.reach.last here (then.tracks ∙ first.tracks) (then.protected ∙ first.protected) (omega (arith, first.counted, then.counted))
    c.tell_blocks.result (c.in_ok-reach.reach.blocks + c.in_ok-reach.reach.sides) (omega (arith, all, c.in_ok-reach.ensures.bound.0)) sides (c.tell_blocks.ensures.told sized) (c.tell_blocks.ensures.elsewhere sized) (c.tell_blocks.ensures.entries sized)

pub returns-in_err-reach-clause-only : goal.returns-in_err-reach-clause-only
returns-in_err-reach-clause-only g c =
    of_tracks c.geometry-geometry.result c.from_residual-in_err-reach.result (g.M.Medium.seen c.args.medium.now) (g.M.Medium.seen c.grow_blocks.new.medium) c.geometry-geometry.ensures.value
    (second_refused c.from_residual-in_err-reach.result c.in_ok-from.was c.in_err-reach.was c.from_residual-in_err-reach.ensures.1 c.begin_growth.ensures.only c.grow_blocks.ensures.only)

pub returns-clause-only : goal.returns-clause-only
returns-clause-only g c =
    of_tracks c.geometry-geometry.result c.tell_blocks.result (g.M.Medium.seen c.args.medium.now) (g.M.Medium.seen c.tell_blocks.new.medium) c.geometry-geometry.ensures.value
    (after_done c.in_ok-reach.was (after_done c.in_ok-from.was c.begin_growth.ensures.only c.grow_blocks.ensures.only) c.tell_blocks.ensures.only)
