use Rattle.std.proofs.Common.{rules, ◌≡◌, ℕ, ◌+◌, ◌-◌, ◌∷◌, ◌++◌, [], Option, true, false, sym, subst, arith, append-nil, refl}
use Rattle.cbm_medium.specs.Content.{Content}
use Rattle.cbm_bam.specs.Marks.{is_marked}
use Rattle.cbm_volume.specs.check.Claims.{wrong_at}
use Rattle.cbm_shell.specs.Flaws.{flaws_along, part_of, flawed, flaws_for, cut_off}
use Rattle.cbm_shell.specs.FlawSteps.{IsStep}
use Rattle.cbm_shell.proofs.FlawLemmas.{over, one_more, no_blocks, more_blocks, along-end, along-none, along-on, along-off, stopped, went}
use Rattle.cbm_shell.proofs.broken.flaws.chains.walk.Given.{Over}
use Rattle.cbm_shell.proofs.broken.flaws.chains.walk.Goals as goal

pub returns-then-is_end-clause-walked : goal.returns-then-is_end-clause-walked
returns-then-is_end-clause-walked g c =
    let end = along-end c.args.whose c.args.geometry (g.M.Medium.seen c.args.medium.now).content (768 - c.loop-before.before) (768 - (c.loop-before.before + 1)) c.loop-before.before
    (is_marked c.loop-before.found.claimed) c.loop-before.at (omega (arith, c.loop-before-test.true)) (c.if-is_end.ensures.0 refl) in
    over _ _ c.args.found.now.flaws.items c.loop-before.found.flaws.items c.loop-before.found.flaws.items [] (is_marked c.loop-before.found.claimed) true c.loop-before.invariant.0 end (sym (append-nil c.loop-before.found.flaws.items))

pub returns-then-is_end-clause-blocks : goal.returns-then-is_end-clause-blocks
returns-then-is_end-clause-blocks g c =
    let end = along-end c.args.whose c.args.geometry (g.M.Medium.seen c.args.medium.now).content (768 - c.loop-before.before) (768 - (c.loop-before.before + 1)) c.loop-before.before
    (is_marked c.loop-before.found.claimed) c.loop-before.at (omega (arith, c.loop-before-test.true)) (c.if-is_end.ensures.0 refl) in
    no_blocks c.loop-before.blocks.items _ _ (is_marked c.loop-before.found.claimed) [] true c.loop-before.invariant.1 end

-- the walk ends at this sector
module _ (g : Over) (c : goal.In_default g) where
  abbrev pub content : Content
  content = (g.M.Medium.seen c.args.medium.now).content

  abbrev pub wrong : Option ℕ
  wrong = wrong_at (part_of c.args.whose) c.args.geometry content (is_marked c.loop-before.found.claimed) c.loop-before.at

  pub stops : flaws_along c.args.whose c.args.geometry content (768 - c.loop-before.before) c.loop-before.before (is_marked c.loop-before.found.claimed) c.loop-before.at
      ≡ cut_off (is_marked c.step.new.found.claimed) (flaws_for wrong (flawed c.args.whose c.loop-before.before c.loop-before.at))
  stops =
      let s = stopped wrong (flawed c.args.whose c.loop-before.before c.loop-before.at) content c.loop-before.at (is_marked c.loop-before.found.claimed) (is_marked c.step.new.found.claimed) c.loop-before.found.flaws.items c.step.new.found.flaws.items
      (subst (λ o. IsStep wrong (flawed c.args.whose c.loop-before.before c.loop-before.at) content c.loop-before.at (is_marked c.loop-before.found.claimed) (is_marked c.step.new.found.claimed) c.loop-before.found.flaws.items c.step.new.found.flaws.items o) c.in_default.is c.in_ok-bytes.ensures) in
      along-off c.args.whose c.args.geometry content (768 - c.loop-before.before) (768 - (c.loop-before.before + 1)) c.loop-before.before (is_marked c.loop-before.found.claimed) (is_marked c.step.new.found.claimed) c.loop-before.at
      (omega (arith, c.loop-before-test.true)) (λ z. let f = c.if-is_end.ensures.1 z in cc) s.0 s.1

pub returns-in_default-clause-walked : goal.returns-in_default-clause-walked
returns-in_default-clause-walked g c =
    over _ _ c.args.found.now.flaws.items c.loop-before.found.flaws.items c.step.new.found.flaws.items (flaws_for (wrong g c) (flawed c.args.whose c.loop-before.before c.loop-before.at)) (is_marked c.step.new.found.claimed) false
    c.loop-before.invariant.0 (stops g c) c.in_ok-bytes.ensures.adds

pub returns-in_default-clause-blocks : goal.returns-in_default-clause-blocks
returns-in_default-clause-blocks g c =
    no_blocks c.loop-before.blocks.items _ _ (is_marked c.step.new.found.claimed) (flaws_for (wrong g c) (flawed c.args.whose c.loop-before.before c.loop-before.at)) false c.loop-before.invariant.1 (stops g c)

pub loop-before-preserved : goal.loop-before-preserved
loop-before-preserved g c =
    let content = (g.M.Medium.seen c.args.medium.now).content in
    let wrong = wrong_at (part_of c.args.whose) c.args.geometry content (is_marked c.loop-before.found.claimed) c.loop-before.at in
    let flaw = flawed c.args.whose c.loop-before.before c.loop-before.at in
    let w = went wrong flaw content c.loop-before.at (is_marked c.loop-before.found.claimed) (is_marked c.step.new.found.claimed) c.loop-before.found.flaws.items c.step.new.found.flaws.items c.in-Some.bytes
    (subst (λ o. IsStep wrong flaw content c.loop-before.at (is_marked c.loop-before.found.claimed) (is_marked c.step.new.found.claimed) c.loop-before.found.flaws.items c.step.new.found.flaws.items o) c.in-Some.is c.in_ok-bytes.ensures) in
    let on = along-on c.args.whose c.args.geometry content (768 - c.loop-before.before) (768 - (c.loop-before.before + 1)) c.loop-before.before (is_marked c.loop-before.found.claimed) (is_marked c.step.new.found.claimed)
    c.loop-before.at c.of-at.result c.in-Some.bytes (omega (arith, c.loop-before-test.true)) (λ z. let f = c.if-is_end.ensures.1 z in cc) w.0 w.1 w.2 c.of-at.ensures in
    let pushed : c.push.new.self.items ≡ c.loop-before.blocks.items ++ c.loop-before.at ∷ [] = search rules in (
      one_more _ _ _ c.args.found.now.flaws.items c.loop-before.found.flaws.items c.step.new.found.flaws.items (flaws_for wrong flaw) c.loop-before.at c.loop-before.invariant.0 on c.in_ok-bytes.ensures.adds,
      more_blocks c.loop-before.blocks.items c.push.new.self.items _ _ _ (flaws_for wrong flaw) c.loop-before.at c.loop-before.invariant.1 on pushed,
      search rules,
    )

pub returns-clause-walked : goal.returns-clause-walked
returns-clause-walked g c =
    let end = along-none c.args.whose c.args.geometry (g.M.Medium.seen c.args.medium.now).content (768 - c.loop-before.before) c.loop-before.before
    (is_marked c.loop-before.found.claimed) c.loop-before.at (omega (arith, c.loop-before-test.false)) in
    over _ _ c.args.found.now.flaws.items c.loop-before.found.flaws.items c.loop-before.found.flaws.items [] (is_marked c.loop-before.found.claimed) false c.loop-before.invariant.0 end (sym (append-nil c.loop-before.found.flaws.items))

pub returns-clause-blocks : goal.returns-clause-blocks
returns-clause-blocks g c =
    let end = along-none c.args.whose c.args.geometry (g.M.Medium.seen c.args.medium.now).content (768 - c.loop-before.before) c.loop-before.before
    (is_marked c.loop-before.found.claimed) c.loop-before.at (omega (arith, c.loop-before-test.false)) in
    no_blocks c.loop-before.blocks.items _ _ (is_marked c.loop-before.found.claimed) [] false c.loop-before.invariant.1 end
