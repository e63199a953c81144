use Rattle.std.proofs.Common.{rules, ◌≡◌, ◌∷◌, ◌++◌, [], refl, subst}
use Rattle.cbm_bam.specs.Marks.{is_marked}
use Rattle.cbm_shell.specs.Flaws.{chain_from}
use Rattle.cbm_shell.specs.FlawSteps.{IsWalked}
use Rattle.cbm_shell.proofs.FlawLemmas.{not_true, not_false, relative_none, relative_cut, relative_on}
use Rattle.cbm_shell.proofs.broken.flaws.files.walk_relative.Goals as goal

pub returns-then-is_end : goal.returns-then-is_end
returns-then-is_end g c =
    let pushed : c.push.new.self.items ≡ c.args.found.now.flaws.items ++ c.flawed.result ∷ [] = search rules in
    relative_none c.args.whose c.args.geometry (g.M.Medium.seen c.args.volume.now).content (is_marked c.args.found.now.claimed) c.args.entry.now c.first_block-first.result c.flawed.result c.args.found.now.flaws.items c.push.new.self.items
    c.first_block-first.ensures (c.if-is_end.ensures.0 refl) c.flawed.ensures pushed

pub returns-then-not-way : goal.returns-then-not-way
returns-then-not-way g c =
    relative_cut c.args.whose c.args.geometry (g.M.Medium.seen c.args.volume.now).content (is_marked c.args.found.now.claimed) (is_marked c.walk.new.found.claimed) c.args.entry.now c.first_block-first.result
    c.args.found.now.flaws.items c.walk.new.found.flaws.items c.in_ok-way.way.is_whole c.first_block-first.ensures (λ z. let f = c.if-is_end.ensures.1 z in cc)
    (subst (λ m. IsWalked (chain_from c.args.whose c.args.geometry (g.M.Medium.seen m).content (is_marked c.args.found.now.claimed) c.first_block-first.result) (is_marked c.walk.new.found.claimed) c.args.found.now.flaws.items c.walk.new.found.flaws.items c.in_ok-way.way.is_whole)
    c.medium.ensures c.in_ok-way.ensures.walked)
    (not_true c.in_ok-way.way.is_whole c.if-not-way.true)

pub returns : goal.returns
returns g c =
    relative_on c.walk_sides.result c.args.whose c.args.geometry (g.M.Medium.seen c.args.volume.now).content (is_marked c.args.found.now.claimed) (is_marked c.walk.new.found.claimed) (is_marked c.walk_sides.new.found.claimed) c.args.entry.now
    c.first_block-first.result c.args.found.now.flaws.items c.walk.new.found.flaws.items c.walk_sides.new.found.flaws.items c.in_ok-way.way.is_whole c.first_block-first.ensures (λ z. let f = c.if-is_end.ensures.1 z in cc)
    (subst (λ m. IsWalked (chain_from c.args.whose c.args.geometry (g.M.Medium.seen m).content (is_marked c.args.found.now.claimed) c.first_block-first.result) (is_marked c.walk.new.found.claimed) c.args.found.now.flaws.items c.walk.new.found.flaws.items c.in_ok-way.way.is_whole)
    c.medium.ensures c.in_ok-way.ensures.walked)
    (not_false c.in_ok-way.way.is_whole c.if-not-way.false) c.walk_sides.ensures
