use Rattle.std.proofs.Common.{◌∷◌, subst, refl, sym, ap, false}
use Rattle.cbm_medium.specs.Links.{bytes_at}
use Rattle.cbm_bam.specs.Marks.{is_marked}
use Rattle.cbm_volume.specs.check.Claims.{wrong_at}
use Rattle.cbm_volume.specs.check.SideLists.{after_the_first, sides_from}
use Rattle.cbm_shell.specs.Flaws.{among, part_of, flawed, flaws_for}
use Rattle.cbm_shell.specs.FlawSteps.{IsStep}
use Rattle.cbm_shell.proofs.FlawLemmas.{stopped, went, among-on, among-off, only, before_walk}
use Rattle.cbm_shell.proofs.broken.flaws.sides.walk_all.Goals as goal

pub returns-in_default : goal.returns-in_default
returns-in_default g c =
    let content = (g.M.Medium.seen c.args.medium.now).content in
    let wrong = wrong_at (part_of c.args.whose) c.args.geometry content (is_marked c.args.found.now.claimed) c.args.first in
    let flaw = flawed c.args.whose 0 c.args.first in
    let s = stopped wrong flaw content c.args.first (is_marked c.args.found.now.claimed) (is_marked c.step.new.found.claimed) c.args.found.now.flaws.items c.step.new.found.flaws.items
    (subst (λ o. IsStep wrong flaw content c.args.first (is_marked c.args.found.now.claimed) (is_marked c.step.new.found.claimed) c.args.found.now.flaws.items c.step.new.found.flaws.items o) c.in_default.is c.in_ok-bytes.ensures) in
    only _ c.args.found.now.flaws.items c.step.new.found.flaws.items (flaws_for wrong flaw) (is_marked c.step.new.found.claimed) false
    (among-off c.args.whose c.args.geometry content (is_marked c.args.found.now.claimed) (is_marked c.step.new.found.claimed) c.args.first (sides_from content c.args.first) (after_the_first (bytes_at content c.args.first)) refl s.0 s.1)
    c.in_ok-bytes.ensures.adds

pub returns : goal.returns
returns g c =
    let content = (g.M.Medium.seen c.args.medium.now).content in
    let wrong = wrong_at (part_of c.args.whose) c.args.geometry content (is_marked c.args.found.now.claimed) c.args.first in
    let flaw = flawed c.args.whose 0 c.args.first in
    let w = went wrong flaw content c.args.first (is_marked c.args.found.now.claimed) (is_marked c.step.new.found.claimed) c.args.found.now.flaws.items c.step.new.found.flaws.items c.in-Some.bytes
    (subst (λ o. IsStep wrong flaw content c.args.first (is_marked c.args.found.now.claimed) (is_marked c.step.new.found.claimed) c.args.found.now.flaws.items c.step.new.found.flaws.items o) c.in-Some.is c.in_ok-bytes.ensures) in
    before_walk c.walk_listed.result (among c.args.whose c.args.geometry content (is_marked c.step.new.found.claimed) (after_the_first c.in-Some.bytes)) _ (flaws_for wrong flaw) c.args.found.now.flaws.items c.step.new.found.flaws.items
    c.walk_listed.new.found.flaws.items c.args.first (is_marked c.walk_listed.new.found.claimed)
    (among-on c.args.whose c.args.geometry content (is_marked c.args.found.now.claimed) (is_marked c.step.new.found.claimed) c.args.first (sides_from content c.args.first) (after_the_first c.in-Some.bytes)
    (ap (λ b. c.args.first ∷ after_the_first b) (sym w.1)) w.0 w.2)
    c.in_ok-bytes.ensures.adds c.walk_listed.ensures
