use Rattle.std.proofs.Common.{sym, ap, subst}
use Rattle.cbm_bam.specs.Marks.{is_marked}
use Rattle.cbm_bam.specs.Map.{geometry_of}
use Rattle.cbm_volume.specs.check.SideLists.{are_records, sides_from}
use Rattle.cbm_shell.specs.Flaws.{among}
use Rattle.cbm_shell.specs.FlawSteps.{IsWalked}
use Rattle.cbm_shell.proofs.FlawLemmas.{sides_done}
use Rattle.cbm_shell.proofs.broken.flaws.sides.walk_sides.Goals as goal

pub returns : goal.returns
returns g c =
    let now = g.M.Medium.seen c.args.volume.now in
    sides_done c.add_mislisted.result c.args.whose c.args.geometry now.content (is_marked c.args.found.now.claimed) (is_marked c.walk_all.new.found.claimed) c.args.entry.now c.args.found.now.flaws.items c.walk_all.new.found.flaws.items
    c.add_mislisted.new.out.items c.in_ok-is_whole.is_whole (are_records (geometry_of now.tracks now.content) now.content c.args.entry.now)
    (subst (λ p. IsWalked (among c.args.whose c.args.geometry now.content (is_marked c.args.found.now.claimed) (sides_from now.content p)) (is_marked c.walk_all.new.found.claimed) c.args.found.now.flaws.items c.walk_all.new.found.flaws.items c.in_ok-is_whole.is_whole)
    c.first_side.ensures
    (subst (λ m. IsWalked (among c.args.whose c.args.geometry (g.M.Medium.seen m).content (is_marked c.args.found.now.claimed) (sides_from (g.M.Medium.seen m).content c.first_side.result)) (is_marked c.walk_all.new.found.claimed) c.args.found.now.flaws.items c.walk_all.new.found.flaws.items c.in_ok-is_whole.is_whole)
    c.medium.ensures c.in_ok-is_whole.ensures))
    (ap (λ t. are_records t now.content c.args.entry.now) (sym c.requires.same)) c.add_mislisted.ensures
