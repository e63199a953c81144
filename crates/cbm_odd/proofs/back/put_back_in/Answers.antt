use Rattle.std.proofs.Common.{sym, ◌∙◌}
use Rattle.cbm_image.specs.AnyDisks.{any_seen}
use Rattle.cbm_shell.proofs.ImageLemmas.{sectors_if}
use Rattle.cbm_odd.proofs.BackLemmas.{back_in}
use Rattle.cbm_odd.proofs.back.put_back_in.Goals as goal

pub returns-clause-back : goal.returns-clause-back
returns-clause-back c =
    let seen = any_seen in
    back_in (λ v. v.items) c.image_with.result c.args.marks c.as_slice.result.now c.args.kind c.args.image.now c.args.changed.now c.args.odds.now (seen c.in_ok-old.old) (seen c.in_ok-new.new)
    (sym c.requires.old) (c.requires.new ∙ sym c.requires.old)
    c.in_ok-old.ensures.ok c.in_ok-new.ensures.ok c.in_ok-require_left_alone.ensures.alone (c.as_slice.ensures.value ∙ c.in_ok-free.ensures.free) c.image_with.ensures.back

pub returns-clause-opens : goal.returns-clause-opens
returns-clause-opens c =
    sectors_if (λ v. v.items) c.image_with.result c.args.changed.now c.args.kind (any_seen c.in_ok-new.new) (sym c.requires.new) c.in_ok-new.ensures.ok c.image_with.ensures.opens c.image_with.ensures.outside
