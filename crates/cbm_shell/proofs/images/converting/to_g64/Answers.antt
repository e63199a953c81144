use Rattle.std.proofs.Common.{rules, ◌≡◌, ◌∙◌, ap, sym}
use Rattle.cbm_image.specs.Images.{kind_of, is_d64_size}
use Rattle.cbm_image.specs.declared.kind.Kind.TheVariants.{G64}
use Rattle.cbm_image.proofs.Again.{has_kind}
use Rattle.cbm_shell.specs.Converting.{other}
use Rattle.cbm_shell.proofs.images.converting.to_g64.Goals as goal

pub returns-clause-kept : goal.returns-clause-kept
returns-clause-kept c =
    let k : kind_of c.in-Ok-from_sectors.new.items ≡ G64 = has_kind c.before.before.before.before.before.in-Ok-from_sectors.new.items c.in-Ok-from_sectors.ensures.right (ap is_d64_size c.in-Ok-from_sectors.ensures.size) in
    record {
      opens = k ∙ sym (ap other c.requires);
      faultless = (search (rules, k));
      tracks = (search (rules, k));
      headers = (search (rules, k));
      kept = (search (rules, k));
    }
