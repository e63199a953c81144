use Rattle.std.proofs.Common.{◌≡◌, ap, sym, subst, ◌∙◌, Err, inr, rules}
use Rattle.std.proofs.lemmas.Result.{err_from_is_err_and}
use Rattle.cbm_medium.specs.Place.{Place, Has}
use Rattle.cbm_medium.specs.Content.{Content}
use Rattle.cbm_d64.specs.Image.{d64_content}
use Rattle.cbm_g64.specs.Tracks.{or_zeros, G64State}
use Rattle.cbm_g64.specs.Image.{IsHeld}
use Rattle.cbm_g64.specs.NewFile.{base_of}
use Rattle.cbm_image.specs.Images.{kind_of}
use Rattle.cbm_image.specs.declared.kind.Kind.TheVariants.{D64}
use Rattle.cbm_shell.specs.Converting.{other}
use Rattle.cbm_shell.proofs.ConvertKinds.{saved_kind, opened_holds, other_id}
use Rattle.cbm_shell.proofs.images.converting.to_d64.Goals as goal

pub returns-clause-kept : goal.returns-clause-kept
returns-clause-kept c =
    let k : kind_of c.in_ok-image.image.items ≡ D64 = saved_kind c.in_ok-image.image.items _ c.in_ok-image.ensures.ok in
    record {
      opens = k ∙ sym (ap other c.requires);
      faultless = (search (rules, k));
      tracks = (search (rules, k));
      headers = λ e. absurd (let z = sym k ∙ e in cc);
      kept = (search (rules, k));
    }

pub returns-clause-told : goal.returns-clause-told
returns-clause-told c =
    let d = c.in_ok-disk.disk in
    let held : IsHeld (base_of d.formatted d.file) d.tracks = subst (λ (x : G64State). IsHeld (base_of x.formatted x.file) x.tracks) c.disk.view_is c.disk.invariant.0 in
    record {
      faults = (search rules);
      tracks = (search rules);
      errors = (search rules);
      id = other_id c.args.image.now d c.header_id.result c.told_id.result c.ne.result c.in_ok-disk.ensures.ok c.requires held
          c.header_id.ensures.there c.header_id.ensures.missing c.told_id.ensures c.ne.ensures;
    }
