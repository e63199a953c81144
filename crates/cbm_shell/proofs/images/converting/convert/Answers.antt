use Rattle.cbm_shell.proofs.ConvertLemmas.{whole}
use Rattle.cbm_shell.proofs.images.converting.convert.Goals as goal

pub returns-in-D64-clause-whole : goal.returns-in-D64-clause-whole
returns-in-D64-clause-whole c =
    whole c.to_g64.result (λ v. v.image.items) (λ v. v.lost.unreadable.items) (λ v. v.lost.more_tracks) (λ v. v.lost.error_bytes) (λ v. v.lost.header_id) c.args.image.now
    c.to_g64.ensures.kept c.to_g64.ensures.told

pub returns-in-G64-clause-whole : goal.returns-in-G64-clause-whole
returns-in-G64-clause-whole c =
    whole c.to_d64.result (λ v. v.image.items) (λ v. v.lost.unreadable.items) (λ v. v.lost.more_tracks) (λ v. v.lost.error_bytes) (λ v. v.lost.header_id) c.args.image.now
    c.to_d64.ensures.kept c.to_d64.ensures.told
