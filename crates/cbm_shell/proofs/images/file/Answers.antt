use Rattle.std.proofs.Common.{◌≡◌}
use Rattle.cbm_image.specs.AnyDisks.{any_seen}
use Rattle.cbm_shell.specs.Reading.{Gets, IsGetFault}
use Rattle.cbm_shell.proofs.ImageLemmas.{opened_holds, or_memory, or_open_fault}
use Rattle.cbm_shell.proofs.images.file.Goals as goal

pub returns-clause-means : goal.returns-clause-means
returns-clause-means c = λ d h.
    let seen = any_seen in
    or_open_fault c.args.image.now c.get.result (λ v. Gets d c.args.pattern.now v.items) (IsGetFault d c.args.pattern.now) (λ n h. h)
    (c.get.ensures.means d (opened_holds c.args.image.now (seen c.in_ok-volume.volume) d c.in_ok-volume.ensures.ok h))

pub returns-clause-shown : goal.returns-clause-shown
returns-clause-shown c = λ bytes h.
    or_memory c.args.image.now c.get.result (λ v. v.items ≡ bytes)
    (c.get.ensures.shown bytes (h (any_seen c.in_ok-volume.volume) c.in_ok-volume.ensures.ok))
