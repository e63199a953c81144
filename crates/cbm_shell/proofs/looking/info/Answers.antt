use Rattle.std.proofs.Common.{◌≡◌, ◌∙◌}
use Rattle.cbm_image.specs.AnyDisks.{any_seen}
use Rattle.cbm_shell.specs.Sectors.{faults_in}
use Rattle.cbm_shell.specs.Images.{IsChecked}
use Rattle.cbm_shell.proofs.ImageLemmas.{opened_holds, of_image}
use Rattle.cbm_shell.proofs.looking.info.Goals as goal

pub returns-clause-faults : goal.returns-clause-faults
returns-clause-faults c =
    of_image (λ n t. c.in_ok-info.info.unreadable.items ≡ faults_in t n) c.args.image.now (any_seen c.in_ok-disk.disk) c.in_ok-disk.ensures.ok c.in_ok-info.ensures.faults

pub returns-clause-tracks : goal.returns-clause-tracks
returns-clause-tracks c = c.in_ok-info.ensures.tracks ∙ c.in_ok-disk.ensures.ok.same_tracks

pub returns-clause-check : goal.returns-clause-check
returns-clause-check c =
    of_image (λ n t. IsChecked n t c.in_ok-info.info.check) c.args.image.now (any_seen c.in_ok-disk.disk) c.in_ok-disk.ensures.ok c.in_ok-info.ensures.check

pub returns-clause-means : goal.returns-clause-means
returns-clause-means c = λ d h.
    c.in_ok-info.ensures.means d (opened_holds c.args.image.now (any_seen c.in_ok-disk.disk) d c.in_ok-disk.ensures.ok h)
