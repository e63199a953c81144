use Rattle.cbm_image.specs.AnyDisks.{any_seen}
use Rattle.cbm_program.proofs.images.scripted.play.Goals as goal

pub returns-clause-played : goal.returns-clause-played
returns-clause-played g c = λ input t. c.run_changes.ensures.played (any_seen c.args.disk) input c.new-stage.ensures.at t

pub returns-clause-wrote : goal.returns-clause-wrote
returns-clause-wrote g c = λ input t. c.run_changes.ensures.wrote input c.new-stage.ensures.fresh t
