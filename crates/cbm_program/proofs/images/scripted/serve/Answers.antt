use Rattle.std.proofs.Common.{false, subst}
use Rattle.cbm_image.specs.AnyDisks.{any_seen}
use Rattle.cbm_program.specs.Outcome.{ServesScript}
use Rattle.cbm_program.specs.Starts.{StartsFrom, KeptBy}
use Rattle.cbm_program.proofs.images.scripted.serve.Goals as goal

pub returns-clause-served : goal.returns-clause-served
returns-clause-served g c = λ input r. subst (λ e. ServesScript c.run_requests.result (StartsFrom (any_seen c.args.disk)) (λ disk. KeptBy (any_seen disk)) e false input (g.W.Write.contents c.args.writer.now) (g.W.Write.contents c.run_requests.new.writer))
    c.with_pace-hosted.ensures.pace (c.run_requests.ensures.served (any_seen c.args.disk) input c.with_pace-hosted.ensures.rests r)
