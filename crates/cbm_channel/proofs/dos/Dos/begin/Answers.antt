use Rattle.std.proofs.Common.{sym, inl, ap, rules}
use Rattle.cbm_channel.proofs.Opened.{from_directory}
use Rattle.cbm_channel.proofs.Refused.{other_never}
use Rattle.cbm_machine.specs.Machines.{say, with_status}
use Rattle.cbm_machine.specs.Plans.{act}
use Rattle.cbm_machine.specs.declared.code.Code.TheVariants.{Fine}
use Rattle.cbm_channel.specs.Planned.{begun_by}
use Rattle.cbm_channel.proofs.Goings.{part_same}
use Rattle.cbm_channel.proofs.Planning.{begun_ok, begun_err, begun_does, begun_refuses}
use Rattle.cbm_channel.proofs.Rest.{rest_itself}
use Rattle.cbm_channel.proofs.GroundedReports.{refusal_grounded}
use Rattle.cbm_channel.proofs.dos.Dos.begin.Goals as goal

pub returns-in-Ok-clause-goes : goal.returns-in-Ok-clause-goes
returns-in-Ok-clause-goes g c = λ m text shut s.
    let x = begun_ok _ _ m _ c.in-Ok.plan (c.in-Ok.ensures.planned m text s) in
    let next = c.act.ensures.goes m x.0 x.2 shut s in
    (next.0, part_same _ c.args.channel (λ n. say Fine (act c.args.channel x.0 n)) (begun_by c.args.channel c.args.opening) m next.0 (begun_does c.args.channel c.args.opening m x.0 x.1) next.1, next.2)

pub returns-in-Err-clause-goes : goal.returns-in-Err-clause-goes
returns-in-Err-clause-goes g c = λ m text shut s.
    let x = begun_err _ _ m _ c.in-Err.status (c.in-Err.ensures.planned m text s) in
    (with_status c.in-Err.status m, inl (sym (begun_refuses c.args.channel c.args.opening m x.0 c.in-Err.status x.1 x.2)), c.set.ensures.leads m s)

-- what is refused
pub returns-in-Ok-clause-spared : goal.returns-in-Ok-clause-spared
returns-in-Ok-clause-spared g c = c.act.ensures.spared c.in-Ok.ensures.sound.allowed

-- ---- the rest of the disk

pub returns-in-Ok-clause-rest : goal.returns-in-Ok-clause-rest
returns-in-Ok-clause-rest g c = λ text m s.
    let x = begun_ok _ _ m _ c.in-Ok.plan (c.in-Ok.ensures.planned m text s) in
    c.act.ensures.rest m x.0 x.2 s

pub returns-in-Err-clause-rest : goal.returns-in-Err-clause-rest
returns-in-Err-clause-rest g c = λ text m s. rest_itself _ _ (ap g.M.Medium.seen c.set.ensures.medium)

pub returns-in-Err-clause-leaves : goal.returns-in-Err-clause-leaves
returns-in-Err-clause-leaves g c = record {
  medium = (search rules);
  counted = (search rules);
  grounded = refusal_grounded g.M.Medium.seen c.args.self.now c.set.new.self c.in-Err.status c.in-Err.ensures.sound.ground (ap (λ x. x.status) c.set.ensures.told);
}

-- ---- which file is meant, and what was done, on any disk

pub returns-in-Ok-clause-done : goal.returns-in-Ok-clause-done
returns-in-Ok-clause-done g c = λ fine. (c.in-Ok.plan, c.in-Ok.ensures.meant, c.act.ensures.done fine)

pub returns-in-Err-clause-done : goal.returns-in-Err-clause-done
returns-in-Err-clause-done g c = other_never c.in-Err.status c.set.new.self.told Fine c.in-Err.ensures.sound.denied c.set.ensures.told

pub returns-in-Ok-clause-quiet : goal.returns-in-Ok-clause-quiet
returns-in-Ok-clause-quiet g c = λ reads.
    c.act.ensures.quiet (c.in-Ok.ensures.reads reads) (from_directory g.M.Medium.seen c.args.self.now.medium c.args.opening c.in-Ok.plan c.in-Ok.ensures.meant)
