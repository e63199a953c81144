use Rattle.std.proofs.Common.{rules, ◌∙◌, false, ap, Err}
use Rattle.std.proofs.lemmas.Result.{err_from_is_err_and}
use Rattle.cbm_host.specs.Hosted.{Rests}
use Rattle.cbm_program.specs.Starts.{StartsFrom, KeptBy}
use Rattle.cbm_program.proofs.LinePrints.{if_err}
use Rattle.cbm_program.proofs.StartLemmas.{among-stands, ended-among, served-ended, part-among, ends-again}
use Rattle.cbm_program.proofs.session.run_requests.Goals as goal

pub returns-in_err-run_on-clause-served : goal.returns-in_err-run_on-clause-served
returns-in_err-run_on-clause-served g c = λ shows input stood r.
    let p = err_from_is_err_and c.from_residual.result c.from_residual.ensures.1 in
    let rests = Rests g.M.Medium.seen in
    let among = among-stands shows (rests c.args.drive) stood in
    record {
      ended = ends-again _ _ _ _ (c.in_err-run_on.ensures.ended input r) (p.1 ∙ ap Err p.2) (λ bad e. ended-among c.args.drive.pace false _ _ (StartsFrom shows) (rests c.args.drive) (rests c.run_on.new.drive) (λ m. Unit {0}) among (λ m s. tt) input bad e);
      disk = (search rules);
      fault = if_err c.from_residual.result (part-among c.args.drive.pace false _ _ input (StartsFrom shows) (rests c.args.drive) among (c.in_err-run_on.ensures.fault input r));
    }

-- the medium is that of the machine after the script
pub returns-clause-served : goal.returns-clause-served
returns-clause-served g c = λ shows input stood r.
    let seen = g.M.Medium.seen in
    let rests = Rests seen in
    let among = among-stands shows (rests c.args.drive) stood in
    record {
      ended = ended-among c.args.drive.pace false _ _ (StartsFrom shows) (rests c.args.drive) (rests c.run_on.new.drive) (λ m. Unit {0}) among (λ m s. tt) input _ (c.in_ok-run_on.ensures.ended input r);
      disk = served-ended c.args.drive.pace false _ _ (StartsFrom shows) (rests c.args.drive) (rests c.run_on.new.drive) (KeptBy (seen c.into_medium.result)) among (λ m s. c.into_medium.ensures.disk m s) input _ (c.in_ok-run_on.ensures.ended input r);
      fault = (search rules);
    }

pub returns-clause-same_tracks : goal.returns-clause-same_tracks
returns-clause-same_tracks g c = c.into_medium.ensures.tracks ∙ c.run_on.ensures.tracks
