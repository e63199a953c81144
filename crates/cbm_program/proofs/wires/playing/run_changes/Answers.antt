use Rattle.std.proofs.Common.{rules, ◌∙◌, [], Err, ap, length}
use Rattle.std.proofs.lemmas.Result.{err_from_is_err_and}
use Rattle.cbm_host.specs.Hosted.{party_of}
use Rattle.cbm_program.specs.Starts.{StartsFrom, KeptBy}
use Rattle.cbm_program.specs.Staging.{IsDriveSwitchedOn, IsBorne}
use Rattle.cbm_program.proofs.LinePrints.{if_err}
use Rattle.cbm_program.proofs.Playing.{sole_tracks}
use Rattle.cbm_program.proofs.StartLemmas.{among-stands, ends-again}
use Rattle.cbm_program.proofs.TraceLemmas.{traced-among, left-traced, cut-among}
use Rattle.cbm_program.proofs.wires.playing.run_changes.Goals as goal

pub returns-in_err-play_on-clause-played : goal.returns-in_err-play_on-clause-played
returns-in_err-play_on-clause-played g c = λ shows input stands t.
    let p = err_from_is_err_and c.from_residual.result c.from_residual.ensures.1 in
    let seen = g.M.Medium.seen in
    let drive = party_of c.args.pace c.args.device in
    let among = among-stands shows (IsDriveSwitchedOn seen drive c.args.stage.player c.args.stage.bus) stands in
    record {
      ended = ends-again _ _ _ _ (c.in_err-play_on.ensures.ended input t) (p.1 ∙ ap Err p.2) (λ bad h. traced-among [] _ _ input (StartsFrom shows) _ (IsBorne seen c.play_on.new.stage.bus) (λ m. Unit {0}) drive bad among (λ m s. tt) h);
      disk = (search rules);
      fault = if_err c.from_residual.result (cut-among [] _ _ input (StartsFrom shows) _ drive among (c.in_err-play_on.ensures.fault input t));
    }

pub returns-in_err-play_on-clause-wrote : goal.returns-in_err-play_on-clause-wrote
returns-in_err-play_on-clause-wrote g c = λ input fresh t.
    let p = err_from_is_err_and c.from_residual.result c.from_residual.ensures.1 in
    ends-again _ _ _ _ (c.in_err-play_on.ensures.wrote input fresh t) (p.1 ∙ ap Err p.2) (λ bad h. h)

-- the medium is that of the machine after the script
pub returns-clause-played : goal.returns-clause-played
returns-clause-played g c = λ shows input stands t.
    let seen = g.M.Medium.seen in
    let drive = party_of c.args.pace c.args.device in
    let among = among-stands shows (IsDriveSwitchedOn seen drive c.args.stage.player c.args.stage.bus) stands in
    record {
      ended = traced-among [] _ _ input (StartsFrom shows) _ (IsBorne seen c.play_on.new.stage.bus) (λ m. Unit {0}) drive _ among (λ m s. tt) (c.in_ok-play_on.ensures.ended input t);
      disk = left-traced [] _ _ input (StartsFrom shows) _ (IsBorne seen c.play_on.new.stage.bus) (KeptBy (seen c.into_medium.result)) drive _ among c.into_medium.ensures.disk (c.in_ok-play_on.ensures.ended input t);
      fault = (search rules);
    }

pub returns-clause-same_tracks : goal.returns-clause-same_tracks
returns-clause-same_tracks g c =
    let same = c.in_ok-play_on.ensures.tracks in
    sole_tracks g.M.Medium.seen c.play_on.new.stage.bus c.into_medium.result (ap length same ∙ c.requires.one) c.into_medium.ensures.medium ∙ same
