use Rattle.std.proofs.Common.{◌∙◌, ◌≡◌, true, false, ap, subst, Err}
use Rattle.std.proofs.lemmas.Result.{err_from_is_err_and}
use Rattle.std.specs.Io.KnownBytes.{Appends}
use Rattle.cbm_image.specs.AnyDisks.{any_seen}
use Rattle.cbm_file.specs.Files.{Disk}
use Rattle.cbm_volume.specs.Holding.{HoldsDisk}
use Rattle.cbm_program.specs.Checking.{checked_text, IsCheckPrinted}
use Rattle.cbm_program.specs.Outcome.{IsRun}
use Rattle.cbm_program.specs.Output.{AppendsPart}
use Rattle.cbm_program.specs.Starts.{StartsFrom, KeptBy}
use Rattle.cbm_program.proofs.Outcomes.{run-afterwards, run-cut}
use Rattle.cbm_program.proofs.StartLemmas.{ends-any, checked-first, said-start}
use Rattle.cbm_program.proofs.images.run_with.Goals as goal

-- the check's line broke off
pub returns-in_err-print_check-clause-run : goal.returns-in_err-print_check-clause-run
returns-in_err-print_check-clause-run g c =
    let seen = any_seen in
    let p = err_from_is_err_and c.from_residual.result c.from_residual.ensures.1 in
    let check = c.in_err-print_check.ensures.check in
    let broken = subst (λ k. (d : Disk) → HoldsDisk (seen k).tracks (seen k).content d → AppendsPart (g.W.Write.contents c.args.writer.now) (g.W.Write.contents c.print_check.new.writer) (checked_text c.args.checks)) c.open-volume.ensures check.err in
    run-cut c.from_residual.result _ _ _ (g.R.Read.remaining c.args.reader) (StartsFrom (seen c.args.disk)) (λ after. KeptBy (seen after)) c.args.station.pace c.args.station.device c.args.checks (p.1 ∙ ap Err p.2) check.fault (λ m s. broken s.0 s.1) check.grows

-- the script was run after it
pub returns-clause-run : goal.returns-clause-run
returns-clause-run g c =
    let seen = any_seen in
    let before = g.W.Write.contents c.args.writer.now in
    let between = g.W.Write.contents c.print_check.new.writer in
    let check = c.in_ok-print_check.ensures.check in
    let said = said-start (seen c.args.disk) c.args.checks before between (subst (λ k. (d : Disk) → HoldsDisk (seen k).tracks (seen k).content d → Appends before between (checked_text c.args.checks)) c.open-volume.ensures check.ok) in
    let run = subst (λ k. IsRun c.run_script.result (StartsFrom (seen k)) (λ after. KeptBy (seen after)) c.args.station.pace c.args.station.device false (g.R.Read.remaining c.args.reader) between (g.W.Write.contents c.run_script.new.writer)) (c.into_medium.ensures ∙ c.open-volume.ensures) c.run_script.ensures.run in
    run-afterwards c.run_script.result before between _ (g.R.Read.remaining c.args.reader) (StartsFrom (seen c.args.disk)) (λ after. KeptBy (seen after)) c.args.station.pace c.args.station.device c.args.checks said (λ off. ap g.W.Write.contents (c.in_ok-print_check.ensures.none off)) check.grows run

-- the check's line comes first
pub returns-clause-checked : goal.returns-clause-checked
returns-clause-checked g c = λ e.
    let said = subst (λ k. c.args.checks ≡ true → IsCheckPrinted (any_seen k).tracks (any_seen k).content (g.W.Write.contents c.args.writer.now) (g.W.Write.contents c.print_check.new.writer)) c.open-volume.ensures c.in_ok-print_check.ensures.check.said in
    ends-any c.run_script.result _ (λ bad. checked-first _ _ _ _ _ (said e) c.run_script.ensures.run.grows)
