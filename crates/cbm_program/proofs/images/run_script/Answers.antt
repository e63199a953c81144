use Rattle.std.proofs.Common.{◌∙◌, Err, Option, List, ℕ, ap, subst}
use Rattle.std.proofs.lemmas.Result.{err_from_is_err_and}
use Rattle.std.specs.Prelude.{Ok}
use Rattle.cbm_image.specs.AnyDisks.{any_seen}
use Rattle.bus_traces.specs.Lines.{source_bytes_left}
use Rattle.cbm_program.specs.Beginnings.{FirstRead}
use Rattle.cbm_program.specs.Starts.{StartsFrom, KeptBy}
use Rattle.cbm_program.specs.declared.numbered.Beginning.TheVariants.{Requests, Changes}
use Rattle.cbm_program.proofs.Outcomes.{run-first, run-served, run-played}
use Rattle.cbm_program.proofs.images.run_script.Goals as goal

-- the first line can't be had, and nothing is written
pub returns-in_err-first-clause-run : goal.returns-in_err-first-clause-run
returns-in_err-first-clause-run g c =
    let p = err_from_is_err_and c.from_residual.result c.from_residual.ensures.1 in
    run-first c.from_residual.result _ _ _ (g.R.Read.remaining c.args.reader) (source_bytes_left g.R.Read.remaining c.read_first.new.lines) (StartsFrom (any_seen c.args.disk)) (λ after. KeptBy (any_seen after)) c.args.station.pace c.args.station.device
    c.new-lines.ensures c.in_err-first.ensures.read (p.1 ∙ ap Err p.2)

-- a script of requests
pub returns-in-Requests-clause-run : goal.returns-in-Requests-clause-run
returns-in-Requests-clause-run g c =
    let seen = any_seen in
    let x = g.R.Read.remaining c.args.reader in
    let read = subst (λ (o : Option (List ℕ)). FirstRead o (source_bytes_left g.R.Read.remaining c.read_first.new.lines) (Ok (Requests c.in-Requests.first))) c.new-lines.ensures (rw c.in-Requests.is at c.in_ok-first.ensures.read) in
    run-served c.serve.result _ _ (StartsFrom (seen c.args.disk)) (λ after. KeptBy (seen after)) c.args.station.pace c.args.station.device x read.1 (c.serve.ensures.served x read.0) c.serve.ensures.grows

-- a script of line changes
pub returns-clause-run : goal.returns-clause-run
returns-clause-run g c =
    let seen = any_seen in
    let x = g.R.Read.remaining c.args.reader in
    let k = source_bytes_left g.R.Read.remaining c.read_first.new.lines in
    let read = subst (λ (o : Option (List ℕ)). FirstRead o k (Ok Changes)) c.new-lines.ensures (rw c.in-Changes.is at c.in_ok-first.ensures.read) in
    run-played c.play.result _ _ (StartsFrom (seen c.args.disk)) (λ after. KeptBy (seen after)) c.args.station.pace c.args.station.device x k read (c.play.ensures.played x read) (c.play.ensures.wrote x read) c.play.ensures.grows
