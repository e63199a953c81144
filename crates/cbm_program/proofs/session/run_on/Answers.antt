use Rattle.std.proofs.Common.{rules, ◌∙◌, ◌+◌, ◌<◌, ◌^◌, refl, ap, arith, Err}
use Rattle.std.proofs.lemmas.Result.{err_from_is_err_and}
use Rattle.cbm_host.specs.Hosted.{Rests}
use Rattle.bus_traces.specs.Lines.{source_bytes_left}
use Rattle.cbm_program.specs.Running.{LineIsInRange, requests_in}
use Rattle.cbm_program.proofs.OutputLemmas.{grows_none, grows_on}
use Rattle.cbm_program.proofs.RunLemmas.{prints-at, part-at, longest_most, on-start, on-line, on-faulted, on-part, on-broken, on-end, read-channel, read-few, each-some}
use Rattle.cbm_program.proofs.LinePrints.{if_err}
use Rattle.cbm_program.proofs.session.run_on.Goals as goal

pub lines-init : goal.lines-init
lines-init g c = record {
  running = λ input r. on-start c.args.drive.now.pace _ input _ (Rests g.M.Medium.seen c.args.drive.now) c.args.first r;
  range = c.requires.first;
  few = omega arith;
  fewer = each-some c.args.first (1 < 1000001) (omega arith);
  grown = grows_none _;
  soon = (let first = c.requires.moment in omega (arith, first));
  tracks = refl;
  paced = refl;
}

-- a line is carried out, and the next one was read
pub lines-preserved : goal.lines-preserved
lines-preserved g c =
    let rests = Rests g.M.Medium.seen in
    let left = source_bytes_left g.R.Read.remaining in
    let few = rw c.in-Some.is at c.lines.invariant.fewer in
    record {
      running = λ input r. on-line c.args.drive.now.pace _ _ _ input (left c.lines.lines) (left c.read_line.new.lines) (rests c.args.drive.now) (rests c.lines.drive) (rests c.perform_line.new.drive) c.lines.number c.in-Some.line _ (rw c.in-Some.is at c.lines.invariant.running input r) (prints-at _ _ _ _ (rests c.lines.drive) (rests c.perform_line.new.drive) (requests_in c.in-Some.line) c.lines.invariant.paced c.in_ok-perform_line.ensures.printed.ok) c.in_ok-next.ensures;
      range = read-channel (left c.lines.lines) (left c.read_line.new.lines) (c.lines.number + 1) _ c.in_ok-next.ensures;
      few = omega (arith, few);
      fewer = read-few (left c.lines.lines) (left c.read_line.new.lines) (c.lines.number + 1) _ c.in_ok-next.ensures;
      grown = grows_on _ _ _ c.lines.invariant.grown c.in_ok-perform_line.ensures.printed.grows;
      soon = (let old = c.lines.invariant.soon in let next = c.in_ok-perform_line.ensures.drive.soon in let most = longest_most c.lines.drive.pace in omega (arith, old, next, most));
      tracks = c.in_ok-perform_line.ensures.drive.tracks ∙ c.lines.invariant.tracks;
      paced = c.in_ok-perform_line.ensures.drive.pace ∙ c.lines.invariant.paced;
    }

-- a line broke off
pub returns-in_err-perform_line-clause-fault : goal.returns-in_err-perform_line-clause-fault
returns-in_err-perform_line-clause-fault g c = λ input r.
    let rests = Rests g.M.Medium.seen in
    if_err c.from_residual.result (on-broken c.args.drive.now.pace _ _ _ input (source_bytes_left g.R.Read.remaining c.lines.lines) (rests c.args.drive.now) (rests c.lines.drive) c.lines.number c.in-Some.line (rw c.in-Some.is at c.lines.invariant.running input r) (part-at _ _ _ _ (rests c.lines.drive) (requests_in c.in-Some.line) c.lines.invariant.paced c.in_err-perform_line.ensures.printed.err))

pub returns-in_err-perform_line-clause-grows : goal.returns-in_err-perform_line-clause-grows
returns-in_err-perform_line-clause-grows g c = grows_on _ _ _ c.lines.invariant.grown c.in_err-perform_line.ensures.printed.grows

-- there is no line to be read
pub returns-in_err-next-clause-ended : goal.returns-in_err-next-clause-ended
returns-in_err-next-clause-ended g c = λ input r.
    let p = err_from_is_err_and c.from_residual-in_err-next.result c.from_residual-in_err-next.ensures.1 in
    let rests = Rests g.M.Medium.seen in
    let left = source_bytes_left g.R.Read.remaining in
    on-faulted c.args.drive.now.pace _ _ _ input (left c.lines.lines) (left c.read_line.new.lines) (rests c.args.drive.now) (rests c.lines.drive) (rests c.perform_line.new.drive) c.lines.number c.in-Some.line c.from_residual-in_err-next.result _ (rw c.in-Some.is at c.lines.invariant.running input r) (prints-at _ _ _ _ (rests c.lines.drive) (rests c.perform_line.new.drive) (requests_in c.in-Some.line) c.lines.invariant.paced c.in_ok-perform_line.ensures.printed.ok)
    c.in_err-next.ensures (p.1 ∙ ap Err p.2)

pub returns-in_err-next-clause-fault : goal.returns-in_err-next-clause-fault
returns-in_err-next-clause-fault g c = λ input r.
    let rests = Rests g.M.Medium.seen in
    if_err c.from_residual-in_err-next.result (on-part c.args.drive.now.pace _ _ _ input (source_bytes_left g.R.Read.remaining c.lines.lines) (rests c.args.drive.now) (rests c.lines.drive) (rests c.perform_line.new.drive) c.lines.number c.in-Some.line (rw c.in-Some.is at c.lines.invariant.running input r) (prints-at _ _ _ _ (rests c.lines.drive) (rests c.perform_line.new.drive) (requests_in c.in-Some.line) c.lines.invariant.paced c.in_ok-perform_line.ensures.printed.ok))

pub returns-in_err-next-clause-grows : goal.returns-in_err-next-clause-grows
returns-in_err-next-clause-grows g c = grows_on _ _ _ c.lines.invariant.grown c.in_ok-perform_line.ensures.printed.grows

-- the script is at its end
pub returns-clause-ended : goal.returns-clause-ended
returns-clause-ended g c = λ input r.
    let rests = Rests g.M.Medium.seen in
    on-end c.args.drive.now.pace _ _ input (source_bytes_left g.R.Read.remaining c.lines.lines) (rests c.args.drive.now) (rests c.lines.drive) c.lines.number (rw c.in_default.is at c.lines.invariant.running input r)

pub perform_line-requires : goal.perform_line-requires
perform_line-requires g c =
    let line : LineIsInRange c.in-Some.line = rw c.in-Some.is at c.lines.invariant.range in
    let moment : c.lines.drive.moment < 2 ^ 58 = (let soon = c.lines.invariant.soon in let few = c.lines.invariant.few in omega (arith, soon, few)) in
    search (rules, line, moment)
