use Rattle.cbm_host.proofs.Unfailing.{has_not_failed}
use Rattle.std.proofs.Common.{rules, Err, ap, ◌≤◌, refl, ◌∙◌, arith}
use Rattle.std.proofs.lemmas.Result.{err_from_is_err_and}
use Rattle.cbm_program.proofs.BytesPrinted.{goes_none, goes_on, goes_part, goes_over}
use Rattle.cbm_program.proofs.LinePrints.{if_err, none_ok, same_err}
use Rattle.cbm_program.proofs.OutputLemmas.{grows_none, grows_on}
use Rattle.cbm_program.proofs.performing.getting.print_bytes.Goals as goal

pub bytes-init : goal.bytes-init
bytes-init g c = record { goes = goes_none g.M.Medium.seen _ c.args.drive.now c.args.performer.now; limit = refl; moment = refl; tracks = refl; paced = refl; grown = grows_none _ }

pub bytes-preserved : goal.bytes-preserved
bytes-preserved g c = record {
  goes = goes_on g.M.Medium.seen _ _ _ c.args.drive.now c.bytes.drive c.take.new.self c.args.performer.now c.bytes.performer c.take.new.performer c.in-Some.byte c.in-Some.is_last c.take.ensures.pace c.bytes.invariant.goes (c.in-Some.ensures.taken (has_not_failed g.M.Medium.seen g.met.M.Steady.steady c.bytes.drive c.take.new.self)) c.in_ok-print_byte.ensures.ok;
  limit = c.take.ensures.limit ∙ c.bytes.invariant.limit;
  moment = c.in-Some.ensures.moment ∙ c.bytes.invariant.moment;
  tracks = c.take.ensures.tracks ∙ c.bytes.invariant.tracks;
  paced = c.take.ensures.pace ∙ c.bytes.invariant.paced;
  grown = grows_on _ _ _ c.bytes.invariant.grown c.in_ok-print_byte.ensures.grows;
}

pub bytes-smaller : goal.bytes-smaller
bytes-smaller g c = c.in-Some.ensures.fewer

pub returns-in_err-print_byte-clause-said : goal.returns-in_err-print_byte-clause-said
returns-in_err-print_byte-clause-said g c =
    let p = err_from_is_err_and c.from_residual.result c.from_residual.ensures.1 in
    record {
      ok = λ m request bytes last channel modest u. none_ok c.from_residual.result _ _ (p.1 ∙ ap Err p.2);
      err = λ m request bytes last channel modest u. if_err c.from_residual.result (goes_part g.M.Medium.seen _ _ _ c.args.drive.now c.bytes.drive c.take.new.self c.args.performer.now c.bytes.performer c.take.new.performer c.in-Some.byte c.in-Some.is_last c.take.ensures.pace c.bytes.invariant.paced c.bytes.invariant.goes
          (c.in-Some.ensures.taken (has_not_failed g.M.Medium.seen g.met.M.Steady.steady c.bytes.drive c.take.new.self)) c.in_err-print_byte.ensures.err m request bytes last channel modest u);
      grows = grows_on _ _ _ c.bytes.invariant.grown c.in_err-print_byte.ensures.grows;
      fault = same_err c.from_residual.result _ _ (p.1 ∙ ap Err p.2) c.in_err-print_byte.ensures.fault;
    }

pub returns-in_err-print_byte-clause-soon : goal.returns-in_err-print_byte-clause-soon
returns-in_err-print_byte-clause-soon g c = λ h.
    let same = c.in-Some.ensures.moment in
    let old = c.bytes.invariant.moment in
    omega (arith, h, same, old)

pub returns-in_err-print_byte-clause-tracks : goal.returns-in_err-print_byte-clause-tracks
returns-in_err-print_byte-clause-tracks g c = c.take.ensures.tracks ∙ c.bytes.invariant.tracks

pub returns-clause-said : goal.returns-clause-said
returns-clause-said g c = record {
  ok = λ m request bytes last channel modest u. goes_over g.M.Medium.seen _ _ c.args.drive.now c.bytes.drive c.take.new.self c.args.performer.now c.bytes.performer (c.take.ensures.pace ∙ c.bytes.invariant.paced) c.bytes.invariant.goes (c.in_default.ensures.taken (has_not_failed g.M.Medium.seen g.met.M.Steady.steady c.bytes.drive c.take.new.self)) m request bytes last channel modest u;
  err = (search rules);
  grows = c.bytes.invariant.grown;
  fault = (search rules);
}

pub returns-clause-soon : goal.returns-clause-soon
returns-clause-soon g c = λ h.
    let soon : c.take.new.self.moment ≤ c.bytes.performer.limit = c.in_default.ensures.moment in
    let same = c.bytes.invariant.limit in
    omega (arith, soon, same)

pub returns-clause-tracks : goal.returns-clause-tracks
returns-clause-tracks g c = c.take.ensures.tracks ∙ c.bytes.invariant.tracks

pub returns-in_err-print_byte-clause-pace : goal.returns-in_err-print_byte-clause-pace
returns-in_err-print_byte-clause-pace g c = c.take.ensures.pace ∙ c.bytes.invariant.paced

pub returns-clause-pace : goal.returns-clause-pace
returns-clause-pace g c = c.take.ensures.pace ∙ c.bytes.invariant.paced
