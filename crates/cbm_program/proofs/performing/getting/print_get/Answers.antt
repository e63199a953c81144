use Rattle.cbm_host.proofs.Unfailing.{has_not_failed}
use Rattle.std.proofs.Common.{rules, Err, ap, ◌≡◌, ◌≤◌, false, ◌∙◌, arith, [], ◌∷◌, subst}
use Rattle.std.proofs.lemmas.Result.{on_ok_weaker, on_err_weaker, err_from_is_err_and}
use Rattle.cbm_host.specs.Hosted.{Rests}
use Rattle.cbm_host.specs.Served.{talked_at}
use Rattle.cbm_host.specs.declared.request.Request.TheVariants.{Get}
use Rattle.cbm_iec.specs.declared.pace.Pace.{Pace}
use Rattle.cbm_program.proofs.BytesPrinted.{first_at, over_at, rest_at, rest_part_at, line_none, line_none_part, line_head_part, line_byte_part, line_rest_part, line_all, line_end_part}
use Rattle.cbm_program.proofs.LinePrints.{if_err, none_ok, same_err}
use Rattle.cbm_program.proofs.OutputLemmas.{grows_on}
use Rattle.cbm_program.proofs.performing.getting.print_get.Goals as goal

-- there is nothing to say
pub returns-in_default-clause-printed : goal.returns-in_default-clause-printed
returns-in_default-clause-printed g c = record {
  ok = (on_ok_weaker c.print_head.result (λ written m r.
      let o = over_at g.M.Medium.seen c.args.drive.now.pace c.take.new.self m (Get c.args.channel c.args.most) [] false c.take.ensures.pace (c.in_default.ensures.taken (has_not_failed g.M.Medium.seen g.met.M.Steady.steady c.args.drive.now c.take.new.self) m (Get c.args.channel c.args.most) [] false c.requires.request.0 (c.requires.request.1, c.requires.request.2) (c.ask-performer.ensures.under_way m r)) in
      (line_none _ _ c.args.channel (talked_at c.args.drive.now.pace c.args.channel c.args.most m) o.said written, o.rests)) c.print_head.ensures.ok);
  err = (on_err_weaker c.print_head.result (λ part m r.
      let o = over_at g.M.Medium.seen c.args.drive.now.pace c.take.new.self m (Get c.args.channel c.args.most) [] false c.take.ensures.pace (c.in_default.ensures.taken (has_not_failed g.M.Medium.seen g.met.M.Steady.steady c.args.drive.now c.take.new.self) m (Get c.args.channel c.args.most) [] false c.requires.request.0 (c.requires.request.1, c.requires.request.2) (c.ask-performer.ensures.under_way m r)) in
      line_none_part _ _ c.args.channel (talked_at c.args.drive.now.pace c.args.channel c.args.most m) o.said part) c.print_head.ensures.err);
  grows = (search rules);
  fault = (search rules);
}

pub returns-in_default-clause-drive : goal.returns-in_default-clause-drive
returns-in_default-clause-drive g c = record {
  soon = (let soon : c.take.new.self.moment ≤ c.ask-performer.result.limit = c.in_default.ensures.moment in
      let limit = c.ask-performer.ensures.limit in
      omega (arith, soon, limit));
  pace = (search rules);
  tracks = (search rules);
}

-- the line broke off
pub returns-in_err-print_head-clause-printed : goal.returns-in_err-print_head-clause-printed
returns-in_err-print_head-clause-printed g c =
    let p = err_from_is_err_and c.from_residual.result c.from_residual.ensures.1 in
    record {
      ok = none_ok c.from_residual.result _ _ (p.1 ∙ ap Err p.2);
      err = (if_err c.from_residual.result (λ m r.
          let o = c.in-Some.ensures.taken (has_not_failed g.M.Medium.seen g.met.M.Steady.steady c.args.drive.now c.take.new.self) m (Get c.args.channel c.args.most) [] false c.requires.request.0 (c.requires.request.1, c.requires.request.2) (c.ask-performer.ensures.under_way m r) in
          line_head_part _ _ c.args.channel c.in-Some.byte c.in-Some.is_last (talked_at c.args.drive.now.pace c.args.channel c.args.most m) (first_at g.M.Medium.seen c.args.drive.now.pace c.take.new.self c.take.new.performer m (Get c.args.channel c.args.most) (c.in-Some.byte ∷ []) c.in-Some.is_last c.take.ensures.pace o) c.in_err-print_head.ensures.err));
      grows = (search rules);
      fault = same_err c.from_residual.result _ _ (p.1 ∙ ap Err p.2) c.in_err-print_head.ensures.fault;
    }

pub returns-in_err-print_byte-clause-printed : goal.returns-in_err-print_byte-clause-printed
returns-in_err-print_byte-clause-printed g c =
    let p = err_from_is_err_and c.from_residual-in_err-print_byte.result c.from_residual-in_err-print_byte.ensures.1 in
    record {
      ok = none_ok c.from_residual-in_err-print_byte.result _ _ (p.1 ∙ ap Err p.2);
      err = (if_err c.from_residual-in_err-print_byte.result (λ m r.
          let o = c.in-Some.ensures.taken (has_not_failed g.M.Medium.seen g.met.M.Steady.steady c.args.drive.now c.take.new.self) m (Get c.args.channel c.args.most) [] false c.requires.request.0 (c.requires.request.1, c.requires.request.2) (c.ask-performer.ensures.under_way m r) in
          line_byte_part _ _ _ c.args.channel c.in-Some.byte c.in-Some.is_last (talked_at c.args.drive.now.pace c.args.channel c.args.most m) (first_at g.M.Medium.seen c.args.drive.now.pace c.take.new.self c.take.new.performer m (Get c.args.channel c.args.most) (c.in-Some.byte ∷ []) c.in-Some.is_last c.take.ensures.pace o) c.in_ok-print_head.ensures.ok c.in_err-print_byte.ensures.err));
      grows = (grows_on _ _ _ c.in_ok-print_head.ensures.grows c.in_err-print_byte.ensures.grows);
      fault = same_err c.from_residual-in_err-print_byte.result _ _ (p.1 ∙ ap Err p.2) c.in_err-print_byte.ensures.fault;
    }

pub returns-in_err-print_bytes-clause-printed : goal.returns-in_err-print_bytes-clause-printed
returns-in_err-print_bytes-clause-printed g c =
    let p = err_from_is_err_and c.from_residual-in_err-print_bytes.result c.from_residual-in_err-print_bytes.ensures.1 in
    record {
      ok = none_ok c.from_residual-in_err-print_bytes.result _ _ (p.1 ∙ ap Err p.2);
      err = (if_err c.from_residual-in_err-print_bytes.result (λ m r.
          let o = c.in-Some.ensures.taken (has_not_failed g.M.Medium.seen g.met.M.Steady.steady c.args.drive.now c.take.new.self) m (Get c.args.channel c.args.most) [] false c.requires.request.0 (c.requires.request.1, c.requires.request.2) (c.ask-performer.ensures.under_way m r) in
          line_rest_part _ _ _ _ c.args.channel c.in-Some.byte c.in-Some.is_last (talked_at c.args.drive.now.pace c.args.channel c.args.most m) (first_at g.M.Medium.seen c.args.drive.now.pace c.take.new.self c.take.new.performer m (Get c.args.channel c.args.most) (c.in-Some.byte ∷ []) c.in-Some.is_last c.take.ensures.pace o) c.in_ok-print_head.ensures.ok c.in_ok-print_byte.ensures.ok
          (rest_part_at _ _ c.in-Some.byte c.in-Some.is_last c.args.channel c.args.most m _ _ c.take.ensures.pace
          (c.in_err-print_bytes.ensures.said.err m (Get c.args.channel c.args.most) (c.in-Some.byte ∷ []) c.in-Some.is_last c.requires.request.0 (c.requires.request.1, c.requires.request.2) o))));
      grows = (grows_on _ _ _ c.in_ok-print_head.ensures.grows (grows_on _ _ _ c.in_ok-print_byte.ensures.grows c.in_err-print_bytes.ensures.said.grows));
      fault = same_err c.from_residual-in_err-print_bytes.result _ _ (p.1 ∙ ap Err p.2) c.in_err-print_bytes.ensures.said.fault;
    }

pub returns-in_err-print_bytes-clause-drive : goal.returns-in_err-print_bytes-clause-drive
returns-in_err-print_bytes-clause-drive g c = record {
  soon = (let limit = c.take.ensures.limit in
      let asked = c.ask-performer.ensures.limit in
      let same : c.take.new.self.moment ≡ c.args.drive.now.moment = c.in-Some.ensures.moment in
      let soon = c.print_bytes.ensures.soon (omega (arith, limit, asked, same)) in
      omega (arith, soon, limit, asked));
  pace = (c.print_bytes.ensures.pace ∙ c.take.ensures.pace);
  tracks = (c.print_bytes.ensures.tracks ∙ c.take.ensures.tracks);
}

-- all is said
pub returns-clause-printed : goal.returns-clause-printed
returns-clause-printed g c = record {
  ok = (on_ok_weaker c.print.result (λ end m r.
      let o = c.in-Some.ensures.taken (has_not_failed g.M.Medium.seen g.met.M.Steady.steady c.args.drive.now c.take.new.self) m (Get c.args.channel c.args.most) [] false c.requires.request.0 (c.requires.request.1, c.requires.request.2) (c.ask-performer.ensures.under_way m r) in
      let rest = c.in_ok-print_bytes.ensures.said.ok m (Get c.args.channel c.args.most) (c.in-Some.byte ∷ []) c.in-Some.is_last c.requires.request.0 (c.requires.request.1, c.requires.request.2) o in
      let all = rest_at _ _ c.in-Some.byte c.in-Some.is_last c.args.channel c.args.most m _ _ c.take.ensures.pace rest.1 in
      (line_all _ _ _ _ _ c.args.channel c.in-Some.byte c.in-Some.is_last (talked_at c.args.drive.now.pace c.args.channel c.args.most m) (first_at g.M.Medium.seen c.args.drive.now.pace c.take.new.self c.take.new.performer m (Get c.args.channel c.args.most) (c.in-Some.byte ∷ []) c.in-Some.is_last c.take.ensures.pace o) c.in_ok-print_head.ensures.ok c.in_ok-print_byte.ensures.ok all end, subst (λ (e : Pace). Rests g.M.Medium.seen c.print_bytes.new.drive (talked_at e c.args.channel c.args.most m).machine) c.take.ensures.pace rest.0)) c.print.ensures.ok);
  err = (on_err_weaker c.print.result (λ part m r.
      let o = c.in-Some.ensures.taken (has_not_failed g.M.Medium.seen g.met.M.Steady.steady c.args.drive.now c.take.new.self) m (Get c.args.channel c.args.most) [] false c.requires.request.0 (c.requires.request.1, c.requires.request.2) (c.ask-performer.ensures.under_way m r) in
      let rest = c.in_ok-print_bytes.ensures.said.ok m (Get c.args.channel c.args.most) (c.in-Some.byte ∷ []) c.in-Some.is_last c.requires.request.0 (c.requires.request.1, c.requires.request.2) o in
      let all = rest_at _ _ c.in-Some.byte c.in-Some.is_last c.args.channel c.args.most m _ _ c.take.ensures.pace rest.1 in
      line_end_part _ _ _ _ _ c.args.channel c.in-Some.byte c.in-Some.is_last (talked_at c.args.drive.now.pace c.args.channel c.args.most m) (first_at g.M.Medium.seen c.args.drive.now.pace c.take.new.self c.take.new.performer m (Get c.args.channel c.args.most) (c.in-Some.byte ∷ []) c.in-Some.is_last c.take.ensures.pace o) c.in_ok-print_head.ensures.ok c.in_ok-print_byte.ensures.ok all part) c.print.ensures.err);
  grows = (grows_on _ _ _ c.in_ok-print_head.ensures.grows (grows_on _ _ _ c.in_ok-print_byte.ensures.grows (grows_on _ _ _ c.in_ok-print_bytes.ensures.said.grows c.print.ensures.grows)));
  fault = (search rules);
}

pub returns-clause-drive : goal.returns-clause-drive
returns-clause-drive g c = record {
  soon = (let limit = c.take.ensures.limit in
      let asked = c.ask-performer.ensures.limit in
      let same : c.take.new.self.moment ≡ c.args.drive.now.moment = c.in-Some.ensures.moment in
      let soon = c.print_bytes.ensures.soon (omega (arith, limit, asked, same)) in
      omega (arith, soon, limit, asked));
  pace = (c.print_bytes.ensures.pace ∙ c.take.ensures.pace);
  tracks = (c.print_bytes.ensures.tracks ∙ c.take.ensures.tracks);
}
