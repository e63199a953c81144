use Rattle.cbm_host.proofs.Unfailing.{has_not_failed}
use Rattle.std.proofs.Common.{◌≤◌, List, ℕ, false, refl, sym, ◌∙◌, subst, arith}
use Rattle.cbm_host.specs.Hosted.{IsUnderWay}
use Rattle.cbm_host.specs.declared.request.Request.TheVariants.{Status}
use Rattle.cbm_program.proofs.StatusLemmas.{room}
use Rattle.cbm_program.proofs.performing.status.status_line.Goals as goal

pub bytes-init : goal.bytes-init
bytes-init g c = record {
  under_way = λ m r. (false, subst (λ (l : List ℕ). IsUnderWay g.M.Medium.seen c.args.drive.now c.ask-performer.result m Status l false) (sym c.new-line.ensures) (c.ask-performer.ensures.under_way m r));
  limit = c.ask-performer.ensures.limit;
  paced = refl;
  tracks = refl;
}

pub bytes-preserved : goal.bytes-preserved
bytes-preserved g c = record {
  under_way = λ m r.
      let u = c.bytes.invariant.under_way m r in
      let k = c.in-Some.ensures.taken (has_not_failed g.M.Medium.seen g.met.M.Steady.steady c.bytes.drive c.take.new.self) m Status c.bytes.line.items u.0 (omega arith) tt u.1 in
      (c.in-Some._last, subst (λ (l : List ℕ). IsUnderWay g.M.Medium.seen c.take.new.self c.take.new.performer m Status l c.in-Some._last) (sym (c.keep.ensures (room m c.bytes.line.items c.in-Some.byte c.in-Some._last k.first))) k.under_way);
  limit = c.take.ensures.limit ∙ c.bytes.invariant.limit;
  paced = c.take.ensures.pace ∙ c.bytes.invariant.paced;
  tracks = c.take.ensures.tracks ∙ c.bytes.invariant.tracks;
}

pub bytes-smaller : goal.bytes-smaller
bytes-smaller g c = c.in-Some.ensures.fewer

pub returns-clause-told : goal.returns-clause-told
returns-clause-told g c = λ m r.
    let u = c.bytes.invariant.under_way m r in
    let o = c.in_default.ensures.taken (has_not_failed g.M.Medium.seen g.met.M.Steady.steady c.bytes.drive c.take.new.self) m Status c.bytes.line.items u.0 (omega arith) tt u.1 in
    (sym o.said, o.rests)

pub returns-clause-drive : goal.returns-clause-drive
returns-clause-drive g c =
    let soon : c.take.new.self.moment ≤ c.bytes.performer.limit = c.in_default.ensures.moment in
    let same = c.bytes.invariant.limit in
    record { soon = omega (arith, soon, same); pace = c.take.ensures.pace ∙ c.bytes.invariant.paced; tracks = c.take.ensures.tracks ∙ c.bytes.invariant.tracks }
