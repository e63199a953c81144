use Rattle.std.proofs.Common.{sym, ap, ◌∙◌}
use Rattle.cbm_channel.proofs.Commanding.{found_is, answer_of, rename_unfound, rename_passed, rename_open, rename_there, rename_guarded}
use Rattle.cbm_channel.proofs.dos.Dos.plan_rename.Goals as goal

pub returns-in_err-found-clause-planned : goal.returns-in_err-found-clause-planned
returns-in_err-found-clause-planned g c = λ m s.
    rename_passed m c.args.new.now c.args.old.now c.from_residual.result c.in_err-found.field-0.0 c.from_residual.ensures.1 (rename_unfound m c.args.new.now c.args.old.now _ _ c.in_err-found.field-0.0 (c.in_err-found.ensures.found m s))

pub returns-then-in_writing-clause-planned : goal.returns-then-in_writing-clause-planned
returns-then-in_writing-clause-planned g c = λ m s.
    let x = found_is _ _ m.disk _ c.in_ok-found.found (c.in_ok-found.ensures.found m s) in
    rename_open m c.args.new.now c.args.old.now c.in_ok-found.found.slot x.0 x.1 c.plain.result (sym (c.in_writing.ensures m s) ∙ c.if-in_writing.true) c.plain.ensures

pub returns-then-branch-clause-planned : goal.returns-then-branch-clause-planned
returns-then-branch-clause-planned g c = λ m s.
    let x = found_is _ _ m.disk _ c.in_ok-found.found (c.in_ok-found.ensures.found m s) in
    rename_there m c.args.new.now c.args.old.now c.in_ok-found.found.slot x.0 x.1 c.plain-then-branch.result (sym (c.in_writing.ensures m s) ∙ c.if-in_writing.false)
    (sym (ap answer_of (c.in_ok-is_there.ensures.there m s)) ∙ c.if-branch.true) c.plain-then-branch.ensures

pub returns-then-is_protected-clause-planned : goal.returns-then-is_protected-clause-planned
returns-then-is_protected-clause-planned g c = λ m s.
    let x = found_is _ _ m.disk _ c.in_ok-found.found (c.in_ok-found.ensures.found m s) in
    rename_guarded m c.args.new.now c.args.old.now c.in_ok-found.found.slot x.0 x.1 c.plain-then-is_protected.result (sym (c.in_writing.ensures m s) ∙ c.if-in_writing.false)
    (sym (ap answer_of (c.in_ok-is_there.ensures.there m s)) ∙ c.if-branch.false)
    (s.same_protection ∙ ap (λ v. (g.M.Medium.seen v).protected) (sym c.volume.ensures) ∙ sym c.is_protected.ensures ∙ c.if-is_protected.true) c.plain-then-is_protected.ensures

pub returns-clause-planned : goal.returns-clause-planned
returns-clause-planned g c = λ m s.
    let x = found_is _ _ m.disk _ c.in_ok-found.found (c.in_ok-found.ensures.found m s) in
    record {
      file = x.0;
      first = x.1;
      in_slot = x.2;
      unwritten = sym (c.in_writing.ensures m s) ∙ c.if-in_writing.false;
      fresh = (sym (ap answer_of (c.in_ok-is_there.ensures.there m s)) ∙ c.if-branch.false);
      unprotected = s.same_protection ∙ ap (λ v. (g.M.Medium.seen v).protected) (sym c.volume.ensures) ∙ sym c.is_protected.ensures ∙ c.if-is_protected.false;
    }
