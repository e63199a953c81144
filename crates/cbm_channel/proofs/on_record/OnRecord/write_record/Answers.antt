use Rattle.std.proofs.Common.{rules, refl, subst, ◌+◌, Ok, Err}
use Rattle.cbm_medium.specs.Seen.{Seen, ShowsGround}
use Rattle.cbm_channel.specs.Placed.{Placed, IsPlacedAt}
use Rattle.cbm_channel.proofs.RecordPuts.{read_there, read_anew}
use Rattle.cbm_channel.proofs.Elses.{else_then}
use Rattle.std.specs.Prelude.{IfErr}
use Rattle.std.proofs.lemmas.Result.{err_from_is_err_and}
use Rattle.cbm_channel.proofs.on_record.OnRecord.write_record.Goals as goal

-- on a sound disk the next record reads
pub returns-in_err-go_on-in-Ok-Some-clause-put : goal.returns-in_err-go_on-in-Ok-Some-clause-put
returns-in_err-go_on-in-Ok-Some-clause-put g c = λ d uses b s rs can.
    let old : Seen = g.M.Medium.seen c.args.volume.now in
    let new : Seen = g.M.Medium.seen c.store.new.volume in
    let stored = rw c.in-Ok-Some.field-0-is at (c.in-Ok-Some.ensures.put d uses b s rs can) in
    let next = rw c.in-Ok-Some.field-0-is at (c.in-Ok-Some.ensures.next d uses b s rs can) in
    let bad = read_there old new d uses c.args.self.now c.go_on.new.self b s rs c.args.bytes.now c.in-Ok-Some.written.cut (Err c.in_err-go_on-in-Ok-Some.field-0.0) can c.store.ensures.medium.tracks (c.in_err-go_on-in-Ok-Some.ensures.well new next) stored in absurd (cc)

pub returns-in_ok-go_on-in-Ok-Some-clause-put : goal.returns-in_ok-go_on-in-Ok-Some-clause-put
returns-in_ok-go_on-in-Ok-Some-clause-put g c = λ d uses b s rs can.
    let new : Seen = g.M.Medium.seen c.store.new.volume in
    let at = c.in_ok-go_on-in-Ok-Some.ensures.place in
    let next = rw c.in-Ok-Some.field-0-is at (c.in-Ok-Some.ensures.next d uses b s rs can) in (
      rw c.in-Ok-Some.field-0-is at (c.in-Ok-Some.ensures.put d uses b s rs can),
      (at, read_anew new c.args.self.now c.go_on.new.self (c.args.self.now.number + 1) 1 (Ok c.in_ok-go_on-in-Ok-Some.field-0) (c.in_ok-go_on-in-Ok-Some.ensures.well new next) at),
    )

-- the file would be too large
pub returns-in-Ok-None-clause-put : goal.returns-in-Ok-None-clause-put
returns-in-Ok-None-clause-put g c = λ d uses b s rs can. (rw c.in-Ok-None.field-0-is at (c.in-Ok-None.ensures.put d uses b s rs can), refl)

-- a write was refused
pub returns-in-Err-clause-put : goal.returns-in-Err-clause-put
returns-in-Err-clause-put g c = λ d uses b s rs can.
    let new : Seen = g.M.Medium.seen c.store.new.volume in
    let at = subst (λ (r : Placed). IsPlacedAt c.args.self.now c.go-in-Err.new.self r.number r.position) c.go.view_is c.go-in-Err.ensures.place in
    (c.in-Err.ensures.put d uses b s rs can, (at, read_anew new c.args.self.now c.go-in-Err.new.self c.args.self.now.number c.args.self.now.position c.go-in-Err.result c.go-in-Err.ensures.well at))

-- ---- what else the medium shows

-- the next record doesn't read
pub returns-in_err-go_on-in-Ok-Some-clause-call : goal.returns-in_err-go_on-in-Ok-Some-clause-call
returns-in_err-go_on-in-Ok-Some-clause-call g c =
    let new : Seen = g.M.Medium.seen c.store.new.volume in
    let p = err_from_is_err_and c.from_residual.result c.from_residual.ensures.1 in
    let shows = rw c.in-Ok-Some.field-0-is at (c.in-Ok-Some.ensures.write.next_shown) in
    record {
      kept = (search rules);
      guarded = (search rules);
      medium = else_then c.store.result c.from_residual.result c.in-Ok-Some.field-0 (g.M.Medium.seen c.args.volume.now) new c.in-Ok-Some.is c.store.ensures.medium
          (rw (p.1, p.2) (λ is. absurd (c.in_err-go_on-in-Ok-Some.ensures.never_26 is)))
          (rw (p.1, p.2) (subst (λ x. IfErr x (ShowsGround new)) c.in_err-go_on-in-Ok-Some.ensures.handed shows));
    }
