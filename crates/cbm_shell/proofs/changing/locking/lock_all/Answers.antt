use Rattle.std.proofs.Common.{refl, ap, ◌∙◌, List, ℕ, Bor}
use Rattle.std.specs.Prelude.{map}
use Rattle.std.proofs.lemmas.List.{drop_all}
use Rattle.cbm_shell.proofs.RecordLemmas.{next_off}
use Rattle.cbm_shell.proofs.LockLemmas.{locking_begin, locking_on, locking_end, each_sound}
use Rattle.cbm_shell.proofs.changing.locking.lock_all.Goals as goal

pub loop-pattern-init : goal.loop-pattern-init
loop-pattern-init g c = (locking_begin c.args.is_locked c.args.geometry _ _ _ refl, record { tracks = refl; protected = refl; outside = refl }, λ can. can)

pub loop-pattern-preserved : goal.loop-pattern-preserved
loop-pattern-preserved g c =
    let old = g.M.Medium.seen c.args.medium.now in
    let now = g.M.Medium.seen c.loop-pattern.medium in
    let next = g.M.Medium.seen c.lock_matching.new.medium in
    let inv = c.loop-pattern.invariant in
    let each = c.in_ok-lock_matching.ensures.locks in (
      locking_on c.args.is_locked c.args.geometry _ _ _ _ old.content now.content next.content inv.0
          (ap (λ (t : List (Bor (List ℕ))). map (λ r. r.now) t) (next_off c.args.patterns.now c.loop-pattern.pattern-index _ c.loop-pattern-test.true)) each,
      record { tracks = c.lock_matching.ensures.same.tracks ∙ inv.1.tracks; protected = c.lock_matching.ensures.same.protected ∙ inv.1.protected; outside = c.lock_matching.ensures.same.outside ∙ inv.1.outside },
      λ can.
          let a = inv.2 can in
          let s = each_sound c.args.is_locked c.args.geometry _ now.content next.content a.layout a.sound each in
          record { layout = s.layout; sound = s.sound; free = c.lock_matching.ensures.same.protected ∙ a.free },
    )

pub returns-in_err-lock_matching-clause-never : goal.returns-in_err-lock_matching-clause-never
returns-in_err-lock_matching-clause-never g c = λ can. let bad = c.in_err-lock_matching.ensures.never (c.loop-pattern.invariant.2 can) in absurd (cc)

pub returns-clause-locks : goal.returns-clause-locks
returns-clause-locks g c =
    locking_end c.args.is_locked c.args.geometry _ _ (g.M.Medium.seen c.args.medium.now).content (g.M.Medium.seen c.loop-pattern.medium).content c.loop-pattern.invariant.0
    (ap (λ (t : List (Bor (List ℕ))). map (λ r. r.now) t) (drop_all c.loop-pattern.pattern-index c.args.patterns.now c.loop-pattern-test.false))
