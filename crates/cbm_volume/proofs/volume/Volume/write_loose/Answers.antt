use Rattle.std.proofs.Common.{◌≡◌, true, Ok, refl, ap, subst, arith}
use Rattle.std.proofs.lemmas.Result.{err_from_is_err_and}
use Rattle.cbm_medium.specs.Content.{written}
use Rattle.cbm_medium.specs.Seen.{Seen, with_content, OnlyContent}
use Rattle.cbm_medium.proofs.Sequences.{write_only, write_refused}
use Rattle.cbm_bam.specs.Marks.{is_marked}
use Rattle.cbm_volume.specs.Calls.{OfDisk}
use Rattle.cbm_volume.specs.Writers.{HoldsNow}
use Rattle.cbm_volume.specs.Loose.{AreSpared, IsLooseOn, IsNotLoose}
use Rattle.cbm_volume.proofs.loosened.Reowned.{gone, written_unclaimed}
use Rattle.cbm_volume.proofs.volume.Volume.write_loose.Goals as goal

-- ---- the sector is somebody's

pub returns-then-not-is_loose-clause-refused : goal.returns-then-not-is_loose-clause-refused
returns-then-not-is_loose-clause-refused g c = λ e.
    (subst (λ v. IsNotLoose (g.M.Medium.seen v) (is_marked c.args.spared.now) c.args.at) c.self.view_is c.if-not-is_loose.ensures, refl)

-- ---- the medium refuses

pub returns-in_err-write-clause-only : goal.returns-in_err-write-clause-only
returns-in_err-write-clause-only g c =
    let new : Seen = g.M.Medium.seen c.write.new.self in
    let p = err_from_is_err_and c.from_residual.result c.from_residual.ensures.1 in
    subst (λ v. OnlyContent (g.M.Medium.seen v).tracks c.from_residual.result (g.M.Medium.seen v) new) c.self.view_is
    (write_refused c.from_residual.result p.0 c.in_err-write.field-0.0 c.args.at (g.M.Medium.seen c.self.inside.medium) new p.1 p.2 c.in_err-write.ensures.err.0 c.in_err-write.ensures.err.1)

-- ---- it is written

pub returns-clause-done : goal.returns-clause-done
returns-clause-done g c = λ e.
    subst (λ v. IsLooseOn (g.M.Medium.seen v) (is_marked c.args.spared.now) c.args.at
    × (g.M.Medium.seen c.write.new.self ≡ with_content (written (g.M.Medium.seen v).content c.args.at c.args.bytes.now) (g.M.Medium.seen v))) c.self.view_is (c.if-not-is_loose.ensures, c.in_ok-write.ensures.ok)

pub returns-clause-holds : goal.returns-clause-holds
returns-clause-holds g c =
    let seen = g.M.Medium.seen in
    let old : Seen = seen c.self.inside.medium in
    let new : Seen = seen c.write.new.self in
    let e : new ≡ with_content (written old.content c.args.at c.args.bytes.now) old = c.in_ok-write.ensures.ok in
    let loose : IsLooseOn old (is_marked c.args.spared.now) c.args.at = c.if-not-is_loose.ensures in
    subst (λ v. OfDisk (seen v) (λ d uses. AreSpared (seen v).content (is_marked c.args.spared.now) uses → HoldsNow (seen v).tracks new.content d uses)) c.self.view_is
    (λ d uses h spared. written_unclaimed old.tracks old.content new.content d uses c.args.at c.args.bytes.now (ap (λ (s : Seen). s.content) e)
    (gone old.tracks old.content d uses c.args.at h loose.0 loose.1 (spared c.args.at loose.2)))

pub returns-clause-only : goal.returns-clause-only
returns-clause-only g c =
    let seen = g.M.Medium.seen in
    let new : Seen = seen c.write.new.self in
    subst (λ v. OnlyContent (seen v).tracks (Ok true) (seen v) new) c.self.view_is
    (let old : Seen = seen c.self.inside.medium in
    let few = ap (λ v. (seen v).tracks) c.self.view_is in
    let w = write_only {disk = old.tracks} old new c.args.at c.args.bytes.now (omega (arith, c.requires, few)) c.in_ok-write.ensures.ok in
    record { tracks = w.tracks; protected = w.protected; id = w.id; outside = w.outside; counted = w.counted; once = w.once; uncounted = w.uncounted; own = tt; guarded = tt; shown = tt; beyond = w.beyond; readable = w.readable })
