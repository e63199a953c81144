use Rattle.std.proofs.Common.{◌≡◌, ◌≤◌, ℕ, Bool, true, false, Result, Ok, refl, sym, ap, subst, ◌∙◌, arith}
use Rattle.cbm_medium.specs.Seen.{Seen}
use Rattle.cbm_medium.specs.declared.fault.Trouble.{Trouble}
use Rattle.cbm_bam.specs.Map.{geometry_of, map_of, is_free_in, with_bit, Remaps}
use Rattle.cbm_bam.specs.Marks.{is_marked}
use Rattle.cbm_volume.specs.Calls.{OfDisk}
use Rattle.cbm_volume.specs.Writers.{HoldsNow}
use Rattle.cbm_volume.specs.Loose.{AreSpared, IsLooseOn, IsNotLoose, one_more_free}
use Rattle.cbm_volume.proofs.loosened.Reowned.{gone}
use Rattle.cbm_volume.proofs.loosened.Remapped.{given_at, on_disk_has}
use Rattle.cbm_volume.proofs.volume.Volume.give_at.Goals as goal

-- the sector is somebody's
pub returns-then-not-is_loose-clause-refused : goal.returns-then-not-is_loose-clause-refused
returns-then-not-is_loose-clause-refused g c = λ e.
    (subst (λ v. IsNotLoose (g.M.Medium.seen v) (is_marked c.args.spared.now) c.args.at) c.self.view_is c.if-not-is_loose.ensures, refl)

-- it is free already
pub returns-then-branch-clause-done : goal.returns-then-branch-clause-done
returns-then-branch-clause-done g c = λ e. subst (λ v. IsLooseOn (g.M.Medium.seen v) (is_marked c.args.spared.now) c.args.at) c.self.view_is c.if-not-is_loose.ensures

-- ---- it is given back

pub returns-clause-done : goal.returns-clause-done
returns-clause-done g c = λ e. subst (λ v. IsLooseOn (g.M.Medium.seen v) (is_marked c.args.spared.now) c.args.at) c.self.view_is c.if-not-is_loose.ensures

pub returns-clause-holds : goal.returns-clause-holds
returns-clause-holds g c =
    let seen = g.M.Medium.seen in
    let old : Seen = seen c.self.inside.medium in
    let new : Seen = seen c.give.new.medium in
    let loose : IsLooseOn old (is_marked c.args.spared.now) c.args.at = c.if-not-is_loose.ensures in
    let tracks : ℕ = geometry_of old.tracks old.content in
    let few : c.args.at.track ≤ tracks = subst (λ v. c.args.at.track ≤ geometry_of (seen v).tracks (seen v).content) (sym c.self.view_is) c.requires in
    let value : c.geometry-geometry.result ≡ tracks = c.geometry-geometry.ensures.value ∙ sym (ap (λ v. geometry_of (seen v).tracks (seen v).content) c.self.view_is) in
    let r : Remaps tracks old.content new.content (with_bit (is_free_in (map_of old.content)) c.args.at true)
    = subst (λ (n : ℕ). Remaps n old.content new.content (with_bit (is_free_in (map_of old.content)) c.args.at true)) value (c.in_ok-give.ensures.ok (omega (arith, few, value))) in
    subst (λ v. OfDisk (seen v) (λ d uses. AreSpared (seen v).content (is_marked c.args.spared.now) uses → ◌≡◌ {A = Result Bool Trouble} (Ok true) (Ok true) → is_free_in (map_of (seen v).content) c.args.at ≡ false → HoldsNow (seen v).tracks new.content (one_more_free c.args.at.track d) uses)) c.self.view_is
    (λ d uses h spared e taken. given_at old.tracks old.content new.content d uses c.args.at (gone old.tracks old.content d uses c.args.at h loose.0 loose.1 (spared c.args.at loose.2))
    (on_disk_has tracks c.args.at c.track.ensures.on_disk few) r taken)
