use Rattle.std.proofs.Common.{◌≡◌, ◌≤◌, ℕ, true, false, Ok, refl, sym, ap, subst, ◌∙◌, arith, inl, inr}
use Rattle.std.specs.Prelude.{IfOk}
use Rattle.cbm_medium.specs.Seen.{Seen}
use Rattle.cbm_bam.specs.Map.{geometry_of, map_of, is_free_in, Takes}
use Rattle.cbm_volume.specs.Calls.{OfDisk}
use Rattle.cbm_volume.specs.Writers.{HoldsNow}
use Rattle.cbm_volume.specs.check.WholeDisk.{ClaimsSeen, SeenFault}
use Rattle.cbm_volume.specs.Loose.{one_fewer_free}
use Rattle.cbm_volume.proofs.loosened.Remapped.{claimed_at}
use Rattle.cbm_volume.proofs.volume.Volume.claim_at.Goals as goal

-- the disk isn't sound
pub returns-in_default-clause-refused : goal.returns-in_default-clause-refused
returns-in_default-clause-refused g c = λ e. (inl (c.in_default.field-0, subst (λ v. SeenFault (g.M.Medium.seen v) c.in_default.field-0) c.self.view_is c.in_default.ensures.err), refl)

-- ---- it is claimed

pub returns-clause-done : goal.returns-clause-done
returns-clause-done g c = λ e.
    let seen = g.M.Medium.seen in
    let old : Seen = seen c.self.inside.medium in
    let content = (seen c.claim_at.new.medium).content in
    let free : is_free_in (map_of old.content) c.args.at ≡ true = sym (subst (λ r. IfOk r (λ f. f ≡ is_free_in (map_of old.content) c.args.at)) e c.claim_at.ensures.free) in
    let value : c.geometry-geometry.result ≡ geometry_of old.tracks old.content = c.geometry-geometry.ensures.value ∙ sym (ap (λ v. geometry_of (seen v).tracks (seen v).content) c.self.view_is) in
    let few : c.args.at.track ≤ geometry_of old.tracks old.content = subst (λ v. c.args.at.track ≤ geometry_of (seen v).tracks (seen v).content) (sym c.self.view_is) c.requires in
    let takes : Takes (geometry_of old.tracks old.content) old.content content c.args.at = subst (λ (n : ℕ). Takes n old.content content c.args.at) value (c.claim_at.ensures.claimed e (omega (arith, few, value))) in
    subst (λ v. ClaimsSeen (seen v) × (is_free_in (map_of (seen v).content) c.args.at ≡ true) × Takes (geometry_of (seen v).tracks (seen v).content) (seen v).content content c.args.at) c.self.view_is
    (c.in-Ok.ensures.ok.0, free, takes)

pub returns-clause-refused : goal.returns-clause-refused
returns-clause-refused g c = λ e.
    let seen = g.M.Medium.seen in
    let free : is_free_in (map_of (seen c.self.inside.medium).content) c.args.at ≡ false = sym (subst (λ r. IfOk r (λ f. f ≡ is_free_in (map_of (seen c.self.inside.medium).content) c.args.at)) e c.claim_at.ensures.free) in
    (inr (subst (λ v. is_free_in (map_of (seen v).content) c.args.at ≡ false) c.self.view_is free), c.claim_at.ensures.stays e ∙ c.self.view_is)

pub returns-clause-holds : goal.returns-clause-holds
returns-clause-holds g c =
    let seen = g.M.Medium.seen in
    let old : Seen = seen c.self.inside.medium in
    let content = (seen c.claim_at.new.medium).content in
    let value : c.geometry-geometry.result ≡ geometry_of old.tracks old.content = c.geometry-geometry.ensures.value ∙ sym (ap (λ v. geometry_of (seen v).tracks (seen v).content) c.self.view_is) in
    let few : c.args.at.track ≤ geometry_of old.tracks old.content = subst (λ v. c.args.at.track ≤ geometry_of (seen v).tracks (seen v).content) (sym c.self.view_is) c.requires in
    subst (λ v. OfDisk (seen v) (λ d uses. c.claim_at.result ≡ Ok true → HoldsNow (seen v).tracks content (one_fewer_free c.args.at.track d) uses)) c.self.view_is
    (λ d uses h e. claimed_at old.tracks old.content content d uses c.args.at h
    (subst (λ (n : ℕ). Takes n old.content content c.args.at) value (c.claim_at.ensures.claimed e (omega (arith, few, value))))
    (sym (subst (λ r. IfOk r (λ f. f ≡ is_free_in (map_of old.content) c.args.at)) e c.claim_at.ensures.free)))
