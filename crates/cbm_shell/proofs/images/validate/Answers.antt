use Rattle.std.proofs.Common.{◌≡◌, List, ℕ, subst, sym, ap, ◌∙◌, inl, None, Ok}
use Rattle.cbm_bam.specs.Map.{geometry_of}
use Rattle.cbm_image.specs.AnyDisks.{any_seen}
use Rattle.cbm_image.specs.Images.{kind_of, image_fault, tracks_of, content_of, outside_of}
use Rattle.cbm_image.proofs.Again.{opens_again}
use Rattle.cbm_volume.specs.Sweeps.{IsPutInOrder}
use Rattle.cbm_shell.specs.Freeing.{AreFreed}
use Rattle.cbm_shell.proofs.ImageLemmas.{in_order}
use Rattle.cbm_shell.proofs.images.validate.Goals as goal

pub returns-clause-opens : goal.returns-clause-opens
returns-clause-opens c =
    let new = c.in_ok-image.image.items in
    let saved = c.in_ok-image.ensures.ok in
    let bytes : outside_of (kind_of c.args.image.now) new ≡ outside_of (kind_of c.args.image.now) c.args.image.now
    = sym (subst (λ k. (any_seen c.in_ok-new.new).outside ≡ outside_of k new) c.kind_of.ensures saved.same_outside) ∙ c.in_ok-new.ensures.outside in
    record { again = opens_again c.args.image.now new (subst (λ k. image_fault k new ≡ None) c.kind_of.ensures saved.faultless) (inl bytes); bytes = bytes }

pub returns-clause-order : goal.returns-clause-order
returns-clause-order c =
    in_order (λ (v : List ℕ). v) c.kind_of.result (kind_of c.args.image.now) (any_seen c.in_ok-new.new) (Ok c.in_ok-image.image.items) (sym c.kind_of.ensures)
    c.in_ok-image.ensures.ok c.in_ok-new.ensures.order

pub returns-clause-freed : goal.returns-clause-freed
returns-clause-freed c =
    let kind = kind_of c.args.image.now in
    let old = content_of kind c.args.image.now in
    subst (λ t. AreFreed (geometry_of (tracks_of kind c.args.image.now) old) old t c.in_ok-freed.freed.blocks.items c.in_ok-freed.freed.takes_geos)
    (c.in_ok-image.ensures.ok.same_content ∙ ap (λ k. content_of k c.in_ok-image.image.items) c.kind_of.ensures) c.in_ok-freed.ensures.ok

pub returns-clause-changes : goal.returns-clause-changes
returns-clause-changes c =
    let kind = kind_of c.args.image.now in
    let old = content_of kind c.args.image.now in
    subst (λ t. IsPutInOrder (geometry_of (tracks_of kind c.args.image.now) old) old t)
    (c.in_ok-image.ensures.ok.same_content ∙ ap (λ k. content_of k c.in_ok-image.image.items) c.kind_of.ensures) c.in_ok-new.ensures.changes
