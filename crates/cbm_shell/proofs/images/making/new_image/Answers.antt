use Rattle.std.proofs.Common.{◌≡◌, List, ℕ, None, false, sym, subst}
use Rattle.cbm_image.specs.AnyDisks.{IsDiskOfImage}
use Rattle.cbm_image.specs.Images.{kind_of, image_fault}
use Rattle.cbm_shell.specs.Making.{IsBlankImage}
use Rattle.cbm_shell.proofs.NewImages.{blank_disk, its_kind}
use Rattle.cbm_shell.proofs.images.making.new_image.Goals as goal

-- zeros open without fault
pub opened-requires : goal.opened-requires
opened-requires c =
    let blank = subst (λ (xs : List ℕ). IsBlankImage c.args.form xs) (sym c.as_slice.ensures.value) c.in_ok-image.ensures in
    subst (λ k. image_fault k c.as_slice.result.now ≡ None) (sym blank.opens) blank.accepted

-- as the format of the form, with all sectors zeros
pub new_d64-requires-clause-form : goal.new_d64-requires-clause-form
new_d64-requires-clause-form c =
    let blank = subst (λ (xs : List ℕ). IsBlankImage c.args.form xs) (sym c.as_slice.ensures.value) c.in_ok-image.ensures in
    its_kind c.args.form c.as_slice.result.now _ blank (subst (λ d. IsDiskOfImage (kind_of c.as_slice.result.now) c.as_slice.result.now false d) c.in-D64.is c.in_ok-disk.ensures)

pub new_d64-requires-clause-blank : goal.new_d64-requires-clause-blank
new_d64-requires-clause-blank c =
    let blank = subst (λ (xs : List ℕ). IsBlankImage c.args.form xs) (sym c.as_slice.ensures.value) c.in_ok-image.ensures in
    blank_disk c.args.form c.as_slice.result.now _ blank (subst (λ d. IsDiskOfImage (kind_of c.as_slice.result.now) c.as_slice.result.now false d) c.in-D64.is c.in_ok-disk.ensures)

pub new_g64-requires-clause-form : goal.new_g64-requires-clause-form
new_g64-requires-clause-form c =
    let blank = subst (λ (xs : List ℕ). IsBlankImage c.args.form xs) (sym c.as_slice.ensures.value) c.in_ok-image.ensures in
    its_kind c.args.form c.as_slice.result.now _ blank (subst (λ d. IsDiskOfImage (kind_of c.as_slice.result.now) c.as_slice.result.now false d) c.in-G64.is c.in_ok-disk.ensures)

pub new_g64-requires-clause-blank : goal.new_g64-requires-clause-blank
new_g64-requires-clause-blank c =
    let blank = subst (λ (xs : List ℕ). IsBlankImage c.args.form xs) (sym c.as_slice.ensures.value) c.in_ok-image.ensures in
    blank_disk c.args.form c.as_slice.result.now _ blank (subst (λ d. IsDiskOfImage (kind_of c.as_slice.result.now) c.as_slice.result.now false d) c.in-G64.is c.in_ok-disk.ensures)
