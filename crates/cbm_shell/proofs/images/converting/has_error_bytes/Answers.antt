use Rattle.std.proofs.Common.{◌≡◌, ℕ, ◌<◌, List, length, refl, arith, true, false}
use Rattle.std.proofs.lemmas.Bool.{eq-eqb, ne_eqb}
use Rattle.cbm_track.proofs.Firsts.{each_from, each_not}
use Rattle.cbm_image.specs.declared.kind.Kind.TheVariants.{D64}
use Rattle.cbm_shell.specs.Converting.{is_good, has_error_bytes}
use Rattle.cbm_shell.proofs.images.converting.has_error_bytes.Goals as goal

one_bad : (image : List ℕ) (i : ℕ) → length image ≡ 175531 → i < 683 → is_good image i ≡ false → true ≡ has_error_bytes D64 image
one_bad image i e l bad = rw (eq-eqb (length image) 175531 e, each_not (is_good image) 683 i l bad) refl

all_good : (image : List ℕ) → length image ≡ 175531 → ((i : ℕ) → i < 683 → is_good image i ≡ true) → false ≡ has_error_bytes D64 image
all_good image e good = rw (eq-eqb (length image) 175531 e, each_from (is_good image) 683 good) refl

pub returns-then-image-i-ne1 : goal.returns-then-image-i-ne1
unfolding is_good
returns-then-image-i-ne1 c = one_bad c.args.image.now c.loop-i.i c.if-image-ne-WITH_ERRORS.false (omega arith) (ne_eqb _ 1 c.if-image-i-ne1.true)

pub returns : goal.returns
returns c = all_good c.args.image.now c.if-image-ne-WITH_ERRORS.false (λ k h. c.loop-i.invariant k (omega arith))
