-- What is told to be of another format is refused as an image.
use Rattle.std.proofs.Common.{◌≡◌, ℕ, List, length, Bool, true, false, Some, None, ap}
use Rattle.std.specs.Prelude.{if◌then◌else◌}
use Rattle.std.proofs.lemmas.Bool.{true≢false}
use Rattle.cbm_image.specs.declared.kind.Kind.{Kind}
use Rattle.cbm_image.specs.declared.kind.Kind.TheVariants.{D64, G64}
use Rattle.cbm_image.specs.Images.{image_fault}
use Rattle.cbm_shell.specs.Foreign.{is_ours}

pub refused_first : (kind : Kind) (image : List ℕ) → is_ours kind (length image) ≡ false → image_fault kind image ≡ Some 1
refused_first D64 image e = ap (λ (b : Bool). if b then None else Some 1) e
refused_first G64 image e = absurd (true≢false e)
