-- A D64 of one of its three sizes has no fault.
use Rattle.std.proofs.Common.{◌≡◌, ℕ, ap, inl, inr, None}
use Rattle.cbm_d64.specs.Image.{IsImageSize}
use Rattle.cbm_image.specs.Images.{size_fault}

-- an image of one of the three sizes has no fault
pub right_size : (n : ℕ) → IsImageSize n → size_fault n ≡ None
right_size n (inl e) = ap size_fault e
right_size n (inr (inl e)) = ap size_fault e
right_size n (inr (inr e)) = ap size_fault e
