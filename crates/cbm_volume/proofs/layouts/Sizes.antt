-- A disk of as many blocks uses as many tracks of its medium.
use Rattle.std.proofs.Common.{◌≡◌, ℕ, sym, ap, ◌∙◌, ◌⊎◌, inl, inr, arith}
use Rattle.cbm_medium.specs.Content.{Content}
use Rattle.cbm_file.specs.Files.{Disk, blocks_on}
use Rattle.cbm_bam.specs.Map.{geometry_of}
use Rattle.cbm_volume.specs.Writers.{Use, HoldsNow}
use Rattle.cbm_volume.proofs.layouts.Listing.{geometry_size}

one_size : (m n : ℕ) → (m ≡ 35) ⊎ (m ≡ 40) → (n ≡ 35) ⊎ (n ≡ 40) → blocks_on m ≡ blocks_on n → m ≡ n
one_size m n (inl a) (inl b) e = a ∙ sym b
one_size m n (inr a) (inr b) e = a ∙ sym b
one_size m n (inl a) (inr b) e = absurd (let z : blocks_on 35 ≡ blocks_on 40 = sym (ap blocks_on a) ∙ e ∙ ap blocks_on b in omega arith)
one_size m n (inr a) (inl b) e = absurd (let z : blocks_on 40 ≡ blocks_on 35 = sym (ap blocks_on a) ∙ e ∙ ap blocks_on b in omega arith)

pub same_size : (medium medium' : ℕ) (c c' : Content) (d d' : Disk) (uses uses' : ℕ → Use) → HoldsNow medium c d uses → HoldsNow medium' c' d' uses' → d'.total ≡ d.total → geometry_of medium' c' ≡ geometry_of medium c
same_size medium medium' c c' d d' uses uses' h h' e =
    one_size (geometry_of medium' c') (geometry_of medium c) (geometry_size medium' c') (geometry_size medium c) (sym h'.so.stands.describes.total ∙ e ∙ h.so.stands.describes.total)
