use Rattle.std.proofs.Common.{◌≡◌, ℕ, suc, ◌+◌, List, [], ◌∷◌, ◌++◌, get_or, drop, ap, refl, arith}
use Rattle.std.proofs.lemmas.List.{get_or-drop}
use Rattle.byteorder.specs.Endian.{little_number}
use Rattle.cbm_g64.specs.File.{g64_circles, track_in, two_at, four_at}

pub tracks_none : (file : List ℕ) → g64_circles file 0 ≡ []
unfolding g64_circles
tracks_none file = refl

pub tracks_more : (file : List ℕ) (n : ℕ) → g64_circles file (n + 1) ≡ g64_circles file n ++ (track_in file n ∷ [])
unfolding g64_circles
tracks_more file n = ap (g64_circles file) (let e : n + 1 ≡ suc n = omega arith in e)

pub two_is : (file : List ℕ) (at : ℕ) → little_number 2 (drop at file) ≡ two_at file at
two_is file at =
    let z : get_or file (at + 0) 0 ≡ get_or file at 0 = ap (λ (p : ℕ). get_or file p 0) (omega arith) in
    omega (arith, get_or-drop at file 0 0, get_or-drop at file 1 0, z)

pub four_is : (file : List ℕ) (at : ℕ) → little_number 4 (drop at file) ≡ four_at file at
four_is file at =
    let z : get_or file (at + 0) 0 ≡ get_or file at 0 = ap (λ (p : ℕ). get_or file p 0) (omega arith) in
    let t : get_or file (at + 2 + 1) 0 ≡ get_or file (at + 3) 0 = ap (λ (p : ℕ). get_or file p 0) (omega arith) in
    omega (arith, get_or-drop at file 0 0, get_or-drop at file 1 0, get_or-drop at file 2 0, get_or-drop at file 3 0, z, t)
