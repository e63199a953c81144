-- An image of a disk that was opened from another one opens again, in the same format.
use Rattle.std.proofs.Common.{◌≡◌, ◌⊎◌, ℕ, List, [], ◌∷◌, Bool, true, false, length, take, refl, sym, ap, subst, ◌∙◌, inl, inr, Option, Some, None}
use Rattle.std.specs.Prelude.{codes, not, ◌==◌, ◌&&◌, if◌then◌else◌, option_map}
use Rattle.std.specs.Str.{bytes_eq}
use Rattle.std.proofs.lemmas.Bool.{and_parts, eqb-true}
use Rattle.cbm_medium.specs.Seen.{OutsideBytes, Outside, formatted_outside}
use Rattle.cbm_g64.specs.File.{has_signature, g64_fault}
use Rattle.cbm_g64.specs.Numbers.{g64_fault_number}
use Rattle.cbm_g64.specs.Rest.{g64_rest}
use Rattle.cbm_g64.specs.declared.fault.G64Fault.{G64Fault}
use Rattle.cbm_g64.proofs.Sound.{passes}
use Rattle.cbm_g64.specs.NewFile.{new_file}
use Rattle.cbm_g64.proofs.NewFiles.{length-new_file}
use Rattle.cbm_image.specs.Images.{is_d64_size, kind_of, size_fault, image_fault, outside_of, OpensAgain}
use Rattle.cbm_image.specs.declared.kind.Kind.{Kind}
use Rattle.cbm_image.specs.declared.kind.Kind.TheVariants.{D64, G64}

-- ---- a D64

-- an image without fault as a D64 has one of its sizes
pub d64_size : (n : ℕ) → size_fault n ≡ None → is_d64_size n ≡ true
d64_size n h = by_test (is_d64_size n) h
  where
    by_test : (b : Bool) → ◌≡◌ {A = Option ℕ} (if b then None else Some 1) None → b ≡ true
    by_test true e = refl
    by_test false e = absurd (cc)

-- the format by whether it begins as a G64 does, and whether it has a size of a D64
abbrev kind_by : Bool → Bool → Kind
kind_by is_marked is_sized = if is_marked && not is_sized then G64 else D64

never_sized : (b : Bool) → kind_by b true ≡ D64
never_sized true = refl
never_sized false = refl

-- what has one of the sizes is a D64
pub d64_by_size : (image : List ℕ) → is_d64_size (length image) ≡ true → kind_of image ≡ D64
d64_by_size image h = ap (kind_by (bytes_eq (take 8 image) (codes "GCR-1541"))) h ∙ never_sized (bytes_eq (take 8 image) (codes "GCR-1541"))

-- ---- a G64

-- the signature is what it is told by
pub signed : (file : List ℕ) → has_signature file ≡ true → take 8 file ≡ codes "GCR-1541"
signed [] h = absurd (cc)
signed (a ∷ []) h = absurd (cc)
signed (a ∷ b ∷ []) h = absurd (cc)
signed (a ∷ b ∷ c ∷ []) h = absurd (cc)
signed (a ∷ b ∷ c ∷ d ∷ []) h = absurd (cc)
signed (a ∷ b ∷ c ∷ d ∷ e ∷ []) h = absurd (cc)
signed (a ∷ b ∷ c ∷ d ∷ e ∷ f ∷ []) h = absurd (cc)
signed (a ∷ b ∷ c ∷ d ∷ e ∷ f ∷ g ∷ []) h = absurd (cc)
signed (a ∷ b ∷ c ∷ d ∷ e ∷ f ∷ g ∷ i ∷ rest) h =
    let p = and_parts _ _ h in
    let q = and_parts (a == 71) _ p.1 in
    let r = and_parts (b == 67) _ q.1 in
    let s = and_parts (c == 82) _ r.1 in
    let t = and_parts (d == 45) _ s.1 in
    let u = and_parts (e == 49) _ t.1 in
    let v = and_parts (f == 53) _ u.1 in
    let w = and_parts (g == 52) (i == 49) v.1 in
    rw (eqb-true a 71 q.0, eqb-true b 67 r.0, eqb-true c 82 s.0, eqb-true d 45 t.0, eqb-true e 49 u.0, eqb-true f 53 v.0, eqb-true g 52 w.0, eqb-true i 49 w.1) refl

-- one without fault, and of no size of a D64, is taken for a G64
pub has_kind : (file : List ℕ) → g64_fault file ≡ None → is_d64_size (length file) ≡ false → kind_of file ≡ G64
has_kind file h other = (λ i. kind_by (bytes_eq (signed file (passes file h).signature i) (codes "GCR-1541")) (other i))

-- a G64 has no size of a D64
never_marked : (a b : Bool) → kind_by a b ≡ G64 → b ≡ false
never_marked true true h = absurd (cc)
never_marked true false h = refl
never_marked false b h = absurd (cc)

g64_no_fault : (o : Option G64Fault) → option_map g64_fault_number o ≡ None → o ≡ None
g64_no_fault None h = refl
g64_no_fault (Some fault) h = absurd (cc)

-- images whose other bytes are the same have as many bytes
pub same_size : (new old : List ℕ) → g64_rest new ≡ g64_rest old → length new ≡ length old
unfolding g64_rest
same_size new old e = ap (λ (r : OutsideBytes). r.size) e

-- ---- either

-- the other bytes are those of before, or of a format
abbrev pub KeepsOrFormats : Outside → Outside → Type 0
KeepsOrFormats old new = (new ≡ old) ⊎ (new ≡ formatted_outside old)

-- so a G64 has the size of before, or of a new file
no_d64 : (old new : List ℕ) → is_d64_size (length old) ≡ false → KeepsOrFormats (outside_of G64 old) (outside_of G64 new) → is_d64_size (length new) ≡ false
no_d64 old new other (inl e) = ap is_d64_size (same_size new old (ap (λ (o : Outside). o.kept) e)) ∙ other
no_d64 old new other (inr e) = ap is_d64_size (same_size new new_file (ap (λ (o : Outside). o.kept) e) ∙ length-new_file)

-- AN IMAGE WITH THE OTHER BYTES OF ANOTHER ONE, or with those of a format, opens in the same format, if it has no fault there.
pub opens_again : (old new : List ℕ) → image_fault (kind_of old) new ≡ None → KeepsOrFormats (outside_of (kind_of old) old) (outside_of (kind_of old) new) → OpensAgain old new
opens_again old new faultless other = record { faultless = faultless; same_kind = by_kind (kind_of old) refl faultless other }
  where
    by_kind : (k : Kind) → kind_of old ≡ k → image_fault k new ≡ None → KeepsOrFormats (outside_of k old) (outside_of k new) → kind_of new ≡ kind_of old
    by_kind D64 is right same = d64_by_size new (d64_size (length new) right) ∙ sym is
    by_kind G64 is right same = has_kind new (g64_no_fault (g64_fault new) right) (no_d64 old new (never_marked _ _ is) same) ∙ sym is
