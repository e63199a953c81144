-- A directory of eighteen sectors leaves no sector of track 18 free.
use Rattle.std.proofs.Common.{◌≡◌, ◌≢◌, ℕ, zero, suc, ◌+◌, ◌<◌, ◌≤◌, Bool, true, false, List, [], ◌∷◌, length, get_or, refl, sym, ap, subst, ◌∙◌, arith}
use Rattle.cbm_medium.specs.Place.{Place, Has, sectors_on, directory_head}
use Rattle.cbm_medium.specs.Content.{Content}
use Rattle.cbm_medium.specs.Links.{Chain, bytes_at, link}
use Rattle.cbm_file.specs.Files.{Disk}
use Rattle.cbm_bam.specs.Map.{is_free_in, map_of, tally, with_bit, with_freed}
use Rattle.cbm_bam.proofs.Counts.{bit_elsewhere, tally_more, tally_most}
use Rattle.cbm_directory.specs.Entries.{first_directory}
use Rattle.cbm_directory.specs.Growth.{IsFullDirectory}
use Rattle.cbm_volume.specs.Layouts.{Layout, Owner, Nobody, TheMap, Directory, OwnedBy, Sound, HasLayout}
use Rattle.cbm_volume.proofs.layouts.Chained.{chain_distinct, chain_settled}

-- each of these is on track 18, is not free, and stands nowhere after itself
abbrev AreTaken18 : (Place → Bool) → List Place → Type 0
AreTaken18 f [] = Unit {0}
AreTaken18 f (p ∷ rest) = (p.track ≡ 18) × (p.sector < 19) × (with_freed f rest p ≡ false) × AreTaken18 f rest

-- as many more as the list has
tally_freed : (f : Place → Bool) (xs : List Place) → AreTaken18 f xs → tally (with_freed f xs) 18 19 ≡ tally f 18 19 + length xs
tally_freed f [] h = omega arith
tally_freed f (p ∷ rest) h =
    let more : tally (with_bit (with_freed f rest) p true) p.track 19 ≡ suc (tally (with_freed f rest) p.track 19) = tally_more (with_freed f rest) p 19 h.1 h.2 in
    subst (λ (t : ℕ). tally (with_bit (with_freed f rest) p true) t 19 ≡ suc (tally (with_freed f rest) t 19)) h.0 more ∙ ap suc (tally_freed f rest h.3) ∙ omega arith

-- a sector that isn't free, and isn't in the list
not_freed : (f : Place → Bool) (p : Place) (xs : List Place) → f p ≡ false → ((j : ℕ) → j < length xs → get_or xs j directory_head ≢ p) → with_freed f xs p ≡ false
not_freed f p [] z h = z
not_freed f p (q ∷ xs) z h = bit_elsewhere (with_freed f xs) q p true (h zero (omega arith)) ∙ not_freed f p xs z (λ j k. h (suc j) (omega (arith, k)))

-- whose owner isn't nobody isn't free
not_free : (tracks : ℕ) (c : Content) (l : Layout) (p : Place) (o : Owner) → Sound tracks c l → Has tracks p → l.owner p ≡ o → (o ≡ Nobody → ⊥) → (b : Bool) → is_free_in (map_of c) p ≡ b → b ≡ false
not_free tracks c l p o s has own some false e = refl
not_free tracks c l p o s has own some true e = absurd (some (sym own ∙ s.free p has e))

directory_is_some : Directory ≡ Nobody → ⊥
directory_is_some e = cc

map_is_some : TheMap ≡ Nobody → ⊥
map_is_some e = cc

module _ (tracks : ℕ) (c : Content) (l : Layout) (s : Sound tracks c l) where
  -- the directory from some sector on
  taken : (a : Place) (xs : List Place) → Chain tracks c a xs → OwnedBy l.owner Directory xs → AreTaken18 (is_free_in (map_of c)) xs
  taken a [] h o = tt
  taken a (p ∷ xs) h o =
      let on : p.track ≡ 18 = s.owned.on_18 p o.0 in
      let least : p.sector < sectors_on p.track = h.1.2 in
      let alone : (j : ℕ) → j < length xs → get_or xs j directory_head ≢ p = λ j k e. (let z = chain_distinct tracks c a (p ∷ xs) (suc j) zero directory_head h (omega (arith, k)) (omega arith) e in omega (arith, z)) in (
        on,
        subst (λ (t : ℕ). p.sector < sectors_on t) on least,
        not_freed (is_free_in (map_of c)) p xs (not_free tracks c l p Directory s h.1 o.0 directory_is_some (is_free_in (map_of c) p) refl) alone,
        taken (link (bytes_at c p)) xs h.3 o.1,
      )

  -- the map's sector isn't among them
  elsewhere : (xs : List Place) → OwnedBy l.owner Directory xs → (j : ℕ) → j < length xs → get_or xs j directory_head ≢ directory_head
  elsewhere [] o j k e = absurd (omega (arith, k))
  elsewhere (p ∷ xs) o zero k e = (let z : Directory ≡ TheMap = sym o.0 ∙ ap l.owner e ∙ s.owned.map in cc)
  elsewhere (p ∷ xs) o (suc j) k e = elsewhere xs o.1 j (omega (arith, k)) e

-- WITH EIGHTEEN SECTORS AND THE MAP'S all nineteen of the track are taken.
pub full_directory : (tracks : ℕ) (c : Content) (l : Layout) (d : Disk) → HasLayout tracks c l d → 18 ≤ tracks → IsFullDirectory tracks c → d.room ≡ 0
full_directory tracks c l d st few (sectors, (chain, count)) =
    let s = st.sound in
    let same : l.directory ≡ sectors = chain_settled tracks c first_directory l.directory sectors s.directory chain in
    let long : length l.directory ≡ 18 = ap length same ∙ count in
    let f : Place → Bool = is_free_in (map_of c) in
    let has : Has tracks directory_head = (omega arith, few, omega arith) in
    let head : f directory_head ≡ false = not_free tracks c l directory_head TheMap s has s.owned.map map_is_some (f directory_head) refl in
    let all : AreTaken18 f (directory_head ∷ l.directory) = (refl, omega arith, not_freed f directory_head l.directory head (elsewhere tracks c l s l.directory s.owned.directory), taken tracks c l s first_directory l.directory s.directory s.owned.directory) in
    let most = tally_most (with_freed f (directory_head ∷ l.directory)) 18 19 in
    st.describes.room ∙ omega (arith, tally_freed f (directory_head ∷ l.directory) all, long, most)
