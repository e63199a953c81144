-- A claim on track 18 takes one from the directory's room, and none from the blocks of files.
use Rattle.std.proofs.Common.{◌≡◌, ◌≢◌, ℕ, zero, suc, ◌+◌, ◌-◌, ◌≤◌, Bool, true, false, refl, sym, ap, subst, ◌∙◌, arith, inl, inr}
use Rattle.std.proofs.lemmas.Bool.{cases_eq, eq-eqb}
use Rattle.cbm_medium.specs.Place.{Place, sectors_on, Has}
use Rattle.cbm_medium.specs.Content.{Content}
use Rattle.cbm_file.specs.Files.{Disk}
use Rattle.cbm_bam.specs.Map.{is_free_in, free_in, tally, unless_18, summed, with_bit, map_of, Remaps}
use Rattle.cbm_volume.specs.Layouts.{Layout, Sound, Describes, HasLayout}
use Rattle.cbm_bam.proofs.Counts.{tally_less, tally_other, tally_same, free_is_number, number_same}
use Rattle.cbm_volume.proofs.layouts.Remaps.{with_map, with_counts, sound_remap, describes_remap}
use Rattle.cbm_volume.proofs.layouts.Steps.{bit_implies}

pub summed_but_18 : (f g : ℕ → ℕ) (n : ℕ) → ((t : ℕ) → t ≢ 18 → f t ≡ g t) → summed f n ≡ summed g n
summed_but_18 f g zero h = refl
summed_but_18 f g (suc n) h = elim (cases_eq (suc n) 18) [
  | inl e ↦ (let a : unless_18 (suc n) (f (suc n)) ≡ 0 = rw (eq-eqb (suc n) 18 e) refl in
      let b : unless_18 (suc n) (g (suc n)) ≡ 0 = rw (eq-eqb (suc n) 18 e) refl in omega (arith, summed_but_18 f g n h))
  | inr ne ↦ ap (λ (x : ℕ). unless_18 (suc n) x + summed f n) (h (suc n) ne) ∙ ap (λ (x : ℕ). unless_18 (suc n) (g (suc n)) + x) (summed_but_18 f g n h)
]

abbrev pub less_room : Disk → Disk
less_room d = record d { room = d.room - 1 }

pub stands_claim_18 : (tracks : ℕ) (c c' : Content) (l : Layout) (d : Disk) (p : Place) → HasLayout tracks c l d → 18 ≤ tracks → Has tracks p → p.track ≡ 18 → is_free_in (map_of c) p ≡ true → Remaps tracks c c' (with_bit (is_free_in (map_of c)) p false) → HasLayout tracks c' l (less_room d)
stands_claim_18 tracks c c' l d p s few has on was r =
    let f : Place → Bool = is_free_in (map_of c) in
    let free : Place → Bool = with_bit f p false in
    let less : tally f 18 19 ≡ suc (tally free 18 19) = subst (λ (t : ℕ). tally f t (sectors_on t) ≡ suc (tally free t (sectors_on t))) on (tally_less f p (sectors_on p.track) has.2 was) in
    let room : tally (is_free_in r.map) 18 19 ≡ tally free 18 19 = tally_same (is_free_in r.map) free 18 19 (λ i j. r.mapped.bits (record { track = 18; sector = i }) (omega arith, few, j)) in
    let same : free_in tracks r.map ≡ free_in tracks (map_of c) =
    free_is_number tracks r.map (r.mapped.counted s.sound.counted) ∙ number_same tracks (is_free_in r.map) free r.mapped.bits
    ∙ summed_but_18 (λ t. tally free t (sectors_on t)) (λ t. tally f t (sectors_on t)) tracks (λ t ne. tally_other f p false t (sectors_on t) (λ e. ne (e ∙ on)))
    ∙ sym (free_is_number tracks (map_of c) s.sound.counted) in
    let d' : with_counts tracks d r.map ≡ less_room d = λ i. record d { room = (let e : tally (is_free_in r.map) 18 19 ≡ d.room - 1 = omega (arith, s.describes.room) in e) i; free = (same ∙ sym s.describes.free) i } in
    record {
      sound = subst (λ (x : Content). Sound tracks x l) (sym r.written) (sound_remap tracks c l r.map free l.owner s.sound r.mapped s.sound.owned (λ q h e. s.sound.free q h (bit_implies f p q e)));
      describes = subst (λ (x : Content). Describes tracks x l (less_room d)) (sym r.written) (subst (λ (x : Disk). Describes tracks (with_map c r.map) l x) d' (describes_remap tracks c l d r.map free l.owner s.sound s.describes r.mapped));
    }
