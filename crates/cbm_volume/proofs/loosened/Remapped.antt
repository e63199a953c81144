-- One sector that is nobody's is claimed, or given back: one bit of the map, and its track's count.
use Rattle.std.proofs.Common.{◌≡◌, ◌≢◌, ℕ, zero, suc, ◌+◌, ◌-◌, ◌<◌, ◌≤◌, Bool, true, false, List, refl, sym, ap, subst, ◌∙◌, arith, inl, inr, Ok}
use Rattle.std.specs.Prelude.{◌==◌, if◌then◌else◌}
use Rattle.std.proofs.lemmas.Bool.{cases_eq, eq-eqb, ne_eqb}
use Rattle.cbm_medium.specs.Place.{Place, directory_head, Has, IsOnDisk, sectors_on}
use Rattle.cbm_medium.specs.Content.{Cell, Content, written}
use Rattle.cbm_medium.specs.Links.{or_nothing}
use Rattle.cbm_file.specs.Files.{Disk, file_at}
use Rattle.cbm_bam.specs.Map.{is_free_in, free_in, tally, number, with_bit, map_of, geometry_of, IsCounted, IsMapped, IsGiven, Remaps, Takes}
use Rattle.cbm_bam.proofs.Counts.{bit_elsewhere, tally_less, tally_more, tally_other, tally_same, number_less, number_more, number_same, free_is_number}
use Rattle.cbm_medium.proofs.Places.{place_decide}
use Rattle.cbm_volume.specs.Layouts.{Nobody, TheMap, Layout, Sound, HasLayout, Describes}
use Rattle.cbm_volume.specs.Writers.{Use, HoldsAt, Holds, HoldsNow}
use Rattle.cbm_volume.specs.Loose.{one_fewer_free, one_more_free}
use Rattle.cbm_volume.proofs.layouts.Remaps.{with_map, with_counts, sound_remap, describes_remap}
use Rattle.cbm_volume.proofs.layouts.Rooms.{summed_but_18}
use Rattle.cbm_volume.proofs.layouts.Steps.{bit_implies}
use Rattle.cbm_volume.proofs.opened.Growing.{spares_write}
use Rattle.cbm_volume.proofs.written.Replaced.{holds_all}
use Rattle.cbm_volume.proofs.written.Replacements.{geometry_remapped}
use Rattle.cbm_volume.proofs.written.Storing.{few}
use Rattle.cbm_volume.proofs.loosened.Reowned.{IsLetGo}

has_track : (t s : ℕ) → s < sectors_on t → 0 < t
has_track zero s h = absurd (omega (arith, h))
has_track (suc t) s h = omega arith

-- a sector that some disk has, on a track of this one
pub on_disk_has : (tracks : ℕ) (p : Place) → IsOnDisk p → p.track ≤ tracks → Has tracks p
on_disk_has tracks p h few = (has_track p.track p.sector h, few, h)

-- a sector is given back to a map that was read, and it is written
pub given_map : (tracks : ℕ) (c c' : Content) (p : Place) (map new : List ℕ) → c directory_head ≡ Ok map → IsGiven tracks map new p → c' ≡ written c directory_head new → Remaps tracks c c' (with_bit (is_free_in (map_of c)) p true)
given_map tracks c c' p map new e g w =
    let m : map_of c ≡ map = ap (λ (x : Cell). or_nothing x) e in
    record { map = new; mapped = subst (λ (xs : List ℕ). IsMapped tracks xs new (with_bit (is_free_in xs) p true)) (sym m) g.mapped; written = w }

-- ---- the sums

module _ (tracks : ℕ) (c : Content) (p : Place) (wide : 18 ≤ tracks) (counted : IsCounted tracks (map_of c)) (has : Has tracks p) where
  module _ (b : Bool) (map : List ℕ) (m : IsMapped tracks (map_of c) map (with_bit (is_free_in (map_of c)) p b)) where
    room_now : tally (is_free_in map) 18 19 ≡ tally (with_bit (is_free_in (map_of c)) p b) 18 19
    room_now = tally_same (is_free_in map) (with_bit (is_free_in (map_of c)) p b) 18 19 (λ i j. m.bits (record { track = 18; sector = i }) (omega arith, wide, j))

    free_now : free_in tracks map ≡ number tracks (with_bit (is_free_in (map_of c)) p b)
    free_now = free_is_number tracks map (m.counted counted) ∙ number_same tracks (is_free_in map) (with_bit (is_free_in (map_of c)) p b) m.bits

    -- the room of the directory, if the sector is one of files, and else the blocks of files
    room_other : p.track ≢ 18 → tally (is_free_in map) 18 19 ≡ tally (is_free_in (map_of c)) 18 19
    room_other off = room_now ∙ tally_other (is_free_in (map_of c)) p b 18 19 (λ e. off (sym e))

    free_other : p.track ≡ 18 → free_in tracks map ≡ free_in tracks (map_of c)
    free_other on = free_now
        ∙ summed_but_18 (λ t. tally (with_bit (is_free_in (map_of c)) p b) t (sectors_on t)) (λ t. tally (is_free_in (map_of c)) t (sectors_on t)) tracks (λ t ne. tally_other (is_free_in (map_of c)) p b t (sectors_on t) (λ e. ne (e ∙ on)))
        ∙ sym (free_is_number tracks (map_of c) counted)

  pub fewer : (d : Disk) (map : List ℕ) → d.room ≡ tally (is_free_in (map_of c)) 18 19 → d.free ≡ free_in tracks (map_of c) → IsMapped tracks (map_of c) map (with_bit (is_free_in (map_of c)) p false) → is_free_in (map_of c) p ≡ true
      → with_counts tracks d map ≡ one_fewer_free p.track d
  fewer d map r n m was = λ i. record d { room = room i; free = free i }
    where
      f : Place → Bool
      f = is_free_in (map_of c)

      room : tally (is_free_in map) 18 19 ≡ (if p.track == 18 then d.room - 1 else d.room)
      room = elim (cases_eq p.track 18) [
        | inl on ↦ (let less : tally f 18 19 ≡ suc (tally (with_bit f p false) 18 19) = subst (λ (t : ℕ). tally f t (sectors_on t) ≡ suc (tally (with_bit f p false) t (sectors_on t))) on (tally_less f p (sectors_on p.track) has.2 was) in
            let z : tally (is_free_in map) 18 19 ≡ d.room - 1 = omega (arith, r, less, room_now false map m) in rw (eq-eqb p.track 18 on) z)
        | inr off ↦ rw (ne_eqb p.track 18 off) (room_other false map m off ∙ sym r)
      ]

      free : free_in tracks map ≡ (if p.track == 18 then d.free else d.free - 1)
      free = elim (cases_eq p.track 18) [
        | inl on ↦ rw (eq-eqb p.track 18 on) (free_other false map m on ∙ sym n)
        | inr off ↦ (let less : number tracks f ≡ suc (number tracks (with_bit f p false)) = number_less tracks f p has off was in
            let before : free_in tracks (map_of c) ≡ number tracks f = free_is_number tracks (map_of c) counted in
            let z : free_in tracks map ≡ d.free - 1 = omega (arith, n, less, before, free_now false map m) in rw (ne_eqb p.track 18 off) z)
      ]

  pub more : (d : Disk) (map : List ℕ) → d.room ≡ tally (is_free_in (map_of c)) 18 19 → d.free ≡ free_in tracks (map_of c) → IsMapped tracks (map_of c) map (with_bit (is_free_in (map_of c)) p true) → is_free_in (map_of c) p ≡ false
      → with_counts tracks d map ≡ one_more_free p.track d
  more d map r n m was = λ i. record d { room = room i; free = free i }
    where
      f : Place → Bool
      f = is_free_in (map_of c)

      room : tally (is_free_in map) 18 19 ≡ (if p.track == 18 then d.room + 1 else d.room)
      room = elim (cases_eq p.track 18) [
        | inl on ↦ (let plus : tally (with_bit f p true) 18 19 ≡ suc (tally f 18 19) = subst (λ (t : ℕ). tally (with_bit f p true) t (sectors_on t) ≡ suc (tally f t (sectors_on t))) on (tally_more f p (sectors_on p.track) has.2 was) in
            let z : tally (is_free_in map) 18 19 ≡ d.room + 1 = omega (arith, r, plus, room_now true map m) in rw (eq-eqb p.track 18 on) z)
        | inr off ↦ rw (ne_eqb p.track 18 off) (room_other true map m off ∙ sym r)
      ]

      free : free_in tracks map ≡ (if p.track == 18 then d.free else d.free + 1)
      free = elim (cases_eq p.track 18) [
        | inl on ↦ rw (eq-eqb p.track 18 on) (free_other true map m on ∙ sym n)
        | inr off ↦ (let plus : number tracks (with_bit f p true) ≡ suc (number tracks f) = number_more tracks f p has off was in
            let before : free_in tracks (map_of c) ≡ number tracks f = free_is_number tracks (map_of c) counted in
            let z : free_in tracks map ≡ d.free + 1 = omega (arith, n, plus, before, free_now true map m) in rw (ne_eqb p.track 18 off) z)
      ]

-- ---- the map is written, and no channel notices

remapped : (medium : ℕ) (c c' : Content) (l : Layout) (d d' : Disk) (uses : ℕ → Use) (free : Place → Bool) → HoldsAt (geometry_of medium c) c l d uses → (r : Remaps (geometry_of medium c) c c' free)
    → ((q : Place) → Has (geometry_of medium c) q → free q ≡ true → l.owner q ≡ Nobody) → with_counts (geometry_of medium c) d r.map ≡ d' → ((n : ℕ) → file_at d' n ≡ file_at d n) → HoldsNow medium c' d' uses
remapped medium c c' l d d' uses free h r none e slots =
    let tracks : ℕ = geometry_of medium c in
    let s : Sound tracks c l = h.stands.sound in
    let st : HasLayout tracks c' l d' = record {
      sound = subst (λ (x : Content). Sound tracks x l) (sym r.written) (sound_remap tracks c l r.map free l.owner s r.mapped s.owned none);
      describes = subst (λ (x : Content). Describes tracks x l d') (sym r.written) (subst (λ (x : Disk). Describes tracks (with_map c r.map) l x) e (describes_remap tracks c l d r.map free l.owner s h.stands.describes r.mapped));
    } in
    let so : HoldsAt tracks c' l d' uses = holds_all tracks c c' l l d d' uses (λ n. false) h st
    (spares_write c c' l d d' directory_head r.map TheMap r.written s.owned.map (λ x z. (cc)) (λ n z. (cc)) slots) (λ m n f. refl) in
    subst (λ (n : ℕ). Holds n c' d' uses) (sym (geometry_remapped medium c c' l free s r)) (record { layout = l; so = so })

-- A FREE SECTOR IS CLAIMED
pub claimed_at : (medium : ℕ) (c c' : Content) (d : Disk) (uses : ℕ → Use) (p : Place) → HoldsNow medium c d uses → Takes (geometry_of medium c) c c' p → is_free_in (map_of c) p ≡ true → HoldsNow medium c' (one_fewer_free p.track d) uses
claimed_at medium c c' d uses p h t was =
    let tracks : ℕ = geometry_of medium c in
    let s : Sound tracks c h.layout = h.so.stands.sound in
    let says : Describes tracks c h.layout d = h.so.stands.describes in
    remapped medium c c' h.layout d (one_fewer_free p.track d) uses (with_bit (is_free_in (map_of c)) p false) h.so t.remaps (λ q k e. s.free q k (bit_implies (is_free_in (map_of c)) p q e))
    (fewer tracks c p (few medium c) s.counted t.has d t.remaps.map says.room says.free t.remaps.mapped was) (λ n. refl)

-- a sector that is set free is nobody's, and so are those that were free
nobodys : (f : Place → Bool) (l : Layout) (p q : Place) → l.owner p ≡ Nobody → (f q ≡ true → l.owner q ≡ Nobody) → with_bit f p true q ≡ true → l.owner q ≡ Nobody
nobodys f l p q none free e = elim (place_decide p q) [
  | inl z ↦ ap l.owner (sym z) ∙ none
  | inr ne ↦ free (sym (bit_elsewhere f p q true ne) ∙ e)
]

-- ONE THAT IS NOBODY'S IS GIVEN BACK
pub given_at : (medium : ℕ) (c c' : Content) (d : Disk) (uses : ℕ → Use) (p : Place) → IsLetGo medium c d uses p → Has (geometry_of medium c) p → Remaps (geometry_of medium c) c c' (with_bit (is_free_in (map_of c)) p true) → is_free_in (map_of c) p ≡ false
    → HoldsNow medium c' (one_more_free p.track d) uses
given_at medium c c' d uses p g has r was =
    let tracks : ℕ = geometry_of medium c in
    let s : Sound tracks c g.layout = g.so.stands.sound in
    let says : Describes tracks c g.layout d = g.so.stands.describes in
    remapped medium c c' g.layout d (one_more_free p.track d) uses (with_bit (is_free_in (map_of c)) p true) g.so r (λ q k e. nobodys (is_free_in (map_of c)) g.layout p q g.nobody (s.free q k) e)
    (more tracks c p (few medium c) s.counted has d r.map says.room says.free r.mapped was) (λ n. refl)
