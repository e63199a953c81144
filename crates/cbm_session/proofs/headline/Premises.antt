-- What the pieces ask of a bus: its drives' places in the order of ties, and how they stand at rest.
use Rattle.std.proofs.Common.{◌≡◌, ℕ, zero, suc, Bool, false, List, [], ◌∷◌, map, Option, None, ap, sym, arith, refl, eq-eqb}
use Rattle.std.proofs.lemmas.Bool.{ne_eqb}
use Rattle.std.specs.Prelude.{if◌then◌else◌, nat_eq}
use Rattle.cbm_iec.specs.declared.machine.Act.{Act}
use Rattle.cbm_iec.specs.declared.party.Party.{Party}
use Rattle.cbm_session.proofs.among.Points.{AllSound, rest_sound}
use Rattle.cbm_session.proofs.among.Sessions.{at_rest}
use Rattle.cbm_session.proofs.headline.AlongBus.{AllComeAfterIn, RisingIn}
use Rattle.cbm_session.proofs.headline.BusActs.{AllRan}
use Rattle.cbm_session.proofs.headline.FrameBus.{AllStand}
use Rattle.cbm_session.proofs.headline.Ties.{PlacedFrom, Placed}
use Rattle.cbm_session.proofs.reading.OneReading.{seat_of}
use Rattle.cbm_session.specs.Buses.{rest_at}
use Rattle.cbm_session.specs.Pieces.{Point}
use Rattle.cbm_session.specs.Playing as playing
use Rattle.cbm_session.specs.Playing.{Station}
use Rattle.cbm_session.specs.Seats.{Seat, device}
use Rattle.cbm_session.specs.Sessions.{rest, Unlike, AllUnlike, IsBus, AreDrives}

-- the place of a device in the order of ties
abbrev pub place_in : List Party → ℕ → ℕ
place_in [] d = zero
place_in (b ∷ bs) d = if nat_eq d b.device then zero else suc (place_in bs d)

abbrev pub devices : List Party → List ℕ
devices bs = map (λ b. b.device) bs

-- nothing to say, where it doesn't matter what
abbrev pub mute : ℕ → Option (ℕ × Bool)
mute d = None

module _ (M : Type 0) (step : M → Act → M) (peek : M → Option (ℕ × Bool)) where
  abbrev pub Rises : (ℕ → ℕ) → List ℕ → Type 0
  Rises place ds = RisingIn M step peek mute place ds

  other_place : (b : Party) (bs : List Party) (d : ℕ) → nat_eq d b.device ≡ false → place_in (b ∷ bs) d ≡ suc (place_in bs d)
  other_place b bs d e = ap (λ (v : Bool). if v then zero else suc (place_in bs d)) e

  own_place : (b : Party) (bs : List Party) → place_in (b ∷ bs) b.device ≡ zero
  own_place b bs = ap (λ (v : Bool). if v then zero else suc (place_in bs b.device)) (eq-eqb b.device b.device refl)

  after_the_first : (b : Party) (bs cs : List Party) → Unlike b.device cs → AllComeAfterIn M step peek mute (place_in (b ∷ bs)) b.device (devices cs)
  after_the_first b bs [] u = tt
  after_the_first b bs (c ∷ cs) u =
      let here = own_place b bs in
      let there = other_place b bs c.device (ne_eqb c.device b.device (λ (e : c.device ≡ b.device). u.0 (sym e))) in
      ((omega (arith, here, there), ne_eqb b.device c.device u.0, ne_eqb c.device b.device (λ (e : c.device ≡ b.device). u.0 (sym e))), after_the_first b bs cs u.1)

  after_some_more : (b : Party) (bs : List Party) (d : ℕ) (cs : List Party) → nat_eq d b.device ≡ false → Unlike b.device cs → AllComeAfterIn M step peek mute (place_in bs) d (devices cs) → AllComeAfterIn M step peek mute (place_in (b ∷ bs)) d (devices cs)
  after_some_more b bs d [] n u h = tt
  after_some_more b bs d (c ∷ cs) n u h =
      let one = other_place b bs d n in
      let two = other_place b bs c.device (ne_eqb c.device b.device (λ (e : c.device ≡ b.device). u.0 (sym e))) in
      let under = h.0.0 in
      ((omega (arith, one, two, under), h.0.1, h.0.2), after_some_more b bs d cs n u.1 h.1)

  rises_more : (b : Party) (bs cs : List Party) → Unlike b.device cs → Rises (place_in bs) (devices cs) → Rises (place_in (b ∷ bs)) (devices cs)
  rises_more b bs [] u r = tt
  rises_more b bs (c ∷ cs) u r = (after_some_more b bs c.device cs (ne_eqb c.device b.device (λ (e : c.device ≡ b.device). u.0 (sym e))) u.1 r.0, rises_more b bs cs u.1 r.1)

  pub bus_rises : (bs : List Party) → AllUnlike bs → Rises (place_in bs) (devices bs)
  bus_rises [] u = tt
  bus_rises (b ∷ bs) u = (after_the_first b bs bs u.0, rises_more b bs bs u.0 (bus_rises bs u.1))

  -- seats of such devices are placed
  pub rises_placed : (place : ℕ → ℕ) (seats : List Seat) → Rises place (map (λ s. device s) seats) → Placed place seats
  rises_placed place [] r = tt
  rises_placed place (s ∷ ss) r = (from ss r.0, rises_placed place ss r.1)
    where
      from : (xs : List Seat) → AllComeAfterIn M step peek mute place (device s) (map (λ s. device s) xs) → PlacedFrom place (place (device s)) xs
      from [] h = tt
      from (x ∷ xs) h = let under = h.0.0 in (omega (arith, under), from xs h.1)

  -- The stations stand at a point, whatever is asked of what they say; at rest they stand so.
  abbrev pub Stood : (ℕ → ℕ) → Point → List Seat → List (Station M) → Type 0
  Stood place p ss xs = AllStand M step peek mute place p ss xs

  pub restand : (says : ℕ → Option (ℕ × Bool)) (place : ℕ → ℕ) (p : Point) (ss : List Seat) (xs : List (Station M)) → Stood place p ss xs → AllStand M step peek says place p ss xs
  restand says place p [] [] h = tt
  restand says place p [] (x ∷ xs) h = elim h [ ]
  restand says place p (s ∷ ss) [] h = elim h [ ]
  restand says place p (s ∷ ss) (x ∷ xs) h = (record { sound = h.0.sound; stands = h.0.stands; rest = h.0.rest }, restand says place p ss xs h.1)

  pub stood : (says : ℕ → Option (ℕ × Bool)) (place : ℕ → ℕ) (p : Point) (ss : List Seat) (xs : List (Station M)) → AllStand M step peek says place p ss xs → Stood place p ss xs
  stood says place p [] [] h = tt
  stood says place p [] (x ∷ xs) h = elim h [ ]
  stood says place p (s ∷ ss) [] h = elim h [ ]
  stood says place p (s ∷ ss) (x ∷ xs) h = (record { sound = h.0.sound; stands = h.0.stands; rest = h.0.rest }, stood says place p ss xs h.1)

  rest_stands : (ms : ℕ → M) (place : ℕ → ℕ) (bs cs : List Party) → AreDrives cs → AllSound (rest bs) cs → Stood place (rest bs) (map (λ b. seat_of b) cs) (playing.at_rest M step peek ms cs)
  rest_stands ms place bs [] d h = tt
  rest_stands ms place bs (c ∷ cs) d h = (record { sound = h.0; stands = at_rest bs c; rest = sym (nobody_holds bs c) }, rest_stands ms place bs cs d.1 h.1)
    where
      nobody_holds : (bs : List Party) (c : Party) → rest_at c.device (rest bs) ≡ playing.nobody
      nobody_holds bs c = Rattle.cbm_session.proofs.among.Sessions.rest_free bs c

  pub bus_stands : (ms : ℕ → M) (bs : List Party) → IsBus bs → Stood (place_in bs) (rest bs) (rest bs).seats (playing.at_rest M step peek ms bs)
  bus_stands ms bs h = rest_stands ms (place_in bs) bs bs h.drives (rest_sound bs h)

  -- no machine has run yet
  pub bus_ran : (ms : ℕ → M) (bs : List Party) → AllRan M step peek ms [] (playing.at_rest M step peek ms bs)
  bus_ran ms [] = tt
  bus_ran ms (b ∷ bs) = (refl, bus_ran ms bs)

  pub rest_devices : (bs : List Party) → map (λ s. device s) (rest bs).seats ≡ devices bs
  rest_devices [] = refl
  rest_devices (b ∷ bs) = ap (λ (v : List ℕ). b.device ∷ v) (rest_devices bs)
