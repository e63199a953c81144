-- After a piece that the drives of a bus have played, and in one: how they stand for the next, and that none of the host's changes that are left comes too soon.
use Rattle.std.proofs.Common.{◌≡◌, ℕ, ◌≤◌, Bool, List, [], ◌∷◌, ◌++◌, map, Option, ap, sym, ◌∙◌, subst, refl}
use Rattle.cbm_iec.specs.declared.machine.Act.{Act}
use Rattle.cbm_iec.specs.declared.event.Event.{Event}
use Rattle.cbm_iec.specs.declared.event.Who.TheVariants.{Host, Drive}
use Rattle.cbm_iec.specs.declared.event.Who.{Who}
use Rattle.cbm_iec.specs.declared.port.Port.{Port}
use Rattle.cbm_session.proofs.headline.AlongBus.{AllGo, devs, IsPlain, plain_after, soon_inside}
use Rattle.cbm_session.proofs.headline.BusStep.{goes_unique, ends}
use Rattle.cbm_session.proofs.headline.FrameBus.{AllStand, AllEnd}
use Rattle.cbm_session.proofs.headline.Keeping.{HostFrom}
use Rattle.cbm_session.proofs.headline.PullBus.{AllOf}
use Rattle.cbm_session.proofs.headline.PullPlayed.{AllShow}
use Rattle.cbm_session.proofs.headline.SideStates.{side_react}
use Rattle.cbm_session.proofs.headline.TalkParts.{HostEvents, back_host, all_host_from}
use Rattle.cbm_session.proofs.headline.TalkSwap.{Twin}
use Rattle.cbm_session.proofs.joining.Merging.{none_sooner}
use Rattle.cbm_session.proofs.reading.PieceReadings.{next_seat, next_seats}
use Rattle.cbm_session.specs.Among.{Rest}
use Rattle.cbm_session.specs.Buses.{StandsAmong}
use Rattle.cbm_session.specs.Pieces.{Whole, Point, whole_point}
use Rattle.cbm_session.specs.Playing.{Station, AllInTime}
use Rattle.cbm_session.specs.Seats.{Seat}
use Rattle.cbm_session.specs.Steps.{Step, moment_of, events_of}
use Rattle.cbm_session.specs.Timing.{is_host}

module _ (M : Type 0) (step : M → Act → M) (peek : M → Option (ℕ × Bool)) (says : ℕ → Option (ℕ × Bool)) (place : ℕ → ℕ) where
  -- Where each station is what its seat's drive goes to, all stand at the point after it.
  pub stand_so : (p : Point) (ss : List Seat) (es : List (Rest × Port)) (xs : List (Station M)) → AllEnd M step peek says place p ss es → AllOf M step peek says place 0 (λ x e. (x.rest ≡ e.0) × (x.port ≡ e.1)) xs es → AllStand M step peek says place p ss xs
  stand_so p [] [] [] a h = tt
  stand_so p [] [] (x ∷ xs) a h = elim h [ ]
  stand_so p [] (e ∷ es) xs a h = elim a [ ]
  stand_so p (s ∷ ss) [] xs a h = elim a [ ]
  stand_so p (s ∷ ss) (e ∷ es) [] a h = elim h [ ]
  stand_so p (s ∷ ss) (e ∷ es) (x ∷ xs) a h =
      (record { sound = a.0.0; stands = subst (λ (v : Port). StandsAmong p s v) (sym h.0.1) a.0.1; rest = h.0.0 ∙ a.0.2 }, stand_so p ss es xs a.1 h.1)

  pub stand_after : (p : Point) (w : Whole) (fin : List (Rest × Port)) (xs : List (Station M)) → AllEnd M step peek says place (whole_point p w) (map (λ s. next_seat w s) p.seats) fin → AllOf M step peek says place 0 (λ x e. (x.rest ≡ e.0) × (x.port ≡ e.1)) xs fin
      → AllStand M step peek says place (whole_point p w) (whole_point p w).seats xs
  stand_after p w fin xs a h = subst (λ (v : List Seat). AllStand M step peek says place (whole_point p w) v xs) (sym (next_seats p w)) (stand_so (whole_point p w) (map (λ s. next_seat w s) p.seats) fin xs a h)

  -- who goes with nothing more is there
  pub all_there : (xs : List (Station M)) (fin : List (Rest × Port)) → AllGo M step peek says place xs [] fin → AllOf M step peek says place 0 (λ x e. (x.rest ≡ e.0) × (x.port ≡ e.1)) xs fin
  all_there [] [] g = tt
  all_there [] (e ∷ es) g = elim g [ ]
  all_there (x ∷ xs) [] g = elim g [ ]
  all_there (x ∷ xs) (e ∷ es) g = let k = goes_unique (says x.port.party.device) g.0.goes (ends refl refl) in ((sym k.0, sym k.1), all_there xs es g.1)

  -- and each reaction that is due there shows
  pub all_show : (xs : List (Station M)) (ys : List Step) (fin : List (Rest × Port)) → AllGo M step peek says place xs ys fin → AllShow M step peek says place xs
  all_show [] ys fin g = tt
  all_show (x ∷ xs) ys [] g = elim g [ ]
  all_show (x ∷ xs) ys (e ∷ es) g = (λ t d n. (side_react _ x.port.party.reaction t x.port.others (peek x.machine) x.port.side x.port.own d g.0.holds).1 n, all_show xs ys es g.1)

  -- what is left of a piece that is under way is not before t
  pub left_from : (t : ℕ) (front back xs : List Step) (rest more : List Event) (ss : List (Station M)) (fin : List (Rest × Port)) → AllGo M step peek says place ss back fin → AllInTime M step peek t ss → IsPlain M step peek says place (devs M step peek says place ss) (front ++ back)
      → Twin t (front ++ back) xs → events_of front ++ rest ≡ events_of xs ++ more → HostEvents t rest → HostFrom t back
  left_from t front [] xs rest more ss fin g i plain w e h = tt
  left_from t front (y ∷ back) xs rest more ss fin g i plain w e h =
      let left = plain_after M step peek says place (devs M step peek says place ss) front (y ∷ back) plain in
      let first : t ≤ moment_of y = go y.event.who refl left in
      all_host_from t (y ∷ back) (first, none_sooner t (moment_of y) back first left.order.0)
    where
      go : (u : Who) → y.event.who ≡ u → IsPlain M step peek says place (devs M step peek says place ss) (y ∷ back) → t ≤ moment_of y
      go Host k left = back_host t front y back xs rest more w e h (ap is_host k)
      go (Drive d) k left = soon_inside M step peek says place d t ss y back fin g i left k
