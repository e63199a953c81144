-- A drive after a change.
use Rattle.std.proofs.Common.{◌≡◌, ℕ, Bool, Option, sym, subst}
use Rattle.cbm_iec.specs.Machines.{acted}
use Rattle.cbm_iec.specs.declared.machine.Act.{Act}
use Rattle.cbm_iec.specs.declared.lines.Change.{Change}
use Rattle.cbm_session.specs.Among.{Rest}
use Rattle.cbm_session.specs.Playing.{Station, told_lines}
use Rattle.bus_beside.specs.declared.moves.Move.{Move}
use Rattle.bus_beside.specs.declared.wired.Wired.{Wired}
use Rattle.bus_beside.specs.Moves.{real_after, tidy_after, MayGo, HasMoved, HasGone}
use Rattle.bus_beside.specs.Rests.{ToldBy}
use Rattle.bus_beside.specs.Seats.{SeatedTwice, station, Sits}

module _ (M : Type 0) (step : M → Act → M) (says : M → Option (ℕ × Bool)) where
  -- a port that was told is its station's after it
  pub told_station : (moment : ℕ) (r : Rest) (w v : Wired) (act : Option Act) (m : M) → ToldBy moment r w v act → told_lines M step says moment r (station w m) ≡ station v (acted M step act m)
  told_station moment r w v act m h = λ i. record { port = sym h.port i; rest = sym h.others i; machine = acted M step (sym h.counts i) m }

module _ (D M : Type 0) (stands : D → M → Type 0) (step : M → Act → M) (says : M → Option (ℕ × Bool)) where
  -- where it may come and came, it has gone so
  pub has_gone : (move : Move) (c : Change) (x y : SeatedTwice D) → ((m : M) → MayGo M step says move c (station x.real m) (station x.tidy m)) → HasMoved D M stands step says move c x y
      → HasGone D M stands step says move c x y
  has_gone move c x y may moved s t h =
      subst (λ (s : Station M). MayGo M step says move c s t × Sits D M stands y (real_after M step says move c s) (tidy_after M step says move c t)) (sym h.real)
      (subst (λ (t : Station M). MayGo M step says move c (station x.real h.state) t × Sits D M stands y (real_after M step says move c (station x.real h.state)) (tidy_after M step says move c t)) (sym h.tidy)
      (may h.state, moved h.state h.machine))
