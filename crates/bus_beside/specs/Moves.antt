-- What may happen to drives under two hosts, and where they are after it.
use Rattle.std.specs.Prelude.{ℕ, Bool, Option, List, map}
use Rattle.std.specs.List.{AllZip}
use Rattle.cbm_iec.specs.declared.machine.Act.{Act}
use Rattle.cbm_iec.specs.declared.lines.Change.{Change}
use Rattle.cbm_session.specs.Playing.{Station, tell, hear}
use Rattle.cbm_session.specs.Loosely.{MayMake, MayStray, Ignores, Heeds}
use Rattle.bus_beside.specs.declared.moves.Move.{Move}
use Rattle.bus_beside.specs.declared.moves.Move.TheVariants.{Both, Strays, Tidies, Hears}
use Rattle.bus_beside.specs.Seats.{SeatedTwice, station, Sits, Sit}

module _ (M : Type 0) (step : M → Act → M) (says : M → Option (ℕ × Bool)) where
  -- a drive under the host as it is, after the change
  abbrev pub real_after : Move → Change → Station M → Station M
  real_after Both c s = tell M step says c s
  real_after Strays c s = tell M step says c s
  real_after Tidies c s = s
  real_after Hears c s = hear M step says c s

  -- and under the tidy one
  abbrev pub tidy_after : Move → Change → Station M → Station M
  tidy_after Both c t = tell M step says c t
  tidy_after Strays c t = t
  tidy_after Tidies c t = tell M step says c t
  tidy_after Hears c t = hear M step says c t

  -- the change may come so
  abbrev pub MayGo : Move → Change → Station M → Station M → Type 0
  MayGo Both c s t = MayMake M step says c.line c.way s t
  MayGo Strays c s t = MayStray c.line c.way s.rest.host.clock_low s.port.side t.port.side
  MayGo Tidies c s t = Ignores c.line t.rest.host.clock_low t.port.side
  MayGo Hears c s t = Heeds M step says s t

module _ (D M : Type 0) (stands : D → M → Type 0) (step : M → Act → M) (says : M → Option (ℕ × Bool)) where
  -- The change came so, whatever state the machine represented.
  abbrev pub HasMoved : Move → Change → SeatedTwice D → SeatedTwice D → Type 0
  HasMoved move c x y = (m : M) → stands x.machine m → Sits D M stands y (real_after M step says move c (station x.real m)) (tidy_after M step says move c (station x.tidy m))

  -- the change might come so, and came
  abbrev pub HasGone : Move → Change → SeatedTwice D → SeatedTwice D → Type 0
  HasGone move c x y = (s t : Station M) → Sits D M stands x s t → MayGo M step says move c s t × Sits D M stands y (real_after M step says move c s) (tidy_after M step says move c t)

  -- the same of all drives
  abbrev pub HaveGone : Move → Change → List (SeatedTwice D) → List (SeatedTwice D) → Type 0
  HaveGone move c xs ys = (ss ts : List (Station M)) → Sit D M stands xs ss ts
      → AllZip (MayGo M step says move c) ss ts × Sit D M stands ys (map (real_after M step says move c) ss) (map (tidy_after M step says move c) ts)
