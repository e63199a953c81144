-- The host changes a line.
use Rattle.std.proofs.Common.{◌≡◌, ℕ, Bool, List, [], ◌∷◌, map, Option, sym, ap, subst}
use Rattle.std.specs.List.{AllZip}
use Rattle.cbm_iec.specs.Changes.{lines_after}
use Rattle.cbm_iec.specs.declared.machine.Act.{Act}
use Rattle.cbm_iec.specs.declared.lines.Change.{Change}
use Rattle.cbm_iec.specs.declared.lines.Line.{Line}
use Rattle.cbm_iec.specs.declared.lines.Way.{Way}
use Rattle.cbm_iec.specs.declared.lines.Lines.{Lines}
use Rattle.cbm_session.specs.Among.{after_the_host}
use Rattle.cbm_session.specs.Playing.{Station, tell}
use Rattle.cbm_drive.specs.declared.wires.Wires.{Wires}
use Rattle.cbm_drive.specs.Seats.{Seated, Meets, IsSeat, IsBusAt, pulls_counted, own_of, wires_held_by}
use Rattle.cbm_drive.proofs.Heard.{Told, same_sums}

module _ (D M : Type 0) (stands : D → M → Type 0) (step : M → Act → M) (says : M → Option (ℕ × Bool)) where
  all_meet : (line : Line) (way : Way) (host : Lines) (n k : ℕ) (xs : List (Seated D)) (ss : List (Station M)) → AllZip (IsSeat D M stands (record { host = host; clocks = n; datas = k })) xs ss
      → AllZip (λ x s. Meets D M stands (record { host = lines_after host line way; clocks = n; datas = k }) (after_the_host line way s.rest) x s) xs ss
  all_meet line way host n k [] [] h = tt
  all_meet line way host n k [] (s ∷ ss) h = absurd h
  all_meet line way host n k (x ∷ xs) [] h = absurd h
  all_meet line way host n k (x ∷ xs) (s ∷ ss) h =
      (record { port = h.0.port; machine = h.0.machine; rest = record { host = ap (λ (l : Lines). lines_after l line way) h.0.rest.host; clocks = h.0.rest.clocks; datas = h.0.rest.datas } }, all_meet line way host n k xs ss h.1)

  -- THE DRIVES STAND FOR STATIONS THAT WERE TOLD
  pub host_told : (c : Change) (host : Lines) (xs ys : List (Seated D)) (ss : List (Station M)) → Told D M stands step says c.moment (wires_held_by (lines_after host c.line c.way) xs) xs ys → map own_of ys ≡ map own_of xs
      → IsBusAt D M stands host xs ss → IsBusAt D M stands (lines_after host c.line c.way) ys (map (λ s. tell M step says c s) ss)
  host_told c host xs ys ss told own h =
      let now : Lines = lines_after host c.line c.way in
      let same : wires_held_by now xs ≡ wires_held_by now ys = λ i. record { host = now; clocks = sym (same_sums (λ o. pulls_counted o.clock_low) xs ys own) i; datas = sym (same_sums (λ o. pulls_counted o.data_low) xs ys own) i } in
      subst (λ (w : Wires). AllZip (IsSeat D M stands w) ys (map (λ s. tell M step says c s) ss)) same
      (told (after_the_host c.line c.way) ss (all_meet c.line c.way host (wires_held_by host xs).clocks (wires_held_by host xs).datas xs ss h))
