-- Drives at rest hold no line, so each of them sees all lines free.
use Rattle.std.proofs.Common.{◌≡◌, ℕ, List, [], ◌∷◌, refl, sym, ap, subst, arith}
use Rattle.std.specs.List.{AllZip}
use Rattle.cbm_iec.specs.declared.lines.Lines.{Lines}
use Rattle.cbm_iec.specs.declared.party.Party.{Party}
use Rattle.cbm_iec.specs.declared.port.Port.{Port}
use Rattle.cbm_medium.specs.Seen.{Seen}
use Rattle.cbm_machine.specs.Machines.{Machine}
use Rattle.cbm_channel.specs.Standing.{Kept}
use Rattle.cbm_session.specs.Playing.{at_rest, nobody}
use Rattle.cbm_drive.specs.Cables.{Cabled, all_free}
use Rattle.cbm_drive.specs.Desks.{Desk, DeskStands, desk_step, desk_says}
use Rattle.cbm_drive.specs.Seats.{Seated, IsSeat, IsWithout, pulls_counted, total, clock_of, data_pulls, wires_held_by}
use Rattle.cbm_bus.specs.Powered.{ArePowered, IsAtRest}

module _ {M : Type 0} (seen : M → Seen) (ms : ℕ → Desk Machine) where
  no_clock : (bs : List Party) (xs : List (Seated (Desk (Kept M)))) → ArePowered seen bs ms xs → total clock_of xs ≡ 0
  no_clock [] [] h = refl
  no_clock [] (x ∷ xs) h = absurd h
  no_clock (b ∷ bs) [] h = absurd h
  no_clock (b ∷ bs) (x ∷ xs) h =
      let one : clock_of x ≡ 0 = ap (λ (p : Port). pulls_counted p.own.clock_low) h.0.port in
      let more = no_clock bs xs h.1 in
      omega (arith, one, more)

  no_data : (bs : List Party) (xs : List (Seated (Desk (Kept M)))) → ArePowered seen bs ms xs → total data_pulls xs ≡ 0
  no_data [] [] h = refl
  no_data [] (x ∷ xs) h = absurd h
  no_data (b ∷ bs) [] h = absurd h
  no_data (b ∷ bs) (x ∷ xs) h =
      let one : data_pulls x ≡ 0 = ap (λ (p : Port). pulls_counted p.own.data_low) h.0.port in
      let more = no_data bs xs h.1 in
      omega (arith, one, more)

  -- each stands for its station, where nobody holds a line
  seats : (h : Lines) (all : List (Seated (Desk (Kept M)))) → h ≡ all_free → total clock_of all ≡ 0 → total data_pulls all ≡ 0 → (bs : List Party) (xs : List (Seated (Desk (Kept M)))) → ArePowered seen bs ms xs
      → AllZip (IsSeat (Desk (Kept M)) (Desk Machine) (DeskStands seen) (wires_held_by h all)) xs (at_rest (Desk Machine) desk_step desk_says ms bs)
  seats l all host clocks datas [] [] h = tt
  seats l all host clocks datas [] (x ∷ xs) h = absurd h
  seats l all host clocks datas (b ∷ bs) [] h = absurd h
  seats l all host clocks datas (b ∷ bs) (x ∷ xs) h =
      let clock : clock_of x ≡ 0 = ap (λ (p : Port). pulls_counted p.own.clock_low) h.0.port in
      let data_ : data_pulls x ≡ 0 = ap (λ (p : Port). pulls_counted p.own.data_low) h.0.port in
      let rest : IsWithout (wires_held_by l all) x.port.own nobody = record { host = sym host; clocks = omega (arith, clock, clocks); datas = omega (arith, data_, datas) } in
      (record { port = h.0.port; machine = h.0.machine; rest = rest }, seats l all host clocks datas bs xs h.1)

  pub rests : (bs : List Party) (b : Cabled (Desk (Kept M))) (xs : List (Seated (Desk (Kept M)))) → b.drives ≡ xs → b.host ≡ all_free → ArePowered seen bs ms xs → IsAtRest seen bs ms b
  rests bs b xs drives free h =
      let here : ArePowered seen bs ms b.drives = subst (λ l. ArePowered seen bs ms l) (sym drives) h in
      seats b.host b.drives free (no_clock bs b.drives here) (no_data bs b.drives here) bs b.drives here
