-- Drives that are told a change stand for the stations that are told it.
use Rattle.std.proofs.Common.{◌≡◌, ℕ, Bool, List, [], ◌∷◌, map, Option, sym, ap, subst, ◌∙◌}
use Rattle.std.specs.List.{AllZip}
use Rattle.cbm_iec.specs.Machines.{acted}
use Rattle.cbm_iec.specs.Ports.{told, told_act}
use Rattle.cbm_iec.specs.declared.machine.Act.{Act}
use Rattle.cbm_iec.specs.declared.lines.Held.{Held}
use Rattle.cbm_iec.specs.declared.lines.Lines.{Lines}
use Rattle.cbm_iec.specs.declared.port.Port.{Port}
use Rattle.cbm_session.specs.Among.{Rest, wires_of}
use Rattle.cbm_session.specs.Playing.{Station, told_lines}
use Rattle.cbm_drive.specs.declared.wires.Wires.{Wires}
use Rattle.cbm_drive.specs.Seats.{Seated, Meets, IsSeat, IsWithout}

module _ (D M : Type 0) (stood stands : D → M → Type 0) (step : M → Act → M) (says : M → Option (ℕ × Bool)) where
  -- one drive that is told with what all others hold
  pub told_one : (wires : Wires) (others : Lines) (moment : ℕ) (r : Rest) (x x' : Seated D) (s : Station M) → ((q : Rest) → IsWithout wires x.port.own q → others ≡ wires_of q)
      → x'.port ≡ told moment others x.port → ((m : M) → stood x.machine m → stands x'.machine (acted M step (told_act others x.port) m))
      → Meets D M stood wires r x s → IsSeat D M stands wires x' (told_lines M step says moment r s)
  told_one wires others moment r x x' s lines port machine h =
      let same : others ≡ wires_of r = lines r h.rest in
      let act : told_act others x.port ≡ told_act (wires_of r) s.port = ap (λ (o : Lines). told_act o x.port) same ∙ ap (told_act (wires_of r)) h.port in
      record {
        port = port ∙ ap (λ (o : Lines). told moment o x.port) same ∙ ap (told moment (wires_of r)) h.port;
        machine = subst (λ (a : Option Act). stands x'.machine (acted M step a s.machine)) act (machine s.machine h.machine);
        rest = subst (λ (own : Held). IsWithout wires own r) (sym (ap (λ (p : Port). p.own) port)) h.rest;
      }

module _ (D M : Type 0) (stands : D → M → Type 0) (step : M → Act → M) (says : M → Option (ℕ × Bool)) where
  -- this drive and those after it
  pub told_next : (wires : Wires) (others : Lines) (moment : ℕ) (f : Rest → Rest) (x x' : Seated D) (xs xs' : List (Seated D)) (ss : List (Station M)) → ((q : Rest) → IsWithout wires x.port.own q → others ≡ wires_of q)
      → x'.port ≡ told moment others x.port → ((m : M) → stands x.machine m → stands x'.machine (acted M step (told_act others x.port) m))
      → ((us : List (Station M)) → AllZip (λ y u. Meets D M stands wires (f u.rest) y u) xs us → AllZip (IsSeat D M stands wires) xs' (map (λ u. told_lines M step says moment (f u.rest) u) us))
      → AllZip (λ y u. Meets D M stands wires (f u.rest) y u) (x ∷ xs) ss → AllZip (IsSeat D M stands wires) (x' ∷ xs') (map (λ u. told_lines M step says moment (f u.rest) u) ss)
  told_next wires others moment f x x' xs xs' [] lines port machine more h = absurd h
  told_next wires others moment f x x' xs xs' (s ∷ ss) lines port machine more h = (told_one D M stands stands step says wires others moment (f s.rest) x x' s lines port machine h.0, more ss h.1)

  -- there are none
  pub told_none : (wires : Wires) (moment : ℕ) (f : Rest → Rest) (ss : List (Station M)) → AllZip (λ y u. Meets D M stands wires (f u.rest) y u) [] ss → AllZip (IsSeat D M stands wires) [] (map (λ u. told_lines M step says moment (f u.rest) u) ss)
  told_none wires moment f [] h = tt
  told_none wires moment f (s ∷ ss) h = absurd h
