-- Drives that rest again are as they were switched on, each with the machine that it has by then.
use Rattle.std.proofs.Common.{◌≡◌, ℕ, Bool, List, [], ◌∷◌, map, refl, sym, ap, ◌∙◌, subst, eq-eqb}
use Rattle.std.proofs.lemmas.Bool.{ne_eqb}
use Rattle.std.specs.Prelude.{if◌then◌else◌}
use Rattle.std.specs.List.{AllZip}
use Rattle.cbm_iec.specs.Ports.{resting}
use Rattle.cbm_iec.specs.declared.party.Party.{Party}
use Rattle.cbm_iec.specs.declared.port.Port.{Port}
use Rattle.cbm_medium.specs.Seen.{Seen}
use Rattle.cbm_machine.specs.Machines.{Machine}
use Rattle.cbm_channel.specs.Standing.{Kept}
use Rattle.cbm_session.specs.Playing.{Station}
use Rattle.cbm_session.specs.Sessions.{Unlike, AllUnlike}
use Rattle.cbm_drive.specs.Cables.{Cabled, all_free}
use Rattle.cbm_drive.specs.Desks.{Desk, DeskStands}
use Rattle.cbm_drive.specs.Seats.{Seated, AreResting, IsSeat, wires_held_by}
use Rattle.cbm_iec.specs.declared.lines.Lines.{Lines}
use Rattle.cbm_bus.proofs.Rests.{rests}
use Rattle.cbm_bus.specs.Headline.{AreAt, machines_now}
use Rattle.cbm_bus.specs.Powered.{ArePowered, IsAtRest}

-- each machine is the one that its device number names
abbrev Finds : (ℕ → Desk Machine) → List (Station (Desk Machine)) → Type 0
Finds f [] = Unit {0}
Finds f (s ∷ ss) = (f s.port.party.device ≡ s.machine) × Finds f ss

-- one more in front of them has another number
finds_after_it : (ms : ℕ → Desk Machine) (s : Station (Desk Machine)) (ss ts : List (Station (Desk Machine))) → Unlike s.port.party.device (map (λ s. s.port.party) ts) → Finds (machines_now ss ms) ts → Finds (machines_now (s ∷ ss) ms) ts
finds_after_it ms s ss [] u f = tt
finds_after_it ms s ss (t ∷ ts) u f =
    (ap (λ (b : Bool). if b then s.machine else machines_now ss ms t.port.party.device) (ne_eqb s.port.party.device t.port.party.device u.0) ∙ f.0, finds_after_it ms s ss ts u.1 f.1)

finds : (ms : ℕ → Desk Machine) (ss : List (Station (Desk Machine))) → AllUnlike (map (λ s. s.port.party) ss) → Finds (machines_now ss ms) ss
finds ms [] u = tt
finds ms (s ∷ ss) u =
    (ap (λ (b : Bool). if b then s.machine else machines_now ss ms s.port.party.device) (eq-eqb s.port.party.device s.port.party.device refl), finds_after_it ms s ss ss u.0 (finds ms ss u.1))

module _ {M : Type 0} (seen : M → Seen) where
  powered_now : (f : ℕ → Desk Machine) (h : Lines) (all : List (Seated (Desk (Kept M)))) (xs : List (Seated (Desk (Kept M)))) (ss : List (Station (Desk Machine))) → AllZip (IsSeat (Desk (Kept M)) (Desk Machine) (DeskStands seen) (wires_held_by h all)) xs ss → AreResting xs → Finds f ss
      → ArePowered seen (map (λ s. s.port.party) ss) f xs
  powered_now f held all [] [] h r l = tt
  powered_now f held all [] (s ∷ ss) h r l = absurd h
  powered_now f held all (x ∷ xs) [] h r l = absurd h
  powered_now f held all (x ∷ xs) (s ∷ ss) h r l = (
    record {
      port = r.0 ∙ ap (λ (p : Port). resting p.party) h.0.port;
      machine = subst (λ (m : Desk Machine). DeskStands seen x.machine m) (sym l.0) h.0.machine;
    },
    powered_now f held all xs ss h.1 r.1 l.1,
  )

  pub rests_again : (bs : List Party) (ms : ℕ → Desk Machine) (b : Cabled (Desk (Kept M))) (ss : List (Station (Desk Machine))) → AllUnlike bs → b.host ≡ all_free → AreResting b.drives → AreAt seen bs b ss → IsAtRest seen bs (machines_now ss ms) b
  rests_again bs ms b ss unlike free rest at_ =
      let mine : AllUnlike (map (λ s. s.port.party) ss) = subst (λ l. AllUnlike l) (sym at_.parties) unlike in
      let powered = powered_now (machines_now ss ms) b.host b.drives b.drives ss at_.each rest (finds ms ss mine) in
      subst (λ l. IsAtRest seen l (machines_now ss ms) b) at_.parties (rests seen (machines_now ss ms) (map (λ s. s.port.party) ss) b b.drives refl free powered)
