-- A drive's reaction under both hosts.
use Rattle.std.proofs.Common.{◌≡◌, ℕ, Bool, Option, Some, List, sym, ap, subst, ◌∙◌}
use Rattle.cbm_iec.specs.Machines.{acted}
use Rattle.cbm_iec.specs.Ports.{port_due, reacted, reaction_act, reaction_changes, changes_between}
use Rattle.cbm_iec.specs.declared.machine.Act.{Act}
use Rattle.cbm_iec.specs.declared.lines.Change.{Change}
use Rattle.cbm_iec.specs.declared.port.Port.{Port}
use Rattle.cbm_session.specs.Loosely.{Heeds}
use Rattle.cbm_session.specs.Playing.{Station, react, shown}
use Rattle.bus_beside.specs.declared.wired.Wired.{Wired}
use Rattle.bus_beside.specs.Reactions.{ReactsTheSame}
use Rattle.bus_beside.specs.Rests.{rest_by}
use Rattle.bus_beside.specs.Seats.{SeatedTwice, station, Sits}

-- what one port shows, and what it did
pub record Reacts (t : ℕ) (said : Option (ℕ × Bool)) (act : Option Act) (x y : Wired) : Type 0 where
  pub port : y.port ≡ reacted t said x.port
  pub others : y.others ≡ x.others
  pub counts : act ≡ reaction_act said x.port

module _ (M : Type 0) (step : M → Act → M) (says : M → Option (ℕ × Bool)) where
  -- it is its station's reaction
  reacted_station : (t : ℕ) (said : Option (ℕ × Bool)) (act : Option Act) (x y : Wired) (m : M) → said ≡ says m → Reacts t said act x y → react M step says t (station x m) ≡ station y (acted M step act m)
  reacted_station t said act x y m e h =
      let port : reacted t (says m) x.port ≡ y.port = ap (λ p. reacted t p x.port) (sym e) ∙ sym h.port in
      let counts : reaction_act (says m) x.port ≡ act = ap (λ p. reaction_act p x.port) (sym e) ∙ sym h.counts in
      λ i. record { port = port i; rest = rest_by (sym h.others i); machine = acted M step (counts i) m }

  -- where it holds the same before and after it, it shows the same
  same_shown : (t : ℕ) (said : Option (ℕ × Bool)) (act act2 : Option Act) (x y v w : Wired) (m : M) → said ≡ says m → Reacts t said act x y → Reacts t said act2 v w → v.port.own ≡ x.port.own → w.port.own ≡ y.port.own
      → reaction_changes t said x.port ≡ shown M step says t (station v m)
  same_shown t said act act2 x y v w m e h k before after =
      let now : (reacted t said x.port).own ≡ (reacted t said v.port).own = ap (λ (p : Port). p.own) (sym h.port) ∙ sym after ∙ ap (λ (p : Port). p.own) k.port in
      (λ i. changes_between t (sym before i) (now i)) ∙ ap (λ p. reaction_changes t p v.port) e

module _ (D M : Type 0) (stands : D → M → Type 0) (step : M → Act → M) (says : M → Option (ℕ × Bool)) where
  pub reacts_alike : (t device : ℕ) (said : Option (ℕ × Bool)) (act act2 : Option Act) (cs : List Change) (x y : SeatedTwice D) → device ≡ x.real.port.party.device → port_due x.real.port ≡ Some t
      → ((m : M) → Heeds M step says (station x.real m) (station x.tidy m)) → x.tidy.port.own ≡ x.real.port.own → ((m : M) → stands x.machine m → said ≡ says m)
      → Reacts t said act x.real y.real → Reacts t said act2 x.tidy y.tidy → act2 ≡ act → y.tidy.port.own ≡ y.real.port.own → cs ≡ reaction_changes t said x.real.port
      → ((m : M) → stands x.machine m → stands y.machine (acted M step act m)) → (s u : Station M) → Sits D M stands x s u → ReactsTheSame D M stands step says t device cs y s u
  reacts_alike t device said act act2 cs x y which due heeds before says_so real tidy same after shows machine s u h =
      subst (λ (s : Station M). ReactsTheSame D M stands step says t device cs y s u) (sym h.real)
      (subst (λ (u : Station M). ReactsTheSame D M stands step says t device cs y (station x.real h.state) u) (sym h.tidy) (record {
        due = due;
        heeds = heeds h.state;
        which = which;
        changes = shows ∙ ap (λ p. reaction_changes t p x.real.port) (says_so h.state h.machine);
        tidied = shows ∙ same_shown M step says t said act act2 x.real y.real x.tidy y.tidy h.state (says_so h.state h.machine) real tidy before after;
        now = record {
          state = acted M step act h.state;
          real = reacted_station M step says t said act x.real y.real h.state (says_so h.state h.machine) real;
          tidy = reacted_station M step says t said act2 x.tidy y.tidy h.state (says_so h.state h.machine) tidy ∙ ap (λ (a : Option Act). station y.tidy (acted M step a h.state)) same;
          machine = machine h.state h.machine;
        };
      }))
