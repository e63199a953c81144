-- A change that both hosts make, and a reaction of a drive under both.
use Rattle.std.proofs.Common.{◌≡◌, ℕ, ◌+◌, Bool, true, false, List, Option, Some, None, ap, sym, ◌∙◌, subst, refl}
use Rattle.std.specs.Prelude.{◌||◌, if◌then◌else◌}
use Rattle.cbm_iec.specs.Changes.{is_pull, lines_after}
use Rattle.cbm_iec.specs.Hearing.{is_same}
use Rattle.cbm_iec.specs.Machines.{acted}
use Rattle.cbm_iec.specs.Ports.{port_due, side_due, freed_side, lined_side, lined_act, side_role, side_after, side_act, side_held, reaction_changes, changes_between, told, told_act, reacted, reaction_act}
use Rattle.cbm_iec.specs.declared.machine.Act.TheVariants.{Pulled, Released}
use Rattle.cbm_iec.specs.declared.machine.Act.{Act}
use Rattle.cbm_iec.specs.declared.ear.Ear.TheVariants.{Await, Starting, Holding}
use Rattle.cbm_iec.specs.declared.lines.Change.{Change}
use Rattle.cbm_iec.specs.declared.lines.Line.TheVariants.{Atn, Clock, Data}
use Rattle.cbm_iec.specs.declared.lines.Line.{Line}
use Rattle.cbm_iec.specs.declared.lines.Way.TheVariants.{Pull, Free}
use Rattle.cbm_iec.specs.declared.lines.Way.{Way}
use Rattle.cbm_iec.specs.declared.lines.Held.{Held}
use Rattle.cbm_iec.specs.declared.lines.Lines.{Lines}
use Rattle.cbm_iec.specs.declared.party.Party.{Party}
use Rattle.cbm_iec.specs.declared.party.Role.{Role}
use Rattle.cbm_iec.specs.declared.port.Side.TheVariants.{Hearing}
use Rattle.cbm_iec.specs.declared.port.Side.{Side}
use Rattle.cbm_session.proofs.loose.Reactions.{after_alike, act_alike}
use Rattle.cbm_session.proofs.loose.Sides.{Sees, freed_sees, after_sees, WaitAlike, same, early}
use Rattle.cbm_session.proofs.loose.Stations.{Alike, told_atn, heeding, lined_both, both_told}
use Rattle.cbm_session.proofs.loose.Wires.{on_wires}
use Rattle.cbm_session.specs.Among.{Rest, some, wires_of, after_the_host}
use Rattle.cbm_session.specs.Loosely.{HeedsAlike, Heeds, HeedsAfter, MayMake}
use Rattle.cbm_session.specs.Playing.{Station, told_lines, tell, react, shown}

module _ (M : Type 0) (step : M → Act → M) (peek : M → Option (ℕ × Bool)) where
  -- the tidy host's wires, with the drives that hold lines under the other
  tidy_wires : (h : Lines) (s t : Station M) → Alike M step peek s t → on_wires s.rest.clocks s.rest.datas h ≡ on_wires t.rest.clocks t.rest.datas h
  tidy_wires h s t a = ap (λ (v : ℕ). on_wires v s.rest.datas h) (sym a.clocks) ∙ ap (λ (v : ℕ). on_wires t.rest.clocks v h) (sym a.datas)

  -- a change of CLOCK or DATA
  lined_alike : (m : ℕ) (line : Line) (way : Way) (s t : Station M) → Alike M step peek s t → (lines_after s.rest.host line way).atn_low ≡ s.rest.host.atn_low → (lines_after t.rest.host line way).atn_low ≡ t.rest.host.atn_low
      → Heeds M step peek s t → HeedsAfter M step peek line way s t → Alike M step peek (told_lines M step peek m (after_the_host line way s.rest) s) (told_lines M step peek m (after_the_host line way t.rest) t)
  lined_alike m line way s t a n n2 f g =
      let k = heeding M step peek m s.rest.clocks s.rest.datas (lines_after s.rest.host line way) (lines_after t.rest.host line way) s t a f g in
      let like = tidy_wires (lines_after t.rest.host line way) s t a in
      lined_both M step peek m (after_the_host line way s.rest) (after_the_host line way t.rest) s t a a.clocks a.datas (sym n) (sym n2)
      (subst (λ (l : Lines). WaitAlike (lined_side s.port.party.reaction m (wires_of s.rest) (wires_of (after_the_host line way s.rest)) s.port.side) (lined_side s.port.party.reaction m (wires_of t.rest) l t.port.side)) like k.0)
      (subst (λ (l : Lines). lined_act (wires_of t.rest) l t.port.side ≡ lined_act (wires_of s.rest) (wires_of (after_the_host line way s.rest)) s.port.side) like k.1)

  -- a change of ATN
  abbrev turned_to : ℕ → ℕ → Bool → Bool → Role → Side → Side
  turned_to r m low clock role side = if low then Hearing (Starting (m + r)) else freed_side r m clock role side

  atn_alike : (m : ℕ) (way : Way) (s t : Station M) → Alike M step peek s t
      → WaitAlike (turned_to s.port.party.reaction m (is_pull way) (wires_of s.rest).clock_low s.port.role s.port.side) (turned_to t.port.party.reaction m (is_pull way) (wires_of t.rest).clock_low t.port.role t.port.side)
      → Alike M step peek (told_lines M step peek m (after_the_host Atn way s.rest) s) (told_lines M step peek m (after_the_host Atn way t.rest) t)
  atn_alike m way s t a w =
      both_told M step peek m (after_the_host Atn way s.rest) (after_the_host Atn way t.rest) s t a a.clocks a.datas refl
      (subst (λ (x : Side). WaitAlike x (told m (wires_of (after_the_host Atn way t.rest)) t.port).side) (sym k.0) (subst (λ (x : Side). WaitAlike side x) (sym (k2.0 ∙ as_one)) waits))
      (k2.1 ∙ ap (λ (v : Bool). if is_same v low then None else Some (if low then Pulled else Released)) a.atn ∙ sym k.1)
      (subst (λ (x : Side). Sees x (wires_of s.rest).clock_low) (sym k.0) (seen (is_same s.rest.host.atn_low low) low s.port.party.reaction (wires_of s.rest).clock_low s.port.role s.port.side a.sees))
      (subst (λ (x : Side). Sees x (wires_of t.rest).clock_low) (sym k2.0) (seen (is_same t.rest.host.atn_low low) low t.port.party.reaction (wires_of t.rest).clock_low t.port.role t.port.side a.saw))
    where
      low : Bool
      low = is_pull way

      goes : Bool → Station M → Side
      goes v x = if v then x.port.side else turned_to x.port.party.reaction m low (wires_of x.rest).clock_low x.port.role x.port.side

      side : Side
      side = goes (is_same s.rest.host.atn_low low) s

      k : ((told m (wires_of (after_the_host Atn way s.rest)) s.port).side ≡ goes (is_same s.rest.host.atn_low low) s) × (told_act (wires_of (after_the_host Atn way s.rest)) s.port ≡ (if is_same s.rest.host.atn_low low then None else Some (if low then Pulled else Released)))
      k = told_atn m (wires_of s.rest) (is_pull way) s.port a.wired

      k2 : ((told m (wires_of (after_the_host Atn way t.rest)) t.port).side ≡ goes (is_same t.rest.host.atn_low low) t) × (told_act (wires_of (after_the_host Atn way t.rest)) t.port ≡ (if is_same t.rest.host.atn_low low then None else Some (if low then Pulled else Released)))
      k2 = told_atn m (wires_of t.rest) (is_pull way) t.port a.tidied

      as_one : goes (is_same t.rest.host.atn_low low) t ≡ goes (is_same s.rest.host.atn_low low) t
      as_one = ap (λ (v : Bool). goes (is_same v low) t) a.atn

      waits : WaitAlike (goes (is_same s.rest.host.atn_low low) s) (goes (is_same s.rest.host.atn_low low) t)
      waits = go (is_same s.rest.host.atn_low low)
        where
          go : (v : Bool) → WaitAlike (goes v s) (goes v t)
          go true = a.waits
          go false = w

      seen : (v l : Bool) (r : ℕ) (clock : Bool) (role : Role) (x : Side) → Sees x clock → Sees (if v then x else turned_to r m l clock role x) clock
      seen true l r clock role x e = e
      seen false true r clock role x e = tt
      seen false false r clock role x e = freed_sees r m clock role x e

  pulled : (m : ℕ) (s t : Station M) → Alike M step peek s t → Alike M step peek (told_lines M step peek m (after_the_host Atn Pull s.rest) s) (told_lines M step peek m (after_the_host Atn Pull t.rest) t)
  pulled m s t a = atn_alike m Pull s t a (same (ap (λ (b : Party). Hearing (Starting (m + b.reaction))) a.party))

  freed : (m : ℕ) (s t : Station M) → Alike M step peek s t → s.rest.host.clock_low ≡ t.rest.host.clock_low → Heeds M step peek s t → Alike M step peek (told_lines M step peek m (after_the_host Atn Free s.rest) s) (told_lines M step peek m (after_the_host Atn Free t.rest) t)
  freed m s t a e f = atn_alike m Free s t a (by_waits s.port.side t.port.side a.waits f)
    where
      clocks : (wires_of t.rest).clock_low ≡ (wires_of s.rest).clock_low
      clocks = ap (λ (v : Bool). some t.rest.clocks || v) (sym e) ∙ ap (λ (v : ℕ). some v || s.rest.host.clock_low) a.clocks

      by_waits : (x y : Side) → WaitAlike x y → HeedsAlike s.port.party.pace s.rest.clocks s.rest.host t.rest.host x y
          → WaitAlike (freed_side s.port.party.reaction m (wires_of s.rest).clock_low s.port.role x) (freed_side t.port.party.reaction m (wires_of t.rest).clock_low t.port.role y)
      by_waits x y (same g) h = same (
          ap (λ (b : Party). freed_side b.reaction m (wires_of t.rest).clock_low t.port.role y) a.party
          ∙ ap (λ (v : Bool). freed_side s.port.party.reaction m v t.port.role y) clocks
          ∙ ap (λ (v : Role). freed_side s.port.party.reaction m (wires_of s.rest).clock_low v y) a.role
          ∙ ap (λ (z : Side). freed_side s.port.party.reaction m (wires_of s.rest).clock_low s.port.role z) g
          )
      by_waits x y (early g g2) h =
          let k = subst (λ (z : Side). HeedsAlike s.port.party.pace s.rest.clocks s.rest.host t.rest.host (Hearing Await) z) g2 (subst (λ (z : Side). HeedsAlike s.port.party.pace s.rest.clocks s.rest.host t.rest.host z y) g h) in
          let free : s.rest.host.clock_low ≡ false = k.1 in
          let low : t.rest.host.clock_low ≡ true = k.2 in
          absurd cc

  -- BOTH HOSTS MAKE A CHANGE
  pub made_alike : (c : Change) (s t : Station M) → Alike M step peek s t → MayMake M step peek c.line c.way s t → Alike M step peek (tell M step peek c s) (tell M step peek c t)
  made_alike c s t a g = by_line c.line c.way g
    where
      by_line : (line : Line) (way : Way) → MayMake M step peek line way s t → Alike M step peek (told_lines M step peek c.moment (after_the_host line way s.rest) s) (told_lines M step peek c.moment (after_the_host line way t.rest) t)
      by_line Atn Pull h = pulled c.moment s t a
      by_line Atn Free h = freed c.moment s t a h.0 h.1
      by_line Clock way h = lined_alike c.moment Clock way s t a refl refl h.0 h.1
      by_line Data way h = lined_alike c.moment Data way s t a refl refl h.0 h.1

  -- ---- a reaction

  -- nothing is due under one host that isn't under the other
  pub due_alike : (s t : Station M) → Alike M step peek s t → port_due t.port ≡ port_due s.port
  due_alike s t a = by_waits s.port.side t.port.side a.waits
    where
      by_waits : (x y : Side) → WaitAlike x y → side_due y ≡ side_due x
      by_waits x y (same e) = ap (λ (z : Side). side_due z) e
      by_waits x y (early e f) = ap (λ (z : Side). side_due z) f ∙ sym (ap (λ (z : Side). side_due z) e)

  -- A REACTION THAT IS DUE makes the same changes under both
  pub record ReactsAlike (m : ℕ) (s t : Station M) : Type 0 where
    pub alike : Alike M step peek (react M step peek m s) (react M step peek m t)
    pub shows : shown M step peek m t ≡ shown M step peek m s

  reacts_same : (m : ℕ) (s t : Station M) → Alike M step peek s t → t.port.side ≡ s.port.side → Heeds M step peek s t → ReactsAlike m s t
  reacts_same m s t a e f2 = record {
    alike = record {
      party = a.party;
      role = role;
      own = own;
      machine = ap (λ (x : Option Act). acted M step x t.machine) act ∙ ap (λ (x : M). acted M step (reaction_act (peek s.machine) s.port) x) a.machine;
      clocks = a.clocks;
      datas = a.datas;
      atn = a.atn;
      wired = a.wired;
      tidied = a.tidied;
      waits = waits;
      sees = subst (λ (l : Lines). Sees (side_after s.port.party.pace s.port.party.reaction m l (peek s.machine) s.port.side) (wires_of s.rest).clock_low) (sym a.wired)
          (after_sees s.port.party.pace s.port.party.reaction m (wires_of s.rest) (peek s.machine) s.port.side a.sees);
      saw = subst (λ (l : Lines). Sees (side_after t.port.party.pace t.port.party.reaction m l (peek t.machine) t.port.side) (wires_of t.rest).clock_low) (sym a.tidied)
          (after_sees t.port.party.pace t.port.party.reaction m (wires_of t.rest) (peek t.machine) t.port.side a.saw);
    };
    shows = ap (λ (l : Held). changes_between m l (side_held t.port.party.pace (peek t.machine) l t.port.side)) a.own ∙ ap (λ (l : Held). changes_between m s.port.own l) (held_from s.port.own);
  }
    where
      f : HeedsAlike s.port.party.pace s.rest.clocks s.rest.host t.rest.host s.port.side s.port.side
      f = subst (λ (z : Side). HeedsAlike s.port.party.pace s.rest.clocks s.rest.host t.rest.host s.port.side z) e f2

      -- the tidy host's wires
      now : Lines
      now = on_wires s.rest.clocks s.rest.datas t.rest.host

      others : t.port.others ≡ now
      others = a.tidied ∙ sym (tidy_wires t.rest.host s t a)

      held_from : (l : Held) → side_held t.port.party.pace (peek t.machine) l t.port.side ≡ side_held s.port.party.pace (peek s.machine) l s.port.side
      held_from l =
          ap (λ (b : Party). side_held b.pace (peek t.machine) l t.port.side) a.party
          ∙ ap (λ (x : M). side_held s.port.party.pace (peek x) l t.port.side) a.machine
          ∙ ap (λ (z : Side). side_held s.port.party.pace (peek s.machine) l z) e

      own : (react M step peek m t).port.own ≡ (react M step peek m s).port.own
      own = ap (λ (l : Held). side_held t.port.party.pace (peek t.machine) l t.port.side) a.own ∙ held_from s.port.own

      atn : t.port.others.atn_low ≡ s.port.others.atn_low
      atn = ap (λ (l : Lines). l.atn_low) a.tidied ∙ a.atn ∙ sym (ap (λ (l : Lines). l.atn_low) a.wired)

      role : (react M step peek m t).port.role ≡ (react M step peek m s).port.role
      role =
          ap (λ (b : Party). side_role b.device t.port.others.atn_low t.port.role t.port.side) a.party
          ∙ ap (λ (v : Bool). side_role s.port.party.device v t.port.role t.port.side) atn
          ∙ ap (λ (v : Role). side_role s.port.party.device s.port.others.atn_low v t.port.side) a.role
          ∙ ap (λ (z : Side). side_role s.port.party.device s.port.others.atn_low s.port.role z) e

      act : reaction_act (peek t.machine) t.port ≡ reaction_act (peek s.machine) s.port
      act =
          ap (λ (b : Party). side_act b.pace (peek t.machine) t.port.others t.port.side) a.party
          ∙ ap (λ (x : M). side_act s.port.party.pace (peek x) t.port.others t.port.side) a.machine
          ∙ ap (λ (l : Lines). side_act s.port.party.pace (peek s.machine) l t.port.side) others
          ∙ ap (λ (z : Side). side_act s.port.party.pace (peek s.machine) now z) e
          ∙ act_alike s.port.party.pace s.rest.clocks s.rest.datas s.rest.host t.rest.host (peek s.machine) s.port.side a.atn f
          ∙ ap (λ (l : Lines). side_act s.port.party.pace (peek s.machine) l s.port.side) (sym a.wired)

      tidy_side : (react M step peek m t).port.side ≡ side_after s.port.party.pace s.port.party.reaction m now (peek s.machine) s.port.side
      tidy_side =
          ap (λ (b : Party). side_after b.pace b.reaction m t.port.others (peek t.machine) t.port.side) a.party
          ∙ ap (λ (x : M). side_after s.port.party.pace s.port.party.reaction m t.port.others (peek x) t.port.side) a.machine
          ∙ ap (λ (l : Lines). side_after s.port.party.pace s.port.party.reaction m l (peek s.machine) t.port.side) others
          ∙ ap (λ (z : Side). side_after s.port.party.pace s.port.party.reaction m now (peek s.machine) z) e

      waits : WaitAlike (react M step peek m s).port.side (react M step peek m t).port.side
      waits =
          subst (λ (x : Side). WaitAlike (react M step peek m s).port.side x) (sym tidy_side)
          (subst (λ (l : Lines). WaitAlike (side_after s.port.party.pace s.port.party.reaction m l (peek s.machine) s.port.side) (side_after s.port.party.pace s.port.party.reaction m now (peek s.machine) s.port.side)) (sym a.wired)
          (after_alike s.port.party.pace s.port.party.reaction m s.rest.clocks s.rest.datas s.rest.host t.rest.host (peek s.machine) s.port.side f a.sees))

  pub reacts_alike : (m : ℕ) (s t : Station M) → Alike M step peek s t → port_due s.port ≡ Some m → Heeds M step peek s t → ReactsAlike m s t
  reacts_alike m s t a due f = by_waits s.port.side t.port.side a.waits refl refl
    where
      by_waits : (x y : Side) → WaitAlike x y → s.port.side ≡ x → t.port.side ≡ y → ReactsAlike m s t
      by_waits x y (same e) g h = reacts_same m s t a (h ∙ e ∙ sym g) f
      by_waits x y (early e e2) g h = let k : side_due (Hearing Await) ≡ Some m = subst (λ (z : Side). side_due z ≡ Some m) (g ∙ e) due in absurd cc
