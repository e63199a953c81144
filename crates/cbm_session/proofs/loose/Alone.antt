-- A change of CLOCK or DATA that one of the two hosts makes alone: the drive ignores it.
use Rattle.std.proofs.Common.{◌≡◌, ℕ, Bool, true, false, Option, Some, None, ap, sym, ◌∙◌, subst, refl}
use Rattle.std.specs.Prelude.{◌||◌, ◌&&◌, not, if◌then◌else◌}
use Rattle.cbm_iec.specs.Changes.{lines_after}
use Rattle.cbm_iec.specs.Hearing.{is_same, after_clock, after_data, after_lines}
use Rattle.cbm_iec.specs.Machines.{acted}
use Rattle.cbm_iec.specs.Ports.{lined_side, lined_act, told, told_act}
use Rattle.cbm_iec.specs.Speaking.{talk_clock, talk_data, talk_lines, taken_act}
use Rattle.cbm_iec.specs.declared.machine.Act.TheVariants.{Said}
use Rattle.cbm_iec.specs.declared.machine.Act.{Act}
use Rattle.cbm_iec.specs.declared.ear.Ear.TheVariants.{Idle, Await, Starting, Leaving, Returning, Holding, Freeing, Ready, Timed, Pulsing, EoiNoted, Gathering, Accepting}
use Rattle.cbm_iec.specs.declared.ear.Ear.{Ear}
use Rattle.cbm_iec.specs.declared.lines.Change.{Change}
use Rattle.cbm_iec.specs.declared.lines.Line.TheVariants.{Atn, Clock, Data}
use Rattle.cbm_iec.specs.declared.lines.Line.{Line}
use Rattle.cbm_iec.specs.declared.lines.Way.TheVariants.{Pull, Free}
use Rattle.cbm_iec.specs.declared.lines.Way.{Way}
use Rattle.cbm_iec.specs.declared.lines.Lines.{Lines}
use Rattle.cbm_iec.specs.declared.mouth.Mouth.TheVariants.{Turned, Answering, Mute, Led, Offering, EoiOffered, EoiPulsed, Sending, Waiting, Ending, Over}
use Rattle.cbm_iec.specs.declared.mouth.Mouth.{Mouth}
use Rattle.cbm_iec.specs.declared.port.Side.TheVariants.{Hearing, Speaking}
use Rattle.cbm_iec.specs.declared.port.Side.{Side}
use Rattle.cbm_session.proofs.Truths.{same_self}
use Rattle.cbm_session.proofs.loose.Sides.{Sees, either, ear_calm, by_data, calm, lined_sees, WaitAlike, same, early}
use Rattle.cbm_session.proofs.loose.Stations.{Alike, told_lined}
use Rattle.cbm_session.proofs.loose.Wires.{on_wires, or_true}
use Rattle.cbm_session.specs.Among.{Rest, some, wires_of, after_the_host}
use Rattle.cbm_session.specs.Loosely.{Ignores, MayStray}
use Rattle.cbm_session.specs.Playing.{Station, told_lines, tell}

-- ---- what a drive ignores

abbrev Stays : ℕ → ℕ → Lines → Lines → Side → Type 0
Stays r m was now side = (lined_side r m was now side ≡ side) × (lined_act was now side ≡ None)

not_and : (v : Bool) → (not v && v) ≡ false
not_and true = refl
not_and false = refl

-- a change of CLOCK to a drive that talks and has answered
clock_stays : (r m : ℕ) (was now : Lines) (mouth : Mouth) → was.data_low ≡ now.data_low → talk_clock r m now.clock_low mouth ≡ mouth → talk_lines r m was now mouth ≡ mouth
clock_stays r m was now mouth e f =
    by_data r m was now mouth f
    ∙ ap (λ (v : Bool). if is_same v now.data_low then mouth else talk_data r m now.data_low mouth) e
    ∙ ap (λ (v : Bool). if v then mouth else talk_data r m now.data_low mouth) (same_self now.data_low)

untaken : (was now : Lines) (mouth : Mouth) → was.data_low ≡ now.data_low → taken_act was now mouth ≡ None
untaken was now (Waiting byte last) e =
    ap (λ (v : Bool). if not v && now.data_low then Some (Said byte last) else None) e ∙ ap (λ (v : Bool). if v then Some (Said byte last) else None) (not_and now.data_low)
untaken was now mouth e = refl

mouth_clock : (r m : ℕ) (was now : Lines) (mouth : Mouth) → was.data_low ≡ now.data_low → Ignores Clock false (Speaking mouth) → Stays r m was now (Speaking mouth)
mouth_clock r m was now Turned e g = elim g [ ]
mouth_clock r m was now (Answering at_) e g = elim g [ ]
mouth_clock r m was now mouth e g = (ap (λ (x : Mouth). Speaking x) (clock_stays r m was now mouth e refl), untaken was now mouth e)

ear_clock : (r m : ℕ) (was now : Lines) (ear : Ear) → Ignores Clock false (Hearing ear) → Stays r m was now (Hearing ear)
ear_clock r m was now Idle g = (ap (λ (x : Ear). Hearing x) (ear_calm r m was now Idle (λ low held. refl) (λ held. refl)), refl)
ear_clock r m was now (Leaving at_) g = (ap (λ (x : Ear). Hearing x) (ear_calm r m was now (Leaving at_) (λ low held. refl) (λ held. refl)), refl)
ear_clock r m was now (Starting at_) g = (ap (λ (x : Ear). Hearing x) (ear_calm r m was now (Starting at_) (λ low held. refl) (λ held. refl)), refl)
ear_clock r m was now ear g = elim g [ ]

-- a change of DATA to one that has no more to say
mouth_data : (r m : ℕ) (was now : Lines) (low : Bool) (mouth : Mouth) → Ignores Data low (Speaking mouth) → Stays r m was now (Speaking mouth)
mouth_data r m was now low (Mute at_) g = (ap (λ (x : Mouth). Speaking x) (calm r m was now (Mute at_) refl refl), refl)
mouth_data r m was now low (Ending at_) g = (ap (λ (x : Mouth). Speaking x) (calm r m was now (Ending at_) refl refl), refl)
mouth_data r m was now low Over g = (ap (λ (x : Mouth). Speaking x) (calm r m was now Over refl refl), refl)
mouth_data r m was now low mouth g = elim g [ ]

-- CLOCK stands as it stood, so DATA alone counts
data_stays : (r m : ℕ) (was now : Lines) (ear : Ear) → was.clock_low ≡ now.clock_low → ((held : Bool) → after_data r m held ear ≡ ear) → after_lines r m was now ear ≡ ear
data_stays r m was now ear e f =
    ap (λ (x : Ear). if is_same was.data_low now.data_low then x else after_data r m now.data_low x) (ap (λ (v : Bool). if is_same v now.clock_low then ear else after_clock r m now.clock_low now.data_low ear) e ∙ ap (λ (v : Bool). if v then ear else after_clock r m now.clock_low now.data_low ear) (same_self now.clock_low))
    ∙ either (is_same was.data_low now.data_low) ear (after_data r m now.data_low ear) (f now.data_low)

ear_data : (r m n d : ℕ) (h k : Lines) (ear : Ear) → h.clock_low ≡ k.clock_low → Ignores Data h.clock_low (Hearing ear) → Sees (Hearing ear) (on_wires n d h).clock_low → Stays r m (on_wires n d h) (on_wires n d k) (Hearing ear)
ear_data r m n d h k Ready e g s = let low : (some n || h.clock_low) ≡ true = or_true (some n) h.clock_low g in absurd cc
ear_data r m n d h k ear e g s = (ap (λ (x : Ear). Hearing x) (data_stays r m (on_wires n d h) (on_wires n d k) ear (ap (λ (v : Bool). some n || v) e) (λ held. refl)), refl)

stays : (line : Line) (way : Way) (r m n d : ℕ) (h : Lines) (side : Side) → Ignores line h.clock_low side → Sees side (on_wires n d h).clock_low → Stays r m (on_wires n d h) (on_wires n d (lines_after h line way)) side
stays Atn way r m n d h side g s = elim g [ ]
stays Clock way r m n d h (Hearing ear) g s = ear_clock r m (on_wires n d h) (on_wires n d (lines_after h Clock way)) ear g
stays Clock way r m n d h (Speaking mouth) g s = mouth_clock r m (on_wires n d h) (on_wires n d (lines_after h Clock way)) mouth refl g
stays Data way r m n d h (Hearing ear) g s = ear_data r m n d h (lines_after h Data way) ear refl g s
stays Data way r m n d h (Speaking mouth) g s = mouth_data r m (on_wires n d h) (on_wires n d (lines_after h Data way)) h.clock_low mouth g

-- CLOCK's pull after ATN's
pulls : (r m n d : ℕ) (h : Lines) → (some n || h.clock_low) ≡ false → after_lines r m (on_wires n d h) (on_wires n d (lines_after h Clock Pull)) Await ≡ Holding
pulls r m n d h e =
    ap (λ (x : Ear). if is_same u u then x else after_data r m u x) (ap (λ (v : Bool). if is_same v (some n || true) then Await else after_clock r m (some n || true) u Await) e ∙ ap (λ (v : Bool). if is_same false v then Await else after_clock r m v u Await) (or_true (some n) true refl))
    ∙ ap (λ (v : Bool). if v then Holding else after_data r m u Holding) (same_self u)
  where
    u : Bool
    u = some d || h.data_low

-- ATN isn't changed
atn_stays : (line : Line) (way : Way) (h : Lines) (side : Side) → Ignores line h.clock_low side → (lines_after h line way).atn_low ≡ h.atn_low
atn_stays Atn way h side g = elim g [ ]
atn_stays Clock way h side g = refl
atn_stays Data way h side g = refl

module _ (M : Type 0) (step : M → Act → M) (peek : M → Option (ℕ × Bool)) where
  -- a drive that ignores a change of its host's is where it was
  record IsStill (c : Change) (s : Station M) : Type 0 where
    pub side : (told c.moment (wires_of (after_the_host c.line c.way s.rest)) s.port).side ≡ s.port.side
    pub act : told_act (wires_of (after_the_host c.line c.way s.rest)) s.port ≡ None
    pub atn : (lines_after s.rest.host c.line c.way).atn_low ≡ s.rest.host.atn_low

  still : (c : Change) (s : Station M) → s.port.others ≡ wires_of s.rest → Ignores c.line s.rest.host.clock_low s.port.side → Sees s.port.side (wires_of s.rest).clock_low → IsStill c s
  still c s e g v =
      let a = atn_stays c.line c.way s.rest.host s.port.side g in
      let k = told_lined c.moment (wires_of s.rest) (wires_of (after_the_host c.line c.way s.rest)) s.port e (sym a) in
      let w = stays c.line c.way s.port.party.reaction c.moment s.rest.clocks s.rest.datas s.rest.host s.port.side g v in
      record { side = k.0 ∙ w.0; act = k.1 ∙ w.1; atn = a }

  seen_after : (c : Change) (s : Station M) → s.port.others ≡ wires_of s.rest → (lines_after s.rest.host c.line c.way).atn_low ≡ s.rest.host.atn_low → Sees s.port.side (wires_of s.rest).clock_low
      → Sees (told c.moment (wires_of (after_the_host c.line c.way s.rest)) s.port).side (wires_of (after_the_host c.line c.way s.rest)).clock_low
  seen_after c s e a v =
      let k = told_lined c.moment (wires_of s.rest) (wires_of (after_the_host c.line c.way s.rest)) s.port e (sym a) in
      subst (λ (x : Side). Sees x (wires_of (after_the_host c.line c.way s.rest)).clock_low) (sym k.0) (lined_sees s.port.party.reaction c.moment (wires_of s.rest) (wires_of (after_the_host c.line c.way s.rest)) s.port.side v)

  -- THE TIDY HOST MAKES A CHANGE ALONE
  pub tidied_alike : (c : Change) (s t : Station M) → Alike M step peek s t → Ignores c.line t.rest.host.clock_low t.port.side → Alike M step peek s (tell M step peek c t)
  tidied_alike c s t a g =
      let k = still c t a.tidied g a.saw in
      record {
        party = a.party;
        role = a.role;
        own = a.own;
        machine = ap (λ (x : Option Act). acted M step x t.machine) k.act ∙ a.machine;
        clocks = a.clocks;
        datas = a.datas;
        atn = k.atn ∙ a.atn;
        wired = a.wired;
        tidied = refl;
        waits = subst (λ (x : Side). WaitAlike s.port.side x) (sym k.side) a.waits;
        sees = a.sees;
        saw = seen_after c t a.tidied k.atn a.saw;
      }

  strayed : (c : Change) (s t : Station M) → Alike M step peek s t → told_act (wires_of (after_the_host c.line c.way s.rest)) s.port ≡ None → (lines_after s.rest.host c.line c.way).atn_low ≡ s.rest.host.atn_low
      → WaitAlike (told c.moment (wires_of (after_the_host c.line c.way s.rest)) s.port).side t.port.side → Alike M step peek (tell M step peek c s) t
  strayed c s t a act atn w = record {
    party = a.party;
    role = a.role;
    own = a.own;
    machine = a.machine ∙ sym (ap (λ (x : Option Act). acted M step x s.machine) act);
    clocks = a.clocks;
    datas = a.datas;
    atn = a.atn ∙ sym atn;
    wired = refl;
    tidied = a.tidied;
    waits = w;
    sees = seen_after c s a.wired atn a.sees;
    saw = a.saw;
  }

  ignored : (c : Change) (s t : Station M) → Alike M step peek s t → Ignores c.line s.rest.host.clock_low s.port.side → Alike M step peek (tell M step peek c s) t
  ignored c s t a g = let k = still c s a.wired g a.sees in strayed c s t a k.act k.atn (subst (λ (x : Side). WaitAlike x t.port.side) (sym k.side) a.waits)

  called : (m : ℕ) (s t : Station M) → Alike M step peek s t → s.port.side ≡ Hearing Await → t.port.side ≡ Hearing Holding → Alike M step peek (tell M step peek (record { moment = m; line = Clock; way = Pull }) s) t
  called m s t a e f =
      let c : Change = record { moment = m; line = Clock; way = Pull } in
      let k = told_lined m (wires_of s.rest) (wires_of (after_the_host Clock Pull s.rest)) s.port a.wired refl in
      let free : (some s.rest.clocks || s.rest.host.clock_low) ≡ false = subst (λ (x : Side). Sees x (wires_of s.rest).clock_low) e a.sees in
      let side : (told m (wires_of (after_the_host Clock Pull s.rest)) s.port).side ≡ Hearing Holding =
      k.0 ∙ ap (λ (x : Side). lined_side s.port.party.reaction m (wires_of s.rest) (wires_of (after_the_host Clock Pull s.rest)) x) e
      ∙ ap (λ (x : Ear). Hearing x) (pulls s.port.party.reaction m s.rest.clocks s.rest.datas s.rest.host free) in
      strayed c s t a (k.1 ∙ ap (λ (x : Side). lined_act (wires_of s.rest) (wires_of (after_the_host Clock Pull s.rest)) x) e) refl (same (f ∙ sym side))

  -- THE HOST MAKES A CHANGE ALONE
  pub strayed_alike : (c : Change) (s t : Station M) → Alike M step peek s t → MayStray c.line c.way s.rest.host.clock_low s.port.side t.port.side → Alike M step peek (tell M step peek c s) t
  strayed_alike c s t a g = by_line c.line c.way s.port.side refl g
    where
      At : Line → Way → Change
      At line way = record { moment = c.moment; line = line; way = way }

      by_line : (line : Line) (way : Way) (x : Side) → s.port.side ≡ x → MayStray line way s.rest.host.clock_low x t.port.side → Alike M step peek (tell M step peek (At line way) s) t
      by_line Clock Pull (Hearing Await) e h = called c.moment s t a e h
      by_line line way x e h = ignored (At line way) s t a (subst (λ (z : Side). Ignores line s.rest.host.clock_low z) (sym e) h)
