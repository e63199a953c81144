-- A drive under the host and the same drive under the tidy one: what a change and a reaction make of both.
use Rattle.std.proofs.Common.{◌≡◌, ℕ, zero, suc, ◌+◌, Bool, true, false, List, [], ◌∷◌, Option, Some, None, ap, sym, ◌∙◌, subst, refl, ◌⊎◌, inl, inr}
use Rattle.std.specs.Prelude.{◌||◌, ◌&&◌, not, if◌then◌else◌}
use Rattle.cbm_iec.specs.Changes.{is_pull, lines_after}
use Rattle.cbm_iec.specs.Hearing.{is_same, after_clock, after_data, after_lines}
use Rattle.cbm_iec.specs.Machines.{acted}
use Rattle.cbm_iec.specs.Ports.{port_due, side_due, turned_side, lined_side, lined_act, freed_side, side_role, side_after, side_act, side_held, next_held, reaction_changes, changes_between, told, told_act, reacted, reaction_act}
use Rattle.cbm_iec.specs.Speaking.{talk_clock, talk_data, talk_lines, taken_act}
use Rattle.cbm_iec.specs.declared.machine.Act.TheVariants.{Pulled, Released, Said}
use Rattle.cbm_iec.specs.declared.machine.Act.{Act}
use Rattle.cbm_iec.specs.declared.ear.Ear.TheVariants.{Idle, Await, Starting, Leaving, Returning, Holding, Freeing, Ready, Timed, Pulsing, EoiNoted, Gathering, Accepting}
use Rattle.cbm_iec.specs.declared.ear.Ear.{Ear}
use Rattle.cbm_iec.specs.declared.lines.Change.{Change}
use Rattle.cbm_iec.specs.declared.lines.Line.TheVariants.{Atn, Clock, Data}
use Rattle.cbm_iec.specs.declared.lines.Line.{Line}
use Rattle.cbm_iec.specs.declared.lines.Way.TheVariants.{Pull, Free}
use Rattle.cbm_iec.specs.declared.lines.Way.{Way}
use Rattle.cbm_iec.specs.declared.lines.Held.{Held}
use Rattle.cbm_iec.specs.declared.lines.Lines.{Lines}
use Rattle.cbm_iec.specs.declared.mouth.Mouth.TheVariants.{Turned, Answering, Mute, Led, Offering, EoiOffered, EoiPulsed, Sending, Waiting, Ending, Over}
use Rattle.cbm_iec.specs.declared.mouth.Mouth.{Mouth}
use Rattle.cbm_iec.specs.declared.pace.Pace.{Pace}
use Rattle.cbm_iec.specs.declared.party.Party.{Party}
use Rattle.cbm_iec.specs.declared.party.Role.{Role}
use Rattle.cbm_iec.specs.declared.port.Port.{Port}
use Rattle.cbm_iec.specs.declared.port.Side.TheVariants.{Hearing, Speaking}
use Rattle.cbm_iec.specs.declared.port.Side.{Side}
use Rattle.cbm_session.proofs.Truths.{same_self}
use Rattle.cbm_session.proofs.loose.Reactions.{after_alike, act_alike, role_alike}
use Rattle.cbm_session.proofs.loose.Sides.{Sees, Heard, lined_alike, lined_act_alike, lined_sees, freed_sees, after_sees, WaitAlike, same, early}
use Rattle.cbm_session.proofs.loose.Wires.{on_wires, or_true, or_right, is_heard, await_lines, holding_lines}
use Rattle.cbm_session.specs.Among.{Rest, some, wires_of, counted, after_another, after_the_host}
use Rattle.cbm_session.specs.Loosely.{HeedsAlike, Ignores, MayStray, Heeds, HeedsAfter, MayMake, HeedsAll}
use Rattle.cbm_session.specs.Playing.{Station, told_lines, tell, hear, hear_all, react, shown}

-- ---- a change of a line, as a port is told it

-- ATN stands as it stood
pub told_lined : (m : ℕ) (was now : Lines) (q : Port) → q.others ≡ was → was.atn_low ≡ now.atn_low
    → ((told m now q).side ≡ lined_side q.party.reaction m was now q.side) × (told_act now q ≡ lined_act was now q.side)
told_lined m was now q e a = (
  ap (λ (l : Lines). if is_same l.atn_low now.atn_low then lined_side q.party.reaction m l now q.side else turned_side m now q) e
      ∙ ap (λ (v : Bool). if v then lined_side q.party.reaction m was now q.side else turned_side m now q) still,
  ap (λ (l : Lines). if is_same l.atn_low now.atn_low then lined_act l now q.side else Some (if now.atn_low then Pulled else Released)) e
      ∙ ap (λ (v : Bool). if v then lined_act was now q.side else Some (if now.atn_low then Pulled else Released)) still,
)
  where
    still : is_same was.atn_low now.atn_low ≡ true
    still = ap (λ (v : Bool). is_same v now.atn_low) a ∙ same_self now.atn_low

-- no line stands otherwise
unlined : (r m : ℕ) (a b c u : Bool) (side : Side)
    → (lined_side r m (record { atn_low = a; clock_low = c; data_low = u }) (record { atn_low = b; clock_low = c; data_low = u }) side ≡ side)
    × (lined_act (record { atn_low = a; clock_low = c; data_low = u }) (record { atn_low = b; clock_low = c; data_low = u }) side ≡ None)
unlined r m a b true true (Hearing ear) = (refl, refl)
unlined r m a b true false (Hearing ear) = (refl, refl)
unlined r m a b false true (Hearing ear) = (refl, refl)
unlined r m a b false false (Hearing ear) = (refl, refl)
unlined r m a b c u (Speaking mouth) = (by_lines c u, taken u mouth)
  where
    by_lines : (c u : Bool) → Speaking (talk_lines r m (record { atn_low = a; clock_low = c; data_low = u }) (record { atn_low = b; clock_low = c; data_low = u }) mouth) ≡ Speaking mouth
    by_lines true true = refl
    by_lines true false = refl
    by_lines false true = refl
    by_lines false false = refl

    taken : (u : Bool) (x : Mouth) → taken_act (record { atn_low = a; clock_low = c; data_low = u }) (record { atn_low = b; clock_low = c; data_low = u }) x ≡ None
    taken true (Waiting byte last) = refl
    taken false (Waiting byte last) = refl
    taken u x = refl

-- a change of ATN, or none
abbrev turned_to : ℕ → ℕ → Bool → Role → Side → Side
turned_to r m low role side = if low then Hearing (Starting (m + r)) else side

pub told_atn : (m : ℕ) (was : Lines) (low : Bool) (q : Port) → q.others ≡ was
    → ((told m (record was { atn_low = low }) q).side ≡ (if is_same was.atn_low low then q.side else (if low then Hearing (Starting (m + q.party.reaction)) else freed_side q.party.reaction m was.clock_low q.role q.side)))
    × (told_act (record was { atn_low = low }) q ≡ (if is_same was.atn_low low then None else Some (if low then Pulled else Released)))
told_atn m was low q e = (
  ap (λ (l : Lines). if is_same l.atn_low low then lined_side q.party.reaction m l now q.side else turned_side m now q) e
      ∙ ap (λ (x : Side). if is_same was.atn_low low then x else turned_side m now q) nothing.0,
  ap (λ (l : Lines). if is_same l.atn_low low then lined_act l now q.side else Some (if low then Pulled else Released)) e
      ∙ ap (λ (x : Option Act). if is_same was.atn_low low then x else Some (if low then Pulled else Released)) nothing.1,
)
  where
    now : Lines
    now = record was { atn_low = low }

    nothing : (lined_side q.party.reaction m was now q.side ≡ q.side) × (lined_act was now q.side ≡ None)
    nothing = unlined q.party.reaction m was.atn_low low was.clock_low was.data_low q.side

-- ---- the two drives

module _ (M : Type 0) (step : M → Act → M) (peek : M → Option (ℕ × Bool)) where
  -- The drive under the host, and under the tidy one: the same but for the host's CLOCK and DATA, and for CLOCK's pull after ATN's that one of them hasn't seen.
  pub record Alike (s t : Station M) : Type 0 where
    pub party : t.port.party ≡ s.port.party
    pub role : t.port.role ≡ s.port.role
    pub own : t.port.own ≡ s.port.own
    pub machine : t.machine ≡ s.machine
    pub clocks : t.rest.clocks ≡ s.rest.clocks
    pub datas : t.rest.datas ≡ s.rest.datas
    pub atn : t.rest.host.atn_low ≡ s.rest.host.atn_low
    pub wired : s.port.others ≡ wires_of s.rest
    pub tidied : t.port.others ≡ wires_of t.rest
    pub waits : WaitAlike s.port.side t.port.side
    pub sees : Sees s.port.side (wires_of s.rest).clock_low
    pub saw : Sees t.port.side (wires_of t.rest).clock_low

  -- both are told something: what they wait for then, and what counts, is alike
  pub both_told : (m : ℕ) (r u : Rest) (s t : Station M) → Alike s t → u.clocks ≡ r.clocks → u.datas ≡ r.datas → u.host.atn_low ≡ r.host.atn_low
      → WaitAlike (told m (wires_of r) s.port).side (told m (wires_of u) t.port).side → told_act (wires_of u) t.port ≡ told_act (wires_of r) s.port
      → Sees (told m (wires_of r) s.port).side (wires_of r).clock_low → Sees (told m (wires_of u) t.port).side (wires_of u).clock_low → Alike (told_lines M step peek m r s) (told_lines M step peek m u t)
  both_told m r u s t a c d n w act v v2 = record {
    party = a.party;
    role = a.role;
    own = a.own;
    machine = ap (λ (x : Option Act). acted M step x t.machine) act ∙ ap (λ (x : M). acted M step (told_act (wires_of r) s.port) x) a.machine;
    clocks = c;
    datas = d;
    atn = n;
    wired = refl;
    tidied = refl;
    waits = w;
    sees = v;
    saw = v2;
  }

  -- a change of CLOCK or DATA, of the host or of another drive, where ATN stands as it stood
  pub lined_both : (m : ℕ) (r u : Rest) (s t : Station M) → Alike s t → u.clocks ≡ r.clocks → u.datas ≡ r.datas → s.rest.host.atn_low ≡ r.host.atn_low → t.rest.host.atn_low ≡ u.host.atn_low
      → WaitAlike (lined_side s.port.party.reaction m (wires_of s.rest) (wires_of r) s.port.side) (lined_side s.port.party.reaction m (wires_of t.rest) (wires_of u) t.port.side)
      → lined_act (wires_of t.rest) (wires_of u) t.port.side ≡ lined_act (wires_of s.rest) (wires_of r) s.port.side → Alike (told_lines M step peek m r s) (told_lines M step peek m u t)
  lined_both m r u s t a c d n n2 w act =
      both_told m r u s t a c d (sym n2 ∙ a.atn ∙ n)
      (subst (λ (x : Side). WaitAlike x (told m (wires_of u) t.port).side) (sym k.0) (subst (λ (x : Side). WaitAlike (lined_side s.port.party.reaction m (wires_of s.rest) (wires_of r) s.port.side) x) (sym (k2.0 ∙ paced)) w))
      (k2.1 ∙ act ∙ sym k.1)
      (subst (λ (x : Side). Sees x (wires_of r).clock_low) (sym k.0) (lined_sees s.port.party.reaction m (wires_of s.rest) (wires_of r) s.port.side a.sees))
      (subst (λ (x : Side). Sees x (wires_of u).clock_low) (sym k2.0) (lined_sees t.port.party.reaction m (wires_of t.rest) (wires_of u) t.port.side a.saw))
    where
      k : ((told m (wires_of r) s.port).side ≡ lined_side s.port.party.reaction m (wires_of s.rest) (wires_of r) s.port.side) × (told_act (wires_of r) s.port ≡ lined_act (wires_of s.rest) (wires_of r) s.port.side)
      k = told_lined m (wires_of s.rest) (wires_of r) s.port a.wired n

      k2 : ((told m (wires_of u) t.port).side ≡ lined_side t.port.party.reaction m (wires_of t.rest) (wires_of u) t.port.side) × (told_act (wires_of u) t.port ≡ lined_act (wires_of t.rest) (wires_of u) t.port.side)
      k2 = told_lined m (wires_of t.rest) (wires_of u) t.port a.tidied n2

      paced : lined_side t.port.party.reaction m (wires_of t.rest) (wires_of u) t.port.side ≡ lined_side s.port.party.reaction m (wires_of t.rest) (wires_of u) t.port.side
      paced = ap (λ (b : Party). lined_side b.reaction m (wires_of t.rest) (wires_of u) t.port.side) a.party

  -- what each of them heeds is alike before it and after it
  pub heeding : (m : ℕ) (n2 d2 : ℕ) (h2 k2 : Lines) (s t : Station M) → Alike s t → HeedsAlike s.port.party.pace s.rest.clocks s.rest.host t.rest.host s.port.side t.port.side → HeedsAlike s.port.party.pace s.rest.clocks h2 k2 s.port.side t.port.side
      → WaitAlike (lined_side s.port.party.reaction m (wires_of s.rest) (on_wires n2 d2 h2) s.port.side) (lined_side s.port.party.reaction m (wires_of t.rest) (on_wires n2 d2 k2) t.port.side)
      × (lined_act (wires_of t.rest) (on_wires n2 d2 k2) t.port.side ≡ lined_act (wires_of s.rest) (on_wires n2 d2 h2) s.port.side)
  heeding m n2 d2 h2 k2 s t a f g = by_waits s.port.side t.port.side a.waits f g a.sees a.saw
    where
      R : ℕ
      R = s.port.party.reaction

      tidy_was : Lines
      tidy_was = record { atn_low = t.rest.host.atn_low; clock_low = some s.rest.clocks || t.rest.host.clock_low; data_low = some s.rest.datas || t.rest.host.data_low }

      tidy_wires : wires_of t.rest ≡ tidy_was
      tidy_wires =
          ap (λ (v : ℕ). (record { atn_low = t.rest.host.atn_low; clock_low = some v || t.rest.host.clock_low; data_low = some t.rest.datas || t.rest.host.data_low })) a.clocks
          ∙ ap (λ (v : ℕ). (record { atn_low = t.rest.host.atn_low; clock_low = some s.rest.clocks || t.rest.host.clock_low; data_low = some v || t.rest.host.data_low })) a.datas

      Both : Side → Side → Type 0
      Both x y = WaitAlike (lined_side R m (wires_of s.rest) (on_wires n2 d2 h2) x) (lined_side R m (wires_of t.rest) (on_wires n2 d2 k2) y) × (lined_act (wires_of t.rest) (on_wires n2 d2 k2) y ≡ lined_act (wires_of s.rest) (on_wires n2 d2 h2) x)

      alike : (x : Side) → HeedsAlike s.port.party.pace s.rest.clocks s.rest.host t.rest.host x x → HeedsAlike s.port.party.pace s.rest.clocks h2 k2 x x → Sees x (wires_of s.rest).clock_low → Sees x (wires_of t.rest).clock_low → Both x x
      alike x p q v w =
          let heard = is_heard s.port.party.pace s.rest.clocks n2 s.rest.clocks s.rest.datas d2 s.rest.host h2 t.rest.host k2 x p q (subst (λ (l : Lines). Sees x l.clock_low) tidy_wires w) in (
            same (ap (λ (l : Lines). lined_side R m l (on_wires n2 d2 k2) x) tidy_wires ∙ sym (lined_alike R m (wires_of s.rest) (on_wires n2 d2 h2) tidy_was (on_wires n2 d2 k2) x v heard)),
            ap (λ (l : Lines). lined_act l (on_wires n2 d2 k2) x) tidy_wires ∙ sym (lined_act_alike (wires_of s.rest) (on_wires n2 d2 h2) tidy_was (on_wires n2 d2 k2) x heard),
          )

      waiting : HeedsAlike s.port.party.pace s.rest.clocks s.rest.host t.rest.host (Hearing Await) (Hearing Holding) → HeedsAlike s.port.party.pace s.rest.clocks h2 k2 (Hearing Await) (Hearing Holding) → Both (Hearing Await) (Hearing Holding)
      waiting p q =
          let held : after_lines R m (wires_of t.rest) (on_wires n2 d2 k2) Holding ≡ Holding = holding_lines R m (wires_of t.rest) (on_wires n2 d2 k2) (or_true (some t.rest.clocks) t.rest.host.clock_low p.2) (or_true (some n2) k2.clock_low q.2) in (
            elim (await_lines R m (wires_of s.rest) (on_wires n2 d2 h2)) [
              | inl e ↦ early (ap (λ (x : Ear). Hearing x) e) (ap (λ (x : Ear). Hearing x) held)
              | inr e ↦ same (ap (λ (x : Ear). Hearing x) (held ∙ sym e))
            ],
            refl,
          )

      by_waits : (x y : Side) → WaitAlike x y → HeedsAlike s.port.party.pace s.rest.clocks s.rest.host t.rest.host x y → HeedsAlike s.port.party.pace s.rest.clocks h2 k2 x y → Sees x (wires_of s.rest).clock_low → Sees y (wires_of t.rest).clock_low → Both x y
      by_waits x y (same e) p q v w = subst (λ (z : Side). Both x z) (sym e) (alike x (subst (λ (z : Side). HeedsAlike s.port.party.pace s.rest.clocks s.rest.host t.rest.host x z) e p) (subst (λ (z : Side). HeedsAlike s.port.party.pace s.rest.clocks h2 k2 x z) e q) v (subst (λ (z : Side). Sees z (wires_of t.rest).clock_low) e w))
      by_waits x y (early e f) p q v w =
          subst (λ (z : Side). Both z y) (sym e) (subst (λ (z : Side). Both (Hearing Await) z) (sym f) (waiting (subst (λ (z : Side). HeedsAlike s.port.party.pace s.rest.clocks s.rest.host t.rest.host (Hearing Await) z) f (subst (λ (z : Side). HeedsAlike s.port.party.pace s.rest.clocks s.rest.host t.rest.host z y) e p)) (subst (λ (z : Side). HeedsAlike s.port.party.pace s.rest.clocks h2 k2 (Hearing Await) z) f (subst (λ (z : Side). HeedsAlike s.port.party.pace s.rest.clocks h2 k2 z y) e q))))

  -- ANOTHER DRIVE CHANGES A LINE
  pub hear_alike : (c : Change) (s t : Station M) → Alike s t → Heeds M step peek s t → Alike (hear M step peek c s) (hear M step peek c t)
  hear_alike c s t a f = by_line c.line
    where
      moved : (r u : Rest) → r.host ≡ s.rest.host → u.host ≡ t.rest.host → u.clocks ≡ r.clocks → u.datas ≡ r.datas → Alike (told_lines M step peek c.moment r s) (told_lines M step peek c.moment u t)
      moved r u e e2 cl da =
          let k = heeding c.moment r.clocks r.datas r.host u.host s t a f (subst (λ (l : Lines). HeedsAlike s.port.party.pace s.rest.clocks l u.host s.port.side t.port.side) (sym e) (subst (λ (l : Lines). HeedsAlike s.port.party.pace s.rest.clocks s.rest.host l s.port.side t.port.side) (sym e2) f)) in
          let like : on_wires r.clocks r.datas u.host ≡ wires_of u =
          ap (λ (v : ℕ). on_wires v r.datas u.host) (sym cl) ∙ ap (λ (v : ℕ). on_wires u.clocks v u.host) (sym da) in
          lined_both c.moment r u s t a cl da (ap (λ (l : Lines). l.atn_low) (sym e)) (ap (λ (l : Lines). l.atn_low) (sym e2))
          (subst (λ (l : Lines). WaitAlike (lined_side s.port.party.reaction c.moment (wires_of s.rest) (wires_of r) s.port.side) (lined_side s.port.party.reaction c.moment (wires_of t.rest) l t.port.side)) like k.0)
          (subst (λ (l : Lines). lined_act (wires_of t.rest) l t.port.side ≡ lined_act (wires_of s.rest) (wires_of r) s.port.side) like k.1)

      by_line : (line : Line) → Alike (told_lines M step peek c.moment (after_another line c.way s.rest) s) (told_lines M step peek c.moment (after_another line c.way t.rest) t)
      by_line Atn = moved (after_another Atn c.way s.rest) (after_another Atn c.way t.rest) refl refl a.clocks a.datas
      by_line Clock = moved (after_another Clock c.way s.rest) (after_another Clock c.way t.rest) refl refl (ap (λ (v : ℕ). counted c.way v) a.clocks) a.datas
      by_line Data = moved (after_another Data c.way s.rest) (after_another Data c.way t.rest) refl refl a.clocks (ap (λ (v : ℕ). counted c.way v) a.datas)

  -- and several, one after another
  pub hear_all_alike : (cs : List Change) (s t : Station M) → Alike s t → HeedsAll M step peek cs s t → Alike (hear_all M step peek cs s) (hear_all M step peek cs t)
  hear_all_alike [] s t a f = a
  hear_all_alike (c ∷ cs) s t a f = hear_all_alike cs (hear M step peek c s) (hear M step peek c t) (hear_alike c s t a f.0) f.1
