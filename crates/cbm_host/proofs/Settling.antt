-- A drive without a role hears idly after ATN's release: it lets go of its lines, and then it waits for nothing but ATN.
use Rattle.std.proofs.Common.{◌≡◌, ℕ, ◌+◌, ◌⊎◌, inl, inr, Bool, true, false, List, [], ◌∷◌, ◌++◌, map, Option, Some, None, refl, sym, ap, ◌∙◌, subst}
use Rattle.std.specs.Prelude.{if◌then◌else◌}
use Rattle.cbm_iec.specs.Hearing.{is_same, after_data}
use Rattle.cbm_iec.specs.Ports.{resting, side_due, port_due, freed_side, lined_side, side_after, side_role}
use Rattle.cbm_iec.specs.declared.machine.Act.{Act}
use Rattle.cbm_iec.specs.declared.ear.Ear.TheVariants.{Idle, Starting, Await, Leaving, Returning, Holding, Freeing, Ready, Timed, Pulsing, EoiNoted, Gathering, Accepting}
use Rattle.cbm_iec.specs.declared.event.Event.{Event}
use Rattle.cbm_iec.specs.declared.lines.Change.{Change}
use Rattle.cbm_iec.specs.declared.lines.Held.{Held}
use Rattle.cbm_iec.specs.declared.lines.Lines.{Lines}
use Rattle.cbm_iec.specs.declared.pace.Pace.{Pace}
use Rattle.cbm_iec.specs.declared.party.Party.{Party}
use Rattle.cbm_iec.specs.declared.party.Role.TheVariants.{Absent, Listener, Talker}
use Rattle.cbm_iec.specs.declared.party.Role.{Role}
use Rattle.cbm_iec.specs.declared.port.Port.{Port}
use Rattle.cbm_iec.specs.declared.port.Side.TheVariants.{Hearing, Speaking}
use Rattle.cbm_iec.specs.declared.port.Side.{Side}
use Rattle.cbm_session.specs.Playing.{Station, tell, react, Plays, stays, change, reaction}
use Rattle.cbm_session.specs.Seats.{lines}
use Rattle.cbm_drive.specs.Cables.{all_free}

-- what a drive may wait for, where ATN is held or not: without a role and with ATN free for nothing, or to let go of its lines
abbrev pub SettlesAt : Bool → Role → Side → Type 0
SettlesAt false Absent (Hearing Idle) = Unit {0}
SettlesAt false Absent (Hearing (Leaving at)) = Unit {0}
SettlesAt false Absent side = ⊥
SettlesAt atn role side = Unit {0}

abbrev pub Settles : Port → Type 0
Settles q = SettlesAt q.others.atn_low q.role q.side

settling : (side : Side) → SettlesAt false Absent side → (side ≡ Hearing Idle) ⊎ ((at : ℕ) × (side ≡ Hearing (Leaving at)))
settling (Hearing Idle) h = inl refl
settling (Hearing (Leaving at)) h = inr (at, refl)
settling (Hearing (Starting at)) h = elim h [ ]
settling (Hearing Await) h = elim h [ ]
settling (Hearing (Returning at)) h = elim h [ ]
settling (Hearing Holding) h = elim h [ ]
settling (Hearing (Freeing at)) h = elim h [ ]
settling (Hearing Ready) h = elim h [ ]
settling (Hearing (Timed at)) h = elim h [ ]
settling (Hearing (Pulsing at)) h = elim h [ ]
settling (Hearing EoiNoted) h = elim h [ ]
settling (Hearing (Gathering eoi count byte)) h = elim h [ ]
settling (Hearing (Accepting at eoi byte)) h = elim h [ ]
settling (Speaking mouth) h = elim h [ ]

-- a change of another line
idle_lined : (r moment : ℕ) (was now : Lines) → SettlesAt false Absent (lined_side r moment was now (Hearing Idle))
idle_lined r moment was now = go (is_same was.data_low now.data_low) (is_same was.clock_low now.clock_low)
  where
    go : (v w : Bool) → SettlesAt false Absent (Hearing (if v then (if w then Idle else Idle) else after_data r moment now.data_low (if w then Idle else Idle)))
    go true true = tt
    go true false = tt
    go false true = tt
    go false false = tt

leaving_lined : (r moment at : ℕ) (was now : Lines) → SettlesAt false Absent (lined_side r moment was now (Hearing (Leaving at)))
leaving_lined r moment at was now = go (is_same was.data_low now.data_low) (is_same was.clock_low now.clock_low)
  where
    go : (v w : Bool) → SettlesAt false Absent (Hearing (if v then (if w then Leaving at else Leaving at) else after_data r moment now.data_low (if w then Leaving at else Leaving at)))
    go true true = tt
    go true false = tt
    go false true = tt
    go false false = tt

told_settles : (r moment : ℕ) (was now : Lines) (atn atn2 : Bool) (role : Role) (side : Side) → SettlesAt atn role side
    → SettlesAt atn2 role (if is_same atn atn2 then lined_side r moment was now side else (if atn2 then Hearing (Starting (moment + r)) else freed_side r moment now.clock_low role side))
told_settles r moment was now atn true role side h = tt
told_settles r moment was now true false Absent side h = tt
told_settles r moment was now true false Listener side h = tt
told_settles r moment was now true false Talker side h = tt
told_settles r moment was now false false Listener side h = tt
told_settles r moment was now false false Talker side h = tt
told_settles r moment was now false false Absent side h = elim (settling side h) [
  | inl e ↦ subst (λ (s : Side). SettlesAt false Absent (lined_side r moment was now s)) (sym e) (idle_lined r moment was now)
  | inr k ↦ subst (λ (s : Side). SettlesAt false Absent (lined_side r moment was now s)) (sym k.1) (leaving_lined r moment k.0 was now)
]

-- outside attention no reaction changes the role
same_role : (d : ℕ) (role : Role) (side : Side) → side_role d false role side ≡ role
same_role d role (Hearing Idle) = refl
same_role d role (Hearing (Leaving at)) = refl
same_role d role (Hearing (Starting at)) = refl
same_role d role (Hearing Await) = refl
same_role d role (Hearing (Returning at)) = refl
same_role d role (Hearing Holding) = refl
same_role d role (Hearing (Freeing at)) = refl
same_role d role (Hearing Ready) = refl
same_role d role (Hearing (Timed at)) = refl
same_role d role (Hearing (Pulsing at)) = refl
same_role d role (Hearing EoiNoted) = refl
same_role d role (Hearing (Gathering eoi count byte)) = refl
same_role d role (Hearing (Accepting at eoi byte)) = refl
same_role d role (Speaking mouth) = refl

reacted_settles : (e : Pace) (d r moment : ℕ) (others : Lines) (peek : Option (ℕ × Bool)) (atn : Bool) (role : Role) (side : Side) → SettlesAt atn role side → SettlesAt atn (side_role d atn role side) (side_after e r moment others peek side)
reacted_settles e d r moment others peek true role side h = tt
reacted_settles e d r moment others peek false role side h = subst (λ (v : Role). SettlesAt false v (side_after e r moment others peek side)) (sym (same_role d role side)) (by_role role h)
  where
    by_role : (role : Role) → SettlesAt false role side → SettlesAt false role (side_after e r moment others peek side)
    by_role Listener h = tt
    by_role Talker h = tt
    by_role Absent h = elim (settling side h) [
      | inl same ↦ subst (λ (s : Side). SettlesAt false Absent (side_after e r moment others peek s)) (sym same) tt
      | inr k ↦ subst (λ (s : Side). SettlesAt false Absent (side_after e r moment others peek s)) (sym k.1) tt
    ]

-- where nothing is due it is idle, and with all lines free its port is as it was switched on
idle_then : (side : Side) → SettlesAt false Absent side → side_due side ≡ None → side ≡ Hearing Idle
idle_then side h none = elim (settling side h) [
  | inl e ↦ e
  | inr k ↦ (let some : Some k.0 ≡ None = ap side_due (sym k.1) ∙ none in absurd cc)
]

pub rests : (b : Party) (q : Port) → Settles q → q.party ≡ b → q.role ≡ Absent → q.own ≡ lines false false → q.others ≡ all_free → port_due q ≡ None → q ≡ resting b
rests b q settles party role own others none =
    let absent = subst (λ (v : Role). SettlesAt false v q.side) role (subst (λ (l : Lines). SettlesAt l.atn_low q.role q.side) others settles) in
    ap (λ (v : Party). record { party = v; role = q.role; own = q.own; others = q.others; side = q.side }) party
    ∙ ap (λ (v : Role). record { party = b; role = v; own = q.own; others = q.others; side = q.side }) role
    ∙ ap (λ (v : Held). record { party = b; role = Absent; own = v; others = q.others; side = q.side }) own
    ∙ ap (λ (v : Lines). record { party = b; role = Absent; own = lines false false; others = v; side = q.side }) others
    ∙ ap (λ (v : Side). record { party = b; role = Absent; own = lines false false; others = all_free; side = v }) (idle_then q.side absent none)

-- one drive stays one, and keeps what a change and a reaction keep
module _ (M : Type 0) (step : M → Act → M) (peek : M → Option (ℕ × Bool)) where
  pub one_keeps : (P : Station M → Type 0) → ((c : Change) (s : Station M) → P s → P (tell M step peek c s)) → ((t : ℕ) (s : Station M) → P s → P (react M step peek t s))
      → {n n2 : ℕ} {ss ss2 : List (Station M)} {es : List Event} → Plays M step peek n ss es n2 ss2 → (s : Station M) → ss ≡ s ∷ [] → P s → (a : Station M) × (ss2 ≡ a ∷ []) × P a
  one_keeps P told reacted (stays y e k f) s h kept = (s, f ∙ h, kept)
  one_keeps P told reacted (change c more y l i e p) s h kept = one_keeps P told reacted p (tell M step peek c s) (ap (λ (v : List (Station M)). map (λ x. tell M step peek c x) v) h) (told c s kept)
  one_keeps P told reacted (reaction t [] o [] more y u f e p) s h kept =
      let same : o ∷ [] ≡ s ∷ [] = sym u ∙ h in
      let is : s ≡ o = cc in
      one_keeps P told reacted p (react M step peek t o) refl (reacted t o (subst P is kept))
  one_keeps P told reacted (reaction t [] o (b ∷ afterwards) more y u f e p) s h kept = let no : o ∷ b ∷ afterwards ≡ s ∷ [] = sym u ∙ h in absurd cc
  one_keeps P told reacted (reaction t (b ∷ []) o afterwards more y u f e p) s h kept = let no : b ∷ o ∷ afterwards ≡ s ∷ [] = sym u ∙ h in absurd cc
  one_keeps P told reacted (reaction t (b ∷ c ∷ before) o afterwards more y u f e p) s h kept = let no : b ∷ c ∷ (before ++ o ∷ afterwards) ≡ s ∷ [] = sym u ∙ h in absurd cc

  pub one_stays : {n n2 : ℕ} {ss ss2 : List (Station M)} {es : List Event} → Plays M step peek n ss es n2 ss2 → (s : Station M) → ss ≡ s ∷ [] → (a : Station M) × (ss2 ≡ a ∷ [])
  one_stays p s h = let k = one_keeps (λ (x : Station M). Unit {0}) (λ c x kept. tt) (λ t x kept. tt) p s h tt in (k.0, k.1)

  pub one_settles : {n n2 : ℕ} {ss ss2 : List (Station M)} {es : List Event} → Plays M step peek n ss es n2 ss2 → (s : Station M) → ss ≡ s ∷ [] → Settles s.port → (a : Station M) × (ss2 ≡ a ∷ []) × Settles a.port
  one_settles p s h settles =
      one_keeps (λ (x : Station M). Settles x.port)
      (λ c x kept. (let t = tell M step peek c x in told_settles x.port.party.reaction c.moment x.port.others t.port.others x.port.others.atn_low t.port.others.atn_low x.port.role x.port.side kept))
      (λ t x kept. reacted_settles x.port.party.pace x.port.party.device x.port.party.reaction t x.port.others (peek x.machine) x.port.others.atn_low x.port.role x.port.side kept) p s h settles
