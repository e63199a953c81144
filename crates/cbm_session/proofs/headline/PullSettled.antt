-- A drive that a pull of ATN reached: where its reaction shows nothing it goes with what comes as if it had made it already.
use Rattle.cbm_session.proofs.Paces.{started}
use Rattle.std.proofs.Common.{◌≡◌, ℕ, ◌≤◌, ◌<◌, ◌⊎◌, inl, inr, Bool, true, false, List, [], ◌∷◌, ◌++◌, Option, Some, None, ap, sym, ◌∙◌, subst, arith, refl}
use Rattle.std.specs.Prelude.{if◌then◌else◌, nat_eq}
use Rattle.cbm_iec.specs.Hearing.{is_same, after_start, after_clock, after_data, after_lines}
use Rattle.cbm_iec.specs.Ports.{side_held, side_role, side_act, side_after, port_due, lined_side, lined_act, told, told_act, reaction_act, reacted, changes_between, reaction_changes}
use Rattle.cbm_iec.specs.declared.machine.Act.{Act}
use Rattle.cbm_iec.specs.declared.ear.Ear.TheVariants.{Starting, Holding}
use Rattle.cbm_iec.specs.declared.ear.Ear.{Ear}
use Rattle.cbm_iec.specs.declared.event.Who.TheVariants.{Host, Drive}
use Rattle.cbm_iec.specs.declared.event.Who.{Who}
use Rattle.cbm_iec.specs.declared.lines.Change.{Change}
use Rattle.cbm_iec.specs.declared.lines.Line.{Line}
use Rattle.cbm_iec.specs.declared.lines.Way.{Way}
use Rattle.cbm_iec.specs.declared.lines.Held.{Held}
use Rattle.cbm_iec.specs.declared.lines.Lines.{Lines}
use Rattle.cbm_iec.specs.declared.port.Port.{Port}
use Rattle.cbm_iec.specs.declared.port.Side.TheVariants.{Hearing}
use Rattle.cbm_iec.specs.declared.port.Side.{Side}
use Rattle.cbm_session.proofs.among.Around.{NotHost}
use Rattle.cbm_session.proofs.among.Calm.{Every, other_host}
use Rattle.cbm_session.proofs.among.Pulls.{clock_held}
use Rattle.cbm_session.proofs.among.Standing.{rest_next, rest_afterwards}
use Rattle.cbm_session.proofs.headline.AlongBus.{other_atn, told_out}
use Rattle.cbm_session.specs.Among.{Rest, wires_of, after_another, after_the_host, CountsFor, FirstIsAfter, FollowsAmong, ends, tells, hears, reacts}
use Rattle.cbm_session.specs.Following.{IsInTime, own_step, own_steps, reaction_steps}
use Rattle.cbm_session.specs.Seats.{lines}
use Rattle.cbm_session.specs.Steps.{Mark, Step, event_of}

-- A drive that waits to answer the pull hears no change of CLOCK and DATA, and one in hold none while CLOCK is held.
starting_deaf : (r t u : ℕ) (was now : Lines) → after_lines r t was now (Starting u) ≡ Starting u
starting_deaf r t u was now = go (is_same was.clock_low now.clock_low) (is_same was.data_low now.data_low)
  where
    go : (x y : Bool) → (if y then (if x then Starting u else Starting u) else after_data r t now.data_low (if x then Starting u else Starting u)) ≡ Starting u
    go true true = refl
    go true false = refl
    go false true = refl
    go false false = refl

both_low : (a b : Bool) → a ≡ true → b ≡ true → is_same a b ≡ true
both_low a b h k = ap (λ (v : Bool). is_same v b) h ∙ k

holding_deaf : (r t : ℕ) (was now : Lines) → was.clock_low ≡ true → now.clock_low ≡ true → after_lines r t was now Holding ≡ Holding
holding_deaf r t was now h k =
    ap (λ (x : Bool). if is_same was.data_low now.data_low then (if x then Holding else after_clock r t now.clock_low now.data_low Holding) else after_data r t now.data_low (if x then Holding else after_clock r t now.clock_low now.data_low Holding)) (both_low was.clock_low now.clock_low h k)
    ∙ go (is_same was.data_low now.data_low)
  where
    go : (y : Bool) → (if y then Holding else Holding) ≡ Holding
    go true = refl
    go false = refl

-- so only the lines that it sees change
pub starting_told : (t u : ℕ) (r r2 : Rest) (q : Port) → q.others ≡ wires_of r → (wires_of r2).atn_low ≡ (wires_of r).atn_low → q.side ≡ Hearing (Starting u) → ((told t (wires_of r2) q).side ≡ Hearing (Starting u)) × (told_act (wires_of r2) q ≡ None)
starting_told t u r r2 q seen atn side =
    let out = told_out q t r r2 seen atn in (
      out.0 ∙ ap (λ (v : Side). lined_side q.party.reaction t q.others (wires_of r2) v) side ∙ ap (λ (v : Ear). Hearing v) (starting_deaf q.party.reaction t u q.others (wires_of r2)),
      out.1 ∙ ap (λ (v : Side). lined_act q.others (wires_of r2) v) side,
    )

pub holding_told : (t : ℕ) (r r2 : Rest) (q : Port) → q.others ≡ wires_of r → (wires_of r2).atn_low ≡ (wires_of r).atn_low → (wires_of r).clock_low ≡ true → (wires_of r2).clock_low ≡ true → q.side ≡ Hearing Holding
    → ((told t (wires_of r2) q).side ≡ Hearing Holding) × (told_act (wires_of r2) q ≡ None)
holding_told t r r2 q seen atn low low2 side =
    let out = told_out q t r r2 seen atn in (
      out.0 ∙ ap (λ (v : Side). lined_side q.party.reaction t q.others (wires_of r2) v) side ∙ ap (λ (v : Ear). Hearing v) (holding_deaf q.party.reaction t q.others (wires_of r2) (ap (λ (l : Lines). l.clock_low) seen ∙ low) low2),
      out.1 ∙ ap (λ (v : Side). lined_act q.others (wires_of r2) v) side,
    )

-- the drive as it stands in hold
abbrev pub held : Port → Port
held q = record { party = q.party; role = q.role; own = lines false true; others = q.others; side = Hearing Holding }

pub told_held : (t : ℕ) (r r2 : Rest) (q : Port) → q.others ≡ wires_of r → (wires_of r2).atn_low ≡ (wires_of r).atn_low → (wires_of r).clock_low ≡ true → (wires_of r2).clock_low ≡ true → (told t (wires_of r2) (held q) ≡ held (told t (wires_of r2) q)) × (told_act (wires_of r2) (held q) ≡ None)
told_held t r r2 q seen atn low low2 =
    let k = holding_told t r r2 (held q) seen atn low low2 refl in
    (ap (λ (v : Side). record { party = q.party; role = q.role; own = lines false true; others = wires_of r2; side = v }) k.0, k.1)

-- its answer to the pull: the changes from the lines that it holds to DATA alone, no act, and hold
pub start_changes : (t u : ℕ) (says : Option (ℕ × Bool)) (q : Port) → q.side ≡ Hearing (Starting u) → reaction_changes t says q ≡ changes_between t q.own (lines false true)
start_changes t u says q e = ap (λ (v : Side). changes_between t q.own (side_held q.party.pace says q.own v)) e

pub start_act : (u : ℕ) (byte : Option (ℕ × Bool)) (q : Port) → q.side ≡ Hearing (Starting u) → reaction_act byte q ≡ None
start_act u byte q e = ap (λ (v : Side). side_act q.party.pace byte q.others v) e

pub start_held : (t u : ℕ) (says : Option (ℕ × Bool)) (q : Port) → q.side ≡ Hearing (Starting u) → q.others.clock_low ≡ true → reacted t says q ≡ held q
start_held t u says q e low =
    ap (λ (v : Side). record { party = q.party; role = side_role q.party.device q.others.atn_low q.role v; own = side_held q.party.pace says q.own v; others = q.others; side = side_after q.party.pace q.party.reaction t q.others says v }) e
    ∙ ap (λ (v : Bool). record { party = q.party; role = q.role; own = lines false true; others = q.others; side = Hearing (after_start q.party.pace q.party.reaction t v) }) low
    ∙ ap (λ (v : Ear). record { party = q.party; role = q.role; own = lines false true; others = q.others; side = Hearing v }) (started q.party.pace q.party.reaction t)

-- it shows nothing exactly where the drive holds DATA alone
pub no_change : (t : ℕ) (own : Held) → changes_between t own (lines false true) ≡ [] → own ≡ lines false true
no_change t own h = go own.clock_low own.data_low h
  where
    go : (c d : Bool) → changes_between t (lines c d) (lines false true) ≡ [] → lines c d ≡ lines false true
    go false true h = refl
    go false false h = absurd cc
    go true true h = absurd cc
    go true false h = absurd cc

pub holds_data_alone : (own : Held) → (own ≡ lines false true) ⊎ (own ≡ lines false true → ⊥)
holds_data_alone own = go own.clock_low own.data_low
  where
    go : (c d : Bool) → (lines c d ≡ lines false true) ⊎ (lines c d ≡ lines false true → ⊥)
    go false true = inl refl
    go false false = inr (λ e. let k : false ≡ true = ap (λ (h : Held). h.data_low) e in cc)
    go true d = inr (λ e. let k : true ≡ false = ap (λ (h : Held). h.clock_low) e in cc)

head_of : (x y : Step) (xs ys : List Step) → x ∷ xs ≡ y ∷ ys → x ≡ y
head_of x y xs ys e = cc

-- Steps of which the first is another's aren't its own reaction.
pub not_own : (d : ℕ) (cs : List Change) (act : Option Act) (more ss : List Step) (s : Step) → (s.event.who ≡ Drive d → ⊥) → s ∷ ss ≡ own_steps d cs act ++ more → (own_steps d cs act ≡ []) × (s ∷ ss ≡ more)
not_own d [] act more ss s n e = (refl, e)
not_own d (c ∷ []) None more ss s n e = absurd (n (ap (λ (v : Step). v.event.who) (head_of s (own_step d c None) ss more e)))
not_own d (c ∷ []) (Some a) more ss s n e = absurd (n (ap (λ (v : Step). v.event.who) (head_of s (own_step d c (Some a)) ss more e)))
not_own d (c ∷ x ∷ []) act more ss s n e = absurd (n (ap (λ (v : Step). v.event.who) (head_of s (own_step d c None) ss (own_step d x act ∷ more) e)))
not_own d (c ∷ x ∷ y ∷ cs) act more ss s n e = (refl, e)

-- A drive goes on by the host, where nothing is due before.
pub among_told : (says : Option (ℕ × Bool)) {r r2 : Rest} {q q2 : Port} {t : ℕ} {line : Line} {way : Way} {mark : Mark} {ss : List Step} → FollowsAmong says r q (record { event = event_of Host t line way; mark = mark } ∷ ss) r2 q2 → IsInTime t (port_due q)
    → CountsFor q.party.device mark (told_act (wires_of (after_the_host line way r)) q) × FollowsAmong says (after_the_host line way r) (told t (wires_of (after_the_host line way r)) q) ss r2 q2
among_told says (tells i k f) n = (k, f)
among_told says {q = q} {t = t} {line = line} {way = way} {mark = mark} {ss = ss} (reacts u more d e sh l f) n =
    let s : Step = record { event = event_of Host t line way; mark = mark } in
    let k = not_own q.party.device (reaction_changes u says q) (reaction_act says q) more ss s (λ w. cc) e in
    let late : u < t = subst (FirstIsAfter u) (sym k.1) l in
    let soon : t ≤ u = subst (λ (o : Option ℕ). IsInTime t o) d n in
    absurd (omega (arith, late, soon))

pub other_low : (line : Line) (way : Way) (r : Rest) → r.host.clock_low ≡ true → (after_another line way r).host.clock_low ≡ true
other_low line way r h = ap (λ (l : Lines). l.clock_low) (other_host line way r) ∙ h

pub host_stays : (d : ℕ) (r : Rest) (ss : List Step) → Every (λ s. NotHost s.event.who) ss → (rest_afterwards d r ss).host ≡ r.host
host_stays d r [] a = refl
host_stays d r (s ∷ ss) a = go s.event.who a.0 (λ x. host_stays d x ss a.1)
  where
    by : (v : Bool) → ((x : Rest) → (rest_afterwards d x ss).host ≡ x.host) → (rest_afterwards d (if v then r else after_another s.event.change.line s.event.change.way r) ss).host ≡ r.host
    by true k = k r
    by false k = k (after_another s.event.change.line s.event.change.way r) ∙ other_host s.event.change.line s.event.change.way r

    go : (w : Who) → NotHost w → ((x : Rest) → (rest_afterwards d x ss).host ≡ x.host) → (rest_afterwards d (rest_next d w s.event.change.line s.event.change.way r) ss).host ≡ r.host
    go Host n k = elim n [ ]
    go (Drive o) n k = by (nat_eq d o) k

-- A drive whose answer shows nothing goes with the other drives' steps as it will from hold on.
pub settled : (says : Option (ℕ × Bool)) (u : ℕ) {r r2 : Rest} {q q2 : Port} {ss : List Step} → FollowsAmong says r q ss r2 q2 → Every (λ s. NotHost s.event.who) ss → q.others ≡ wires_of r → r.host.clock_low ≡ true → q.side ≡ Hearing (Starting u) → q.own ≡ lines false true → q2.side ≡ Hearing Holding
    → FollowsAmong says r (held q) ss r2 q2
settled says u {q = q} {q2 = q2} (ends i j) a seen low side own end = let k : Hearing Holding ≡ Hearing (Starting u) = sym end ∙ ap (λ (v : Port). v.side) j ∙ side in absurd cc
settled says u (tells i k f) a seen low side own end = elim a.0 [ ]
settled says u {r} {r2} {q} {q2} (hears {o} {t} {line} {way} {mark} {ss} n i k f) a seen low side own end =
    let now = after_another line way r in
    let low2 = other_low line way r low in
    let one = starting_told t u r now q seen (other_atn line way r) side in
    let two = told_held t r now q seen (other_atn line way r) (clock_held r low) (clock_held now low2) in
    let counts : CountsFor q.party.device mark (told_act (wires_of now) (held q)) = subst (λ (v : Option Act). CountsFor q.party.device mark v) (one.1 ∙ sym two.1) k in
    let more : FollowsAmong says now (held (told t (wires_of now) q)) ss r2 q2 = settled says u f a.1 refl low2 one.0 own end in
    hears n tt counts (subst (λ (v : Port). FollowsAmong says now v ss r2 q2) (sym two.0) more)
settled says u {r} {r2} {q} {q2} {ss} (reacts t more d e sh l f) a seen low side own end =
    let none : reaction_changes t says q ≡ [] = start_changes t u says q side ∙ ap (λ (v : Held). changes_between t v (lines false true)) own in
    let nothing : reaction_steps t says q ≡ [] = ap (λ (v : List Change). own_steps q.party.device v (reaction_act says q)) none in
    let same : more ≡ ss = sym (e ∙ ap (λ (v : List Step). v ++ more) nothing) in
    subst (λ (v : List Step). FollowsAmong says r (held q) v r2 q2) same (subst (λ (v : Port). FollowsAmong says r v more r2 q2) (start_held t u says q side (ap (λ (v : Lines). v.clock_low) seen ∙ clock_held r low)) f)
