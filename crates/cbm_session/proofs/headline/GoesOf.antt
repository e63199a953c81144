-- A drive that follows steps among others goes with them: its reactions show, and what the others do at the moment of its own leaves it as it is.
use Rattle.cbm_iec.specs.declared.pace.Pace.{Pace}
use Rattle.std.proofs.Common.{◌≡◌, ℕ, Bool, true, false, List, [], ◌∷◌, ◌++◌, Option, Some, ap, sym, ◌∙◌, subst, refl}
use Rattle.std.specs.Prelude.{if◌then◌else◌, nat_eq}
use Rattle.cbm_iec.specs.Hearing.{is_same, after_clock, after_data, after_clocked}
use Rattle.cbm_iec.specs.Ports.{side_due, port_due, lined_side, told, reacted}
use Rattle.cbm_iec.specs.Speaking.{talk_clock, talk_data, talk_clocked}
use Rattle.cbm_iec.specs.declared.ear.Ear.TheVariants.{Idle, Leaving}
use Rattle.cbm_iec.specs.declared.ear.Ear.{Ear}
use Rattle.cbm_iec.specs.declared.event.Who.TheVariants.{Host, Drive}
use Rattle.cbm_iec.specs.declared.event.Who.{Who}
use Rattle.cbm_iec.specs.declared.lines.Line.TheVariants.{Atn, Clock, Data}
use Rattle.cbm_iec.specs.declared.lines.Line.{Line}
use Rattle.cbm_iec.specs.declared.lines.Way.{Way}
use Rattle.cbm_iec.specs.declared.lines.Lines.{Lines}
use Rattle.cbm_iec.specs.declared.mouth.Mouth.{Mouth}
use Rattle.cbm_iec.specs.declared.port.Port.{Port}
use Rattle.cbm_iec.specs.declared.port.Side.TheVariants.{Hearing, Speaking}
use Rattle.cbm_iec.specs.declared.port.Side.{Side}
use Rattle.cbm_session.proofs.Truths.{same_self}
use Rattle.cbm_session.proofs.among.Calm.{either}
use Rattle.cbm_session.proofs.headline.AlongBus.{told_out, other_atn, host_atn}
use Rattle.cbm_session.proofs.headline.BusStep as bus
use Rattle.cbm_session.proofs.headline.BusStep.{ear_undisturbed, mouth_undisturbed, Steady, Shows, Goes}
use Rattle.cbm_session.proofs.headline.Meeting.{noatn_after}
use Rattle.cbm_session.proofs.headline.SideStates.{SideHolds, side_lines, side_react}
use Rattle.cbm_session.proofs.reading.OneReading.{NoAtn}
use Rattle.cbm_session.specs.Among.{Rest, wires_of, after_another, after_the_host, FollowsAmong, ends, tells, hears, reacts}
use Rattle.cbm_session.specs.Following.{reaction_steps}
use Rattle.cbm_session.specs.Steps.{Step}

-- a change of DATA alone leaves a side with something due
pub data_steady : (r m t : ℕ) (was now : Lines) (side : Side) → is_same was.clock_low now.clock_low ≡ true → side_due side ≡ Some t → lined_side r m was now side ≡ side
data_steady r m t was now (Hearing ear) c e =
    let one : after_clocked r m was now ear ≡ ear = ap (λ (v : Bool). if v then ear else after_clock r m now.clock_low now.data_low ear) c in
    ap (λ (x : Ear). Hearing x) (ap (λ (x : Ear). if is_same was.data_low now.data_low then x else after_data r m now.data_low x) one ∙ go (is_same was.data_low now.data_low))
  where
    go : (v : Bool) → (if v then ear else after_data r m now.data_low ear) ≡ ear
    go true = refl
    go false = ear_undisturbed r m t now.data_low ear e
data_steady r m t was now (Speaking mouth) c e =
    let one : talk_clocked r m was now mouth ≡ mouth = ap (λ (v : Bool). if v then mouth else talk_clock r m now.clock_low mouth) c in
    ap (λ (x : Mouth). Speaking x) (ap (λ (x : Mouth). if is_same was.data_low now.data_low then x else talk_data r m now.data_low x) one ∙ go (is_same was.data_low now.data_low))
  where
    go : (v : Bool) → (if v then mouth else talk_data r m now.data_low mouth) ≡ mouth
    go true = refl
    go false = mouth_undisturbed r m t now.data_low mouth e

-- the steps of other drives change no CLOCK
abbrev pub DataOf : ℕ → Who → Line → Type 0
DataOf d Host line = Unit {0}
DataOf d (Drive o) Atn = ⊥
DataOf d (Drive o) Data = Unit {0}
DataOf d (Drive o) Clock = nat_eq d o ≡ true

abbrev pub OthersData : ℕ → List Step → Type 0
OthersData d [] = Unit {0}
OthersData d (s ∷ ss) = DataOf d s.event.who s.event.change.line × OthersData d ss

others_after : (d : ℕ) (xs ys : List Step) → OthersData d (xs ++ ys) → OthersData d ys
others_after d [] ys h = h
others_after d (x ∷ xs) ys h = others_after d xs ys h.1

steady_of : (q : Port) (o t : ℕ) (r : Rest) (line : Line) (way : Way) → q.others ≡ wires_of r → nat_eq q.party.device o ≡ false → DataOf q.party.device (Drive o) line → Steady t (wires_of (after_another line way r)) q
steady_of q o t r Atn way seen n d = elim d [ ]
steady_of q o t r Clock way seen n d = let k : true ≡ false = sym d ∙ n in absurd cc
steady_of q o t r Data way seen n d = λ e.
    let out = told_out q t r (after_another Data way r) seen (other_atn Data way r) in
    let clock : is_same q.others.clock_low (wires_of (after_another Data way r)).clock_low ≡ true = ap (λ (l : Lines). is_same l.clock_low (wires_of r).clock_low) seen ∙ same_self (wires_of r).clock_low in
    out.0 ∙ data_steady q.party.reaction t t q.others (wires_of (after_another Data way r)) q.side clock e

-- Out of a change of ATN, where the other drives change no CLOCK: every drive that hears, and a talker.
pub goes_of : (says : Option (ℕ × Bool)) {r r2 : Rest} {q q2 : Port} {ss : List Step} → FollowsAmong says r q ss r2 q2 → SideHolds q.side q.own → q.others ≡ wires_of r → NoAtn ss → OthersData q.party.device ss → Goes says r q ss r2 q2
goes_of says (ends a e) h seen n d = bus.ends a e
goes_of says {r} {r2} {q} (tells {t} {line} {way} {mark} {ss} i k f) h seen n d =
    let out = told_out q t r (after_the_host line way r) seen (host_atn line way r n.0) in
    bus.tells i k (goes_of says f (subst (λ (x : Side). SideHolds x q.own) (sym out.0) (side_lines q.party.reaction t q.others (wires_of (after_the_host line way r)) q.side q.own h)) refl n.1 d.1)
goes_of says {r} {r2} {q} (hears {o} {t} {line} {way} {mark} {ss} a i k f) h seen n d =
    let out = told_out q t r (after_another line way r) seen (other_atn line way r) in
    bus.hears a i (steady_of q o t r line way seen a d.0) k
    (goes_of says f (subst (λ (x : Side). SideHolds x q.own) (sym out.0) (side_lines q.party.reaction t q.others (wires_of (after_another line way r)) q.side q.own h)) refl n.1 d.1)
goes_of says {r} {r2} {q} (reacts t more e x sh l f) h seen n d =
    let vis = side_react _ q.party.reaction t q.others says q.side q.own e h in
    bus.reacts t more e x vis.1 l (goes_of says f vis.0 seen (noatn_after (reaction_steps t says q) more (subst NoAtn x n)) (others_after q.party.device (reaction_steps t says q) more (subst (OthersData q.party.device) x d)))

-- And a drive without a role beside a talker: it lets go of DATA, or does nothing, whatever the others do.
abbrev IsCalm : Side → Type 0
IsCalm side = (r m : ℕ) (was now : Lines) → lined_side r m was now side ≡ side

idle_calm : IsCalm (Hearing Idle)
idle_calm r m was now =
    let one : after_clocked r m was now Idle ≡ Idle = either (is_same was.clock_low now.clock_low) Idle Idle refl in
    ap (λ (x : Ear). Hearing x) (ap (λ (x : Ear). if is_same was.data_low now.data_low then x else after_data r m now.data_low x) one ∙ either (is_same was.data_low now.data_low) Idle Idle refl)

leaving_calm : (at : ℕ) → IsCalm (Hearing (Leaving at))
leaving_calm at r m was now =
    let one : after_clocked r m was now (Leaving at) ≡ Leaving at = either (is_same was.clock_low now.clock_low) (Leaving at) (Leaving at) refl in
    ap (λ (x : Ear). Hearing x) (ap (λ (x : Ear). if is_same was.data_low now.data_low then x else after_data r m now.data_low x) one ∙ either (is_same was.data_low now.data_low) (Leaving at) (Leaving at) refl)

-- it is idle, or lets go
pub data Lets : Side → Type 0 where
  idle : {side : Side} → side ≡ Hearing Idle → Lets side
  leaving : {side : Side} (at : ℕ) → side ≡ Hearing (Leaving at) → Lets side

lets_calm : (side : Side) → Lets side → IsCalm side
lets_calm side (idle e) = subst IsCalm (sym e) idle_calm
lets_calm side (leaving at e) = subst IsCalm (sym e) (leaving_calm at)

lets_react : (e : Pace) → (r t : ℕ) (others : Lines) (says : Option (ℕ × Bool)) (side : Side) → Lets side → Lets (Rattle.cbm_iec.specs.Ports.side_after e r t others says side)
lets_react v r t others says side (idle e) = idle (ap (λ (x : Side). Rattle.cbm_iec.specs.Ports.side_after v r t others says x) e)
lets_react v r t others says side (leaving at e) = idle (ap (λ (x : Side). Rattle.cbm_iec.specs.Ports.side_after v r t others says x) e)

pub goes_idle : (says : Option (ℕ × Bool)) {r r2 : Rest} {q q2 : Port} {ss : List Step} → FollowsAmong says r q ss r2 q2 → Lets q.side → SideHolds q.side q.own → q.others ≡ wires_of r → NoAtn ss → Goes says r q ss r2 q2
goes_idle says (ends a e) c h seen n = bus.ends a e
goes_idle says {r} {r2} {q} (tells {t} {line} {way} {mark} {ss} i k f) c h seen n =
    let out = told_out q t r (after_the_host line way r) seen (host_atn line way r n.0) in
    let same = out.0 ∙ lets_calm q.side c q.party.reaction t q.others (wires_of (after_the_host line way r)) in
    bus.tells i k (goes_idle says f (subst Lets (sym same) c) (subst (λ (x : Side). SideHolds x q.own) (sym same) h) refl n.1)
goes_idle says {r} {r2} {q} (hears {o} {t} {line} {way} {mark} {ss} a i k f) c h seen n =
    let out = told_out q t r (after_another line way r) seen (other_atn line way r) in
    let same = out.0 ∙ lets_calm q.side c q.party.reaction t q.others (wires_of (after_another line way r)) in
    bus.hears a i (λ e. same) k (goes_idle says f (subst Lets (sym same) c) (subst (λ (x : Side). SideHolds x q.own) (sym same) h) refl n.1)
goes_idle says {r} {r2} {q} (reacts t more e x sh l f) c h seen n =
    let vis = side_react _ q.party.reaction t q.others says q.side q.own e h in
    bus.reacts t more e x vis.1 l (goes_idle says f (lets_react _ q.party.reaction t q.others says q.side c) vis.0 seen (noatn_after (reaction_steps t says q) more (subst NoAtn x n)))
