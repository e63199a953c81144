-- A drive among others that what they do doesn't concern: it stands as it stood.
use Rattle.std.proofs.Common.{◌≡◌, ℕ, zero, suc, Bool, true, false, List, [], ◌∷◌, ◌++◌, Option, None, ap, sym, ◌∙◌, subst, refl}
use Rattle.std.proofs.lemmas.List.{append-nil}
use Rattle.std.specs.Prelude.{if◌then◌else◌, nat_eq, ◌||◌}
use Rattle.cbm_iec.specs.Hearing.{is_same, after_clock, after_data, after_clocked, after_lines}
use Rattle.cbm_iec.specs.Ports.{side_due, told, told_act, lined_side, lined_act}
use Rattle.cbm_iec.specs.Speaking.{talk_data}
use Rattle.cbm_iec.specs.declared.machine.Act.{Act}
use Rattle.cbm_iec.specs.declared.ear.Ear.TheVariants.{Idle, Starting, Leaving, Holding}
use Rattle.cbm_iec.specs.declared.ear.Ear.{Ear}
use Rattle.cbm_iec.specs.declared.event.Who.TheVariants.{Host, Drive}
use Rattle.cbm_iec.specs.declared.event.Who.{Who}
use Rattle.cbm_iec.specs.declared.lines.Line.TheVariants.{Atn, Clock, Data}
use Rattle.cbm_iec.specs.declared.lines.Line.{Line}
use Rattle.cbm_iec.specs.declared.lines.Way.{Way}
use Rattle.cbm_iec.specs.declared.lines.Held.{Held}
use Rattle.cbm_iec.specs.declared.lines.Lines.{Lines}
use Rattle.cbm_iec.specs.declared.mouth.Mouth.TheVariants.{Turned, Answering, Mute, Led, Over}
use Rattle.cbm_iec.specs.declared.party.Party.{Party}
use Rattle.cbm_iec.specs.declared.party.Role.{Role}
use Rattle.cbm_iec.specs.declared.port.Port.{Port}
use Rattle.cbm_iec.specs.declared.port.Side.TheVariants.{Hearing, Speaking}
use Rattle.cbm_iec.specs.declared.port.Side.{Side}
use Rattle.cbm_session.proofs.alone.Frames.{wires, stands}
use Rattle.cbm_session.proofs.among.Standing.{rest_next, rest_afterwards}
use Rattle.cbm_session.proofs.reading.OneReading.{is_atn}
use Rattle.cbm_session.specs.Among.{Rest, some, wires_of, after_another, after_the_host, CountsFor, FollowsAmong, ends, tells, hears}
use Rattle.cbm_session.specs.Following.{IsInTime}
use Rattle.cbm_session.specs.Steps.{Mark, Step, event_of, moment_of}

-- it holds of each of these steps
abbrev pub Every : (Step → Type 0) → List Step → Type 0
Every P [] = Unit {0}
Every P (s ∷ ss) = P s × Every P ss

-- a side that no change of CLOCK and DATA concerns, and one that no change of DATA does
abbrev pub Calm : Side → Type 0
Calm side = (r m : ℕ) (a c e u v : Bool) → (lined_side r m (wires a c u) (wires a e v) side ≡ side) × (lined_act (wires a c u) (wires a e v) side ≡ None)

abbrev pub CalmData : Side → Type 0
CalmData side = (r m : ℕ) (a c u v : Bool) → (lined_side r m (wires a c u) (wires a c v) side ≡ side) × (lined_act (wires a c u) (wires a c v) side ≡ None)

pub calm_data : (side : Side) → Calm side → CalmData side
calm_data side h r m a c u v = h r m a c c u v

pub either : (v : Bool) (x y : Ear) → x ≡ y → (if v then y else x) ≡ y
either true x y e = refl
either false x y e = e

ear_calm : (ear : Ear) → ((r m : ℕ) (low held : Bool) → after_clock r m low held ear ≡ ear) → ((r m : ℕ) (low : Bool) → after_data r m low ear ≡ ear) → Calm (Hearing ear)
ear_calm ear clock data_too r m a c e u v =
    let one : after_clocked r m (wires a c u) (wires a e v) ear ≡ ear = either (is_same c e) (after_clock r m e v ear) ear (clock r m e v) in
    let all : after_lines r m (wires a c u) (wires a e v) ear ≡ ear = ap (λ (x : Ear). if is_same u v then x else after_data r m v x) one ∙ either (is_same u v) (after_data r m v ear) ear (data_too r m v) in
    (ap (λ (x : Ear). Hearing x) all, refl)

pub calm_idle : Calm (Hearing Idle)
calm_idle = ear_calm Idle (λ (r m : ℕ) (low held : Bool). refl) (λ (r m : ℕ) (low : Bool). refl)

pub calm_starting : (at : ℕ) → Calm (Hearing (Starting at))
calm_starting at = ear_calm (Starting at) (λ (r m : ℕ) (low held : Bool). refl) (λ (r m : ℕ) (low : Bool). refl)

pub calm_leaving : (at : ℕ) → Calm (Hearing (Leaving at))
calm_leaving at = ear_calm (Leaving at) (λ (r m : ℕ) (low held : Bool). refl) (λ (r m : ℕ) (low : Bool). refl)

pub calm_over : Calm (Speaking Over)
calm_over r m a c e u v = (go (is_same c e) (is_same u v), refl)
  where
    go : (x y : Bool) → Speaking (if y then (if x then Over else Over) else talk_data r m v (if x then Over else Over)) ≡ Speaking Over
    go true true = refl
    go false true = refl
    go true false = refl
    go false false = refl

pub calm_led : (at : ℕ) → Calm (Speaking (Led at))
calm_led at r m a c e u v = (go (is_same c e) (is_same u v), refl)
  where
    go : (x y : Bool) → Speaking (if y then (if x then Led at else Led at) else talk_data r m v (if x then Led at else Led at)) ≡ Speaking (Led at)
    go true true = refl
    go false true = refl
    go true false = refl
    go false false = refl

pub calm_mute : (at : ℕ) → Calm (Speaking (Mute at))
calm_mute at r m a c e u v = (go (is_same c e) (is_same u v), refl)
  where
    go : (x y : Bool) → Speaking (if y then (if x then Mute at else Mute at) else talk_data r m v (if x then Mute at else Mute at)) ≡ Speaking (Mute at)
    go true true = refl
    go false true = refl
    go true false = refl
    go false false = refl

pub calm_holding : CalmData (Hearing Holding)
calm_holding r m a true true true = (refl, refl)
calm_holding r m a true true false = (refl, refl)
calm_holding r m a true false true = (refl, refl)
calm_holding r m a true false false = (refl, refl)
calm_holding r m a false true true = (refl, refl)
calm_holding r m a false true false = (refl, refl)
calm_holding r m a false false true = (refl, refl)
calm_holding r m a false false false = (refl, refl)

pub calm_turned : CalmData (Speaking Turned)
calm_turned r m a true true true = (refl, refl)
calm_turned r m a true true false = (refl, refl)
calm_turned r m a true false true = (refl, refl)
calm_turned r m a true false false = (refl, refl)
calm_turned r m a false true true = (refl, refl)
calm_turned r m a false true false = (refl, refl)
calm_turned r m a false false true = (refl, refl)
calm_turned r m a false false false = (refl, refl)

pub calm_answering : (at : ℕ) → CalmData (Speaking (Answering at))
calm_answering at r m a true true true = (refl, refl)
calm_answering at r m a true true false = (refl, refl)
calm_answering at r m a true false true = (refl, refl)
calm_answering at r m a true false false = (refl, refl)
calm_answering at r m a false true true = (refl, refl)
calm_answering at r m a false true false = (refl, refl)
calm_answering at r m a false false true = (refl, refl)
calm_answering at r m a false false false = (refl, refl)

-- a step that counts nothing for drive d: the host's, or another drive's; and one of another drive by which CLOCK's wire stays
abbrev pub ByOthers : ℕ → Who → Type 0
ByOthers d Host = Unit {0}
ByOthers d (Drive o) = nat_eq d o ≡ false

pub record IsOthers (d : ℕ) (s : Step) : Type 0 where
  pub who : ByOthers d s.event.who
  pub counts : CountsFor d s.mark None
  pub line : is_atn s.event.change.line ≡ false

abbrev pub ByAnother : ℕ → Who → Type 0
ByAnother d Host = ⊥
ByAnother d (Drive o) = nat_eq d o ≡ false

abbrev pub KeepsClock : Bool → Line → Type 0
KeepsClock held Atn = ⊥
KeepsClock true Clock = Unit {0}
KeepsClock false Clock = ⊥
KeepsClock held Data = Unit {0}

pub record IsAside (d : ℕ) (held : Bool) (s : Step) : Type 0 where
  pub who : ByAnother d s.event.who
  pub counts : CountsFor d s.mark None
  pub line : KeepsClock held s.event.change.line

-- in time for each of these steps
abbrev pub InTime : Side → Step → Type 0
InTime side s = IsInTime (moment_of s) (side_due side)

-- a wire that the host holds is held
pub or_true : (n : ℕ) → (some n || true) ≡ true
or_true zero = refl
or_true (suc n) = refl

module _ (peek : Option (ℕ × Bool)) (b : Party) (role : Role) (own : Held) (side : Side) where
  -- the drive, and all others hold r
  abbrev pub beside : Rest → Port
  beside r = stands b role own (wires_of r) side

  same_told : Calm side → (t : ℕ) (a c e u v : Bool) → (told t (wires a e v) (stands b role own (wires a c u) side) ≡ stands b role own (wires a e v) side) × (told_act (wires a e v) (stands b role own (wires a c u) side) ≡ None)
  same_told h t true c e u v = let k = h b.reaction t true c e u v in (ap (λ (x : Side). stands b role own (wires true e v) x) k.0, k.1)
  same_told h t false c e u v = let k = h b.reaction t false c e u v in (ap (λ (x : Side). stands b role own (wires false e v) x) k.0, k.1)

  pub data_told : CalmData side → (t : ℕ) (a c u v : Bool) → (told t (wires a c v) (stands b role own (wires a c u) side) ≡ stands b role own (wires a c v) side) × (told_act (wires a c v) (stands b role own (wires a c u) side) ≡ None)
  data_told h t true c u v = let k = h b.reaction t true c u v in (ap (λ (x : Side). stands b role own (wires true c v) x) k.0, k.1)
  data_told h t false c u v = let k = h b.reaction t false c u v in (ap (λ (x : Side). stands b role own (wires false c v) x) k.0, k.1)

  host_told : Calm side → (t : ℕ) (r : Rest) (line : Line) (way : Way) → is_atn line ≡ false
      → (told t (wires_of (after_the_host line way r)) (beside r) ≡ beside (after_the_host line way r)) × (told_act (wires_of (after_the_host line way r)) (beside r) ≡ None)
  host_told h t r Atn way e = absurd cc
  host_told h t r Clock way e = same_told h t r.host.atn_low (wires_of r).clock_low (wires_of (after_the_host Clock way r)).clock_low (wires_of r).data_low (wires_of r).data_low
  host_told h t r Data way e = same_told h t r.host.atn_low (wires_of r).clock_low (wires_of r).clock_low (wires_of r).data_low (wires_of (after_the_host Data way r)).data_low

  other_told : Calm side → (t : ℕ) (r : Rest) (line : Line) (way : Way) → is_atn line ≡ false
      → (told t (wires_of (after_another line way r)) (beside r) ≡ beside (after_another line way r)) × (told_act (wires_of (after_another line way r)) (beside r) ≡ None)
  other_told h t r Atn way e = absurd cc
  other_told h t r Clock way e = same_told h t r.host.atn_low (wires_of r).clock_low (wires_of (after_another Clock way r)).clock_low (wires_of r).data_low (wires_of r).data_low
  other_told h t r Data way e = same_told h t r.host.atn_low (wires_of r).clock_low (wires_of r).clock_low (wires_of r).data_low (wires_of (after_another Data way r)).data_low

  -- it passes over a step that doesn't concern it
  pass : Calm side → (r r2 : Rest) (q2 : Port) (ss : List Step) (who : Who) (t : ℕ) (line : Line) (way : Way) (mark : Mark) → ByOthers b.device who → CountsFor b.device mark None → is_atn line ≡ false → IsInTime t (side_due side)
      → FollowsAmong peek (rest_next b.device who line way r) (beside (rest_next b.device who line way r)) ss r2 q2 → FollowsAmong peek r (beside r) (record { event = event_of who t line way; mark = mark } ∷ ss) r2 q2
  pass h r r2 q2 ss Host t line way mark w c e i f =
      let k = host_told h t r line way e in
      tells i (subst (λ (x : Option Act). CountsFor b.device mark x) (sym k.1) c) (subst (λ (x : Port). FollowsAmong peek (after_the_host line way r) x ss r2 q2) (sym k.0) f)
  pass h r r2 q2 ss (Drive o) t line way mark w c e i f =
      let k = other_told h t r line way e in
      let g = subst (λ (v : Bool). FollowsAmong peek (if v then r else after_another line way r) (beside (if v then r else after_another line way r)) ss r2 q2) w f in
      hears w i (subst (λ (x : Option Act). CountsFor b.device mark x) (sym k.1) c) (subst (λ (x : Port). FollowsAmong peek (after_another line way r) x ss r2 q2) (sym k.0) g)

  pub passes : Calm side → (r r2 : Rest) (q2 : Port) (ss ys : List Step) → Every (IsOthers b.device) ss → Every (InTime side) ss
      → FollowsAmong peek (rest_afterwards b.device r ss) (beside (rest_afterwards b.device r ss)) ys r2 q2 → FollowsAmong peek r (beside r) (ss ++ ys) r2 q2
  passes h r r2 q2 [] ys a i f = f
  passes h r r2 q2 (s ∷ ss) ys a i f =
      pass h r r2 q2 (ss ++ ys) s.event.who s.event.change.moment s.event.change.line s.event.change.way s.mark a.0.who a.0.counts a.0.line i.0
      (passes h (rest_next b.device s.event.who s.event.change.line s.event.change.way r) r2 q2 ss ys a.1 i.1 f)

  pub passes_all : Calm side → (r : Rest) (ss : List Step) → Every (IsOthers b.device) ss → Every (InTime side) ss → FollowsAmong peek r (beside r) ss (rest_afterwards b.device r ss) (beside (rest_afterwards b.device r ss))
  passes_all h r ss a i =
      subst (λ (zs : List Step). FollowsAmong peek r (beside r) zs (rest_afterwards b.device r ss) (beside (rest_afterwards b.device r ss))) (append-nil ss)
      (passes h r (rest_afterwards b.device r ss) (beside (rest_afterwards b.device r ss)) ss [] a i (ends refl refl))

  -- where CLOCK's wire stays, it passes over the others' steps
  aside_told : CalmData side → (t : ℕ) (r : Rest) (held : Bool) (line : Line) (way : Way) → r.host.clock_low ≡ held → KeepsClock held line
      → (told t (wires_of (after_another line way r)) (beside r) ≡ beside (after_another line way r)) × (told_act (wires_of (after_another line way r)) (beside r) ≡ None)
  aside_told h t r held Atn way e k = elim k [ ]
  aside_told h t r false Clock way e k = elim k [ ]
  aside_told h t r true Clock way e k =
      let was : (wires_of r).clock_low ≡ true = ap (λ (v : Bool). some r.clocks || v) e ∙ or_true r.clocks in
      let now : (wires_of (after_another Clock way r)).clock_low ≡ true = ap (λ (v : Bool). some (after_another Clock way r).clocks || v) e ∙ or_true (after_another Clock way r).clocks in
      subst
      (λ (x : Bool). (told t (wires r.host.atn_low (wires_of (after_another Clock way r)).clock_low (wires_of r).data_low) (stands b role own (wires r.host.atn_low x (wires_of r).data_low) side) ≡ stands b role own (wires r.host.atn_low (wires_of (after_another Clock way r)).clock_low (wires_of r).data_low) side)
      × (told_act (wires r.host.atn_low (wires_of (after_another Clock way r)).clock_low (wires_of r).data_low) (stands b role own (wires r.host.atn_low x (wires_of r).data_low) side) ≡ None))
      (now ∙ sym was) (data_told h t r.host.atn_low (wires_of (after_another Clock way r)).clock_low (wires_of r).data_low (wires_of r).data_low)
  aside_told h t r held Data way e k = data_told h t r.host.atn_low (wires_of r).clock_low (wires_of r).data_low (wires_of (after_another Data way r)).data_low

  aside : CalmData side → (r r2 : Rest) (q2 : Port) (ss : List Step) (held : Bool) (who : Who) (t : ℕ) (line : Line) (way : Way) (mark : Mark) → r.host.clock_low ≡ held → ByAnother b.device who → CountsFor b.device mark None → KeepsClock held line → IsInTime t (side_due side)
      → FollowsAmong peek (rest_next b.device who line way r) (beside (rest_next b.device who line way r)) ss r2 q2 → FollowsAmong peek r (beside r) (record { event = event_of who t line way; mark = mark } ∷ ss) r2 q2
  aside h r r2 q2 ss held Host t line way mark e w m c i f = elim w [ ]
  aside h r r2 q2 ss held (Drive o) t line way mark e w m c i f =
      let k = aside_told h t r held line way e c in
      let g = subst (λ (v : Bool). FollowsAmong peek (if v then r else after_another line way r) (beside (if v then r else after_another line way r)) ss r2 q2) w f in
      hears w i (subst (λ (x : Option Act). CountsFor b.device mark x) (sym k.1) m) (subst (λ (x : Port). FollowsAmong peek (after_another line way r) x ss r2 q2) (sym k.0) g)

-- other drives change nothing of what the host holds
pub other_host : (line : Line) (way : Way) (r : Rest) → (after_another line way r).host ≡ r.host
other_host Atn way r = refl
other_host Clock way r = refl
other_host Data way r = refl

next_host : (d : ℕ) (who : Who) (line : Line) (way : Way) (r : Rest) → ByAnother d who → (rest_next d who line way r).host ≡ r.host
next_host d Host line way r w = elim w [ ]
next_host d (Drive o) line way r w = ap (λ (v : Bool). (if v then r else after_another line way r).host) w ∙ other_host line way r

pub aside_host : (d : ℕ) (held : Bool) (r : Rest) (ss : List Step) → Every (IsAside d held) ss → (rest_afterwards d r ss).host ≡ r.host
aside_host d held r [] a = refl
aside_host d held r (s ∷ ss) a =
    aside_host d held (rest_next d s.event.who s.event.change.line s.event.change.way r) ss a.1 ∙ next_host d s.event.who s.event.change.line s.event.change.way r a.0.who

module _ (peek : Option (ℕ × Bool)) (b : Party) (role : Role) (own : Held) (side : Side) where
  pub asides : CalmData side → (held : Bool) (r r2 : Rest) (q2 : Port) (ss ys : List Step) → r.host.clock_low ≡ held → Every (IsAside b.device held) ss → Every (InTime side) ss
      → FollowsAmong peek (rest_afterwards b.device r ss) (beside peek b role own side (rest_afterwards b.device r ss)) ys r2 q2 → FollowsAmong peek r (beside peek b role own side r) (ss ++ ys) r2 q2
  asides h held r r2 q2 [] ys e a i f = f
  asides h held r r2 q2 (s ∷ ss) ys e a i f =
      let next = rest_next b.device s.event.who s.event.change.line s.event.change.way r in
      aside peek b role own side h r r2 q2 (ss ++ ys) held s.event.who s.event.change.moment s.event.change.line s.event.change.way s.mark e a.0.who a.0.counts a.0.line i.0
      (asides h held next r2 q2 ss ys (ap (λ (l : Lines). l.clock_low) (next_host b.device s.event.who s.event.change.line s.event.change.way r a.0.who) ∙ e) a.1 i.1 f)

  pub asides_all : CalmData side → (held : Bool) (r : Rest) (ss : List Step) → r.host.clock_low ≡ held → Every (IsAside b.device held) ss → Every (InTime side) ss
      → FollowsAmong peek r (beside peek b role own side r) ss (rest_afterwards b.device r ss) (beside peek b role own side (rest_afterwards b.device r ss))
  asides_all h held r ss e a i =
      subst (λ (zs : List Step). FollowsAmong peek r (beside peek b role own side r) zs (rest_afterwards b.device r ss) (beside peek b role own side (rest_afterwards b.device r ss))) (append-nil ss)
      (asides h held r (rest_afterwards b.device r ss) (beside peek b role own side (rest_afterwards b.device r ss)) ss [] e a i (ends refl refl))
