-- A drive of a bus has its reaction due at a moment: what that leaves for the next step of a piece that all go with.
use Rattle.std.proofs.Common.{◌≡◌, ℕ, suc, ◌≤◌, ◌<◌, ◌⊎◌, inl, inr, Bool, true, List, [], ◌∷◌, ◌++◌, Option, Some, None, ap, sym, ◌∙◌, subst, arith, refl}
use Rattle.cbm_iec.specs.Hearing.{is_same}
use Rattle.cbm_iec.specs.Ports.{side_due, port_due, told}
use Rattle.cbm_iec.specs.declared.machine.Act.{Act}
use Rattle.cbm_iec.specs.declared.event.Who.TheVariants.{Host}
use Rattle.cbm_iec.specs.declared.lines.Line.TheVariants.{Data}
use Rattle.cbm_iec.specs.declared.lines.Line.{Line}
use Rattle.cbm_iec.specs.declared.lines.Way.{Way}
use Rattle.cbm_iec.specs.declared.lines.Lines.{Lines}
use Rattle.cbm_iec.specs.declared.port.Port.{Port}
use Rattle.cbm_iec.specs.declared.port.Side.{Side}
use Rattle.cbm_session.proofs.Truths.{same_self}
use Rattle.cbm_session.proofs.headline.AlongBus.{GoesSo, AllGo, told_out, host_atn}
use Rattle.cbm_session.proofs.headline.BusStep.{Goes, ends, tells, hears, reacts, own_first, not_mine, host_drive, moment_at}
use Rattle.cbm_session.proofs.headline.GoesOf.{data_steady}
use Rattle.cbm_session.proofs.headline.Meeting.{FirstIs}
use Rattle.cbm_session.proofs.headline.ReleaseBus.{AllQuiet}
use Rattle.cbm_session.proofs.headline.Premises.{mute}
use Rattle.cbm_session.proofs.joining.Merging.{NoneBefore, AllBefore}
use Rattle.cbm_session.specs.Among.{Rest, wires_of, after_the_host}
use Rattle.cbm_session.specs.Following.{IsInTime, reaction_steps}
use Rattle.cbm_session.specs.Playing.{Station, IsLaterDue, AllLater}
use Rattle.cbm_session.specs.Steps.{Step, moment_of, events_of}

same_moment : (t u : ℕ) (o : Option ℕ) → IsInTime t o → o ≡ Some u → t ≤ u
same_moment t u o i e = subst (λ (v : Option ℕ). IsInTime t v) e i

reaction_some : (d u : ℕ) (rs more : List Step) → FirstIs d u (events_of rs) → [] ≡ rs ++ more → ⊥
reaction_some d u [] more f e = elim f [ ]
reaction_some d u (r ∷ rs) more f e = cc

-- what a drive goes with begins no later than what is due
pub first_by : (says : Option (ℕ × Bool)) {r r2 : Rest} {q q2 : Port} {z : Step} {zs : List Step} → Goes says r q (z ∷ zs) r2 q2 → (t : ℕ) → port_due q ≡ Some t → moment_of z ≤ t
first_by says {q = q} (tells {t = u} i k g) t e = same_moment u t (port_due q) i e
first_by says {q = q} (hears {t = u} a i y k g) t e = same_moment u t (port_due q) i e
first_by says {q = q} {z = z} {zs = zs} (reacts u more d x sh l g) t e =
    let at : u ≡ t = (let k : Some u ≡ Some t = sym d ∙ e in cc) in
    let first = moment_at q.party.device u z zs (reaction_steps u says q) more (own_first says q u sh) x in
    omega (arith, at, first)

-- and where it goes with nothing it stays
pub goes_none : (says : Option (ℕ × Bool)) {r r2 : Rest} {q q2 : Port} → Goes says r q [] r2 q2 → q2 ≡ q
goes_none says (ends a b) = b
goes_none says {q = q} (reacts u more d x sh l g) = absurd (reaction_some q.party.device u (reaction_steps u says q) more (own_first says q u sh) x)

module _ (M : Type 0) (step : M → Act → M) (peek : M → Option (ℕ × Bool)) where
  -- one of these has its reaction due at t
  abbrev pub SomeDue : ℕ → List (Station M) → Type 0
  SomeDue t [] = ⊥
  SomeDue t (s ∷ ss) = (port_due s.port ≡ Some t) ⊎ SomeDue t ss

  pub due_among : (t : ℕ) (before : List (Station M)) (o : Station M) (afterwards : List (Station M)) → port_due o.port ≡ Some t → SomeDue t (before ++ o ∷ afterwards)
  due_among t [] o afterwards e = inl e
  due_among t (b ∷ before) o afterwards e = inr (due_among t before o afterwards e)

  pub quiet_due : (place : ℕ → ℕ) (t : ℕ) (ss : List (Station M)) → AllQuiet M step peek mute place ss → SomeDue t ss → ⊥
  quiet_due place t [] q d = d
  quiet_due place t (s ∷ ss) q (inl e) = let k : Some t ≡ None = sym e ∙ q.0 in cc
  quiet_due place t (s ∷ ss) q (inr d) = quiet_due place t ss q.1 d

  pub later_due : (m t : ℕ) (ss : List (Station M)) → AllLater M step peek m ss → SomeDue t ss → m < t
  later_due m t [] a d = elim d [ ]
  later_due m t (s ∷ ss) a (inl e) = subst (λ (o : Option ℕ). IsLaterDue m o) e a.0
  later_due m t (s ∷ ss) a (inr d) = later_due m t ss a.1 d

  module _ (says : ℕ → Option (ℕ × Bool)) (place : ℕ → ℕ) where
    pub goes_first : (t : ℕ) (ss : List (Station M)) (z : Step) (zs : List Step) (fin : List (Rest × Port)) → AllGo M step peek says place ss (z ∷ zs) fin → SomeDue t ss → moment_of z ≤ t
    goes_first t [] z zs fin g d = elim d [ ]
    goes_first t (s ∷ ss) z zs [] g d = elim g [ ]
    goes_first t (s ∷ ss) z zs (e ∷ fin) g (inl k) = first_by (says s.port.party.device) g.0.goes t k
    goes_first t (s ∷ ss) z zs (e ∷ fin) g (inr d) = goes_first t ss z zs fin g.1 d

    clock_same : (way : Way) (r : Rest) (q : Port) → q.others ≡ wires_of r → is_same q.others.clock_low (wires_of (after_the_host Data way r)).clock_low ≡ true
    clock_same way r q seen = ap (λ (l : Lines). is_same l.clock_low (wires_of r).clock_low) seen ∙ same_self (wires_of r).clock_low

    -- After a change of DATA at that moment what is due is still due, so a drive's step has to come then.
    data_following : (t : ℕ) (s : Station M) (w : Way) (y : Step) (others : List Step) (r2 : Rest) (q2 : Port) → s.port.others ≡ wires_of s.rest → port_due s.port ≡ Some t → moment_of y ≡ t → NoneBefore (suc t) others → ((u : ℕ) → port_due q2 ≡ Some u → AllBefore u (y ∷ others))
        → Goes (says s.port.party.device) (after_the_host Data w s.rest) (told t (wires_of (after_the_host Data w s.rest)) s.port) others r2 q2 → ⊥
    data_following t s w y others r2 q2 seen due at none end g = by_list others none end g
      where
        still : port_due (told t (wires_of (after_the_host Data w s.rest)) s.port) ≡ Some t
        still =
            let out = told_out s.port t s.rest (after_the_host Data w s.rest) seen (host_atn Data w s.rest refl) in
            ap (λ (v : Side). side_due v) (out.0 ∙ data_steady s.port.party.reaction t t s.port.others (wires_of (after_the_host Data w s.rest)) s.port.side (clock_same w s.rest s.port seen) due) ∙ due

        by_list : (zs : List Step) → NoneBefore (suc t) zs → ((u : ℕ) → port_due q2 ≡ Some u → AllBefore u (y ∷ zs)) → Goes (says s.port.party.device) (after_the_host Data w s.rest) (told t (wires_of (after_the_host Data w s.rest)) s.port) zs r2 q2 → ⊥
        by_list [] n end g3 =
            let stays = goes_none (says s.port.party.device) g3 in
            let late = (end t (ap (λ (v : Port). port_due v) stays ∙ still)).0 in
            absurd (omega (arith, late, at))
        by_list (z ∷ zs) n end g3 =
            let soon = first_by (says s.port.party.device) g3 t still in
            let late = n.0 in
            absurd (omega (arith, soon, late))

    one_data : (t : ℕ) (s : Station M) (y : Step) (others : List Step) (e : Rest × Port) → GoesSo M step peek says place s (y ∷ others) e → y.event.who ≡ Host → y.event.change.line ≡ Data → moment_of y ≡ t → NoneBefore (suc t) others → port_due s.port ≡ Some t → ⊥
    one_data t s y others e g who line at none due = by_goes g.goes who line at g.end
      where
        by_goes : {z : Step} → Goes (says s.port.party.device) s.rest s.port (z ∷ others) e.0 e.1 → z.event.who ≡ Host → z.event.change.line ≡ Data → moment_of z ≡ t → ((u : ℕ) → port_due e.1 ≡ Some u → AllBefore u (z ∷ others)) → ⊥
        by_goes {z} (tells {t = u} {line = l} {way = w} i k f) h d m end =
            let f2 = subst (λ (v : Line). Goes (says s.port.party.device) (after_the_host v w s.rest) (told u (wires_of (after_the_host v w s.rest)) s.port) others e.0 e.1) d f in
            let f3 = subst (λ (v : ℕ). Goes (says s.port.party.device) (after_the_host Data w s.rest) (told v (wires_of (after_the_host Data w s.rest)) s.port) others e.0 e.1) m f2 in
            data_following t s w z others e.0 e.1 g.seen due m none end f3
        by_goes (hears {o} a i y2 k f) h d m end = absurd (host_drive o (sym h))
        by_goes {z} (reacts u more x2 x sh l f) h d m end =
            let dev = s.port.party.device in
            absurd (not_mine dev u Host z others (reaction_steps u (says dev) s.port) more h (host_drive dev) (own_first (says dev) s.port u sh) x)

    pub data_first : (t : ℕ) (ss : List (Station M)) (y : Step) (others : List Step) (fin : List (Rest × Port)) → AllGo M step peek says place ss (y ∷ others) fin → y.event.who ≡ Host → y.event.change.line ≡ Data → moment_of y ≡ t → NoneBefore (suc t) others → SomeDue t ss → ⊥
    data_first t [] y others fin g who line at none d = d
    data_first t (s ∷ ss) y others [] g who line at none d = g
    data_first t (s ∷ ss) y others (e ∷ fin) g who line at none (inl k) = one_data t s y others e g.0 who line at none k
    data_first t (s ∷ ss) y others (e ∷ fin) g who line at none (inr d) = data_first t ss y others fin g.1 who line at none d
