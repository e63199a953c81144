-- From the same drives with the same events there is one play up to an end.
use Rattle.std.proofs.Common.{◌≡◌, ℕ, zero, suc, ◌≤◌, ◌<◌, Bool, true, false, List, [], ◌∷◌, ◌++◌, map, Option, Some, None, ap, sym, ◌∙◌, subst, refl, arith}
use Rattle.std.proofs.lemmas.List.{map-append}
use Rattle.cbm_iec.specs.Ports.{port_due, next_held}
use Rattle.cbm_iec.specs.declared.machine.Act.{Act}
use Rattle.cbm_iec.specs.declared.event.Event.{Event}
use Rattle.cbm_iec.specs.declared.event.Who.TheVariants.{Host, Drive}
use Rattle.cbm_iec.specs.declared.lines.Change.{Change}
use Rattle.cbm_iec.specs.declared.party.Party.{Party}
use Rattle.cbm_session.proofs.handed.Handing.{Beside, here, ahead, later, where_is, all_react_at, AllAt, changes_at, later_in_time, parties, party_map, party_heard, in_time_told, all_in_time_heard, later_at, in_time_at, in_time_join, react_in_time}
use Rattle.cbm_session.specs.Among.{after_the_host}
use Rattle.cbm_session.specs.Following.{IsInTime}
use Rattle.cbm_session.specs.Handed.{AllReact}
use Rattle.cbm_session.specs.Playing.{IsLaterDue, Station, host_event, drive_events, tell, hear_all, react, shown, AllInTime, AllLater, IsFirst, reacting, Plays, stays, change, reaction}
use Rattle.cbm_session.specs.Timing.{is_host}

-- whether the first of these is the host's
abbrev by_host : List Event → Bool
by_host [] = false
by_host (e ∷ es) = is_host e.who

-- a drive's events that begin with one of the host are none
unshown : (d : ℕ) (cs : List Change) (c : Change) (more tail : List Event) → drive_events d cs ++ more ≡ host_event c ∷ tail → more ≡ host_event c ∷ tail
unshown d [] c more tail e = e
unshown d (x ∷ cs) c more tail e = let k : false ≡ true = ap (λ (l : List Event). by_host l) e in absurd cc

same_tail : (d : ℕ) (cs : List Change) (es fs : List Event) → drive_events d cs ++ es ≡ drive_events d cs ++ fs → es ≡ fs
same_tail d [] es fs e = e
same_tail d (c ∷ cs) es fs e = let k : drive_events d cs ++ es ≡ drive_events d cs ++ fs = cc in same_tail d cs es fs k

module _ (M : Type 0) (step : M → Act → M) (peek : M → Option (ℕ × Bool)) where
  abbrev Due : Station M → Option ℕ
  Due s = port_due s.port

  -- a play from there: nothing is due before u, and the host's changes come from n on
  pub record Going (u n : ℕ) (ss : List (Station M)) : Type 0 where
    pub swift : AllReact (parties M step peek ss)
    pub due : AllInTime M step peek u ss
    pub from : n ≤ suc u

  all_told : (c : Change) (ss : List (Station M)) → AllReact (parties M step peek ss) → AllInTime M step peek c.moment ss → AllInTime M step peek c.moment (map (λ s. tell M step peek c s) ss)
  all_told c [] w h = tt
  all_told c (s ∷ ss) w h = (in_time_told M step peek c.moment c.moment (after_the_host c.line c.way s.rest) s w.0 (omega arith) h.0, all_told c ss w.1 h.1)

  told_going : (u n : ℕ) (c : Change) (ss : List (Station M)) → Going u n ss → AllInTime M step peek c.moment ss → Going c.moment c.moment (map (λ s. tell M step peek c s) ss)
  told_going u n c ss g h = record {
    swift = subst (λ (l : List Party). AllReact l) (sym (party_map M step peek (λ s. tell M step peek c s) ss (λ s. refl))) g.swift;
    due = all_told c ss g.swift h;
    from = omega arith;
  }

  all_in_time : (t : ℕ) (ss : List (Station M)) → AllLater M step peek t ss → AllInTime M step peek t ss
  all_in_time t [] h = tt
  all_in_time t (s ∷ ss) h = (later_in_time t t (Due s) (omega arith) h.0, all_in_time t ss h.1)

  swift_at : (xs : List (Station M)) (x : Station M) (ys : List (Station M)) → AllReact (parties M step peek (xs ++ x ∷ ys)) → AllReact (parties M step peek xs) × (1 ≤ x.port.party.reaction) × AllReact (parties M step peek ys)
  swift_at xs x ys h = all_react_at (parties M step peek xs) x.port.party (parties M step peek ys) (subst (λ (l : List Party). AllReact l) (map-append (λ (s : Station M). s.port.party) xs (x ∷ ys)) h)

  swift_join : (xs : List (Station M)) (x : Station M) (ys : List (Station M)) → AllReact (parties M step peek xs) → 1 ≤ x.port.party.reaction → AllReact (parties M step peek ys) → AllReact (parties M step peek (xs ++ x ∷ ys))
  swift_join [] x ys a b c = (b, c)
  swift_join (y ∷ xs) x ys a b c = (a.0, swift_join xs x ys a.1 b c)

  -- what is due first isn't due before u
  due_from : (u t : ℕ) (before : List (Station M)) (o : Station M) (afterwards ss : List (Station M)) → AllInTime M step peek u ss → ss ≡ before ++ o ∷ afterwards → Due o ≡ Some t → u ≤ t
  due_from u t before o afterwards ss h e d =
      let k = in_time_at M step peek u before o afterwards (subst (λ (l : List (Station M)). AllInTime M step peek u l) e h) in
      subst (λ (v : Option ℕ). IsInTime u v) d k.1

  later_than : (u t : ℕ) (before : List (Station M)) (o : Station M) (afterwards ss : List (Station M)) → AllLater M step peek u ss → ss ≡ before ++ o ∷ afterwards → Due o ≡ Some t → u < t
  later_than u t before o afterwards ss h e d =
      let k = later_at M step peek u before o afterwards (subst (λ (l : List (Station M)). AllLater M step peek u l) e h) in
      subst (λ (v : Option ℕ). IsLaterDue u v) d k.1

  shown_at : (t : ℕ) (o : Station M) → AllAt t (shown M step peek t o)
  shown_at t o = changes_at t o.port.own.clock_low (next_held (peek o.machine) o.port).clock_low o.port.own.data_low (next_held (peek o.machine) o.port).data_low

  react_going : (u n t : ℕ) (before : List (Station M)) (o : Station M) (afterwards ss : List (Station M)) → Going u n ss → ss ≡ before ++ o ∷ afterwards → IsFirst M step peek t before o afterwards → Going t (suc t) (reacting M step peek t before o afterwards)
  react_going u n t before o afterwards ss g e f =
      let swift = swift_at before o afterwards (subst (λ (l : List (Station M)). AllReact (parties M step peek l)) e g.swift) in
      let same_parties : (l : List (Station M)) → parties M step peek (map (λ s. hear_all M step peek (shown M step peek t o) s) l) ≡ parties M step peek l =
      λ l. party_map M step peek (λ s. hear_all M step peek (shown M step peek t o) s) l (λ s. party_heard M step peek (shown M step peek t o) s) in
      record {
        swift = swift_join (map (λ s. hear_all M step peek (shown M step peek t o) s) before) (react M step peek t o) (map (λ s. hear_all M step peek (shown M step peek t o) s) afterwards)
            (subst (λ (l : List Party). AllReact l) (sym (same_parties before)) swift.0) swift.1 (subst (λ (l : List Party). AllReact l) (sym (same_parties afterwards)) swift.2);
        due = in_time_join M step peek t (map (λ s. hear_all M step peek (shown M step peek t o) s) before) (react M step peek t o) (map (λ s. hear_all M step peek (shown M step peek t o) s) afterwards)
            (all_in_time_heard M step peek t t (shown M step peek t o) before (shown_at t o) swift.0 (omega arith) (all_in_time t before f.later))
            (react_in_time M step peek t t o swift.1 (omega arith) f.due)
            (all_in_time_heard M step peek t t (shown M step peek t o) afterwards (shown_at t o) swift.2 (omega arith) f.in_time);
        from = omega arith;
      }

  -- moments don't go back
  pub plays_from : (u : ℕ) {n n2 : ℕ} {ss ss2 : List (Station M)} {es : List Event} → Going u n ss → Plays M step peek n ss es n2 ss2 → n ≤ n2
  plays_from u g (stays y e k f) = omega (arith, k)
  plays_from u {n} {n2} {ss} g (change c more y l i e f) = let k = plays_from c.moment (told_going u n c ss g i) f in omega (arith, l, k)
  plays_from u {n} {n2} {ss} g (reaction t before o afterwards more y e i k f) =
      let a = plays_from t (react_going u n t before o afterwards ss g e i) f in
      let b = due_from u t before o afterwards ss g.due e i.due in
      let c = g.from in
      omega (arith, a, b, c)

  -- a change of the host that comes next isn't before n
  next_from : (u : ℕ) (d : Change) (tail : List Event) {n n2 : ℕ} {ss ss2 : List (Station M)} {es : List Event} → Going u n ss → Plays M step peek n ss es n2 ss2 → es ≡ host_event d ∷ tail → n ≤ d.moment
  next_from u d tail g (stays y e k f) h = let x : [] ≡ host_event d ∷ tail = sym e ∙ h in absurd cc
  next_from u d tail {n} g (change c more y l i e f) h =
      let x : host_event c ∷ more ≡ host_event d ∷ tail = sym e ∙ h in
      let z : host_event c ≡ host_event d = cc in
      let w : c.moment ≡ d.moment = ap (λ (v : Event). v.change.moment) z in
      omega (arith, l, w)
  next_from u d tail {n} {n2} {ss} g (reaction t before o afterwards more y e i k f) h =
      let a = next_from t d tail (react_going u n t before o afterwards ss g e i) f (unshown o.port.party.device (shown M step peek t o) d more tail (sym k ∙ h)) in
      let b = due_from u t before o afterwards ss g.due e i.due in
      let c = g.from in
      omega (arith, a, b, c)

  -- one reaction is due first
  pub record IsSame (t : ℕ) (before : List (Station M)) (o : Station M) (afterwards : List (Station M)) (t2 : ℕ) (before2 : List (Station M)) (o2 : Station M) (afterwards2 : List (Station M)) : Type 0 where
    pub moment : t ≡ t2
    pub ahead_of : before ≡ before2
    pub own : o ≡ o2
    pub after : afterwards ≡ afterwards2

  first_once : (t : ℕ) (before : List (Station M)) (o : Station M) (afterwards : List (Station M)) (t2 : ℕ) (before2 : List (Station M)) (o2 : Station M) (afterwards2 : List (Station M)) → before ++ o ∷ afterwards ≡ before2 ++ o2 ∷ afterwards2
      → IsFirst M step peek t before o afterwards → IsFirst M step peek t2 before2 o2 afterwards2 → IsSame t before o afterwards t2 before2 o2 afterwards2
  first_once t before o afterwards t2 before2 o2 afterwards2 e f g = go (where_is before o afterwards before2 o2 afterwards2 e)
    where
      go : Beside before o afterwards before2 o2 afterwards2 → IsSame t before o afterwards t2 before2 o2 afterwards2
      go (here a b c) = let k : Some t ≡ Some t2 = sym f.due ∙ ap (λ (s : Station M). Due s) b ∙ g.due in record { moment = cc; ahead_of = a; own = b; after = c }
      go (ahead mid a b) =
          let x = later_than t2 t before o mid before2 g.later a f.due in
          let y = due_from t t2 mid o2 afterwards2 afterwards f.in_time b g.due in
          absurd (omega (arith, x, y))
      go (later mid a b) =
          let x = later_than t t2 before2 o2 mid before f.later a g.due in
          let y = due_from t2 t mid o afterwards afterwards2 g.in_time b f.due in
          absurd (omega (arith, x, y))

  -- the host's change, and a reaction that is due before it: not both come next
  not_both : (u t : ℕ) (c : Change) (before : List (Station M)) (o : Station M) (afterwards : List (Station M)) (tail more : List Event) {n n2 : ℕ} {ss ss2 : List (Station M)} → Going u n ss → ss ≡ before ++ o ∷ afterwards → IsFirst M step peek t before o afterwards
      → AllInTime M step peek c.moment ss → drive_events o.port.party.device (shown M step peek t o) ++ more ≡ host_event c ∷ tail → Plays M step peek (suc t) (reacting M step peek t before o afterwards) more n2 ss2 → ⊥
  not_both u t c before o afterwards tail more {n} {n2} {ss} g e f i h p =
      let a = next_from t c tail (react_going u n t before o afterwards ss g e f) p (unshown o.port.party.device (shown M step peek t o) c more tail h) in
      let b = due_from c.moment t before o afterwards ss i e f.due in
      omega (arith, a, b)

  not_over : (u t end : ℕ) (before : List (Station M)) (o : Station M) (afterwards : List (Station M)) (more : List Event) {n n2 : ℕ} {ss ss2 : List (Station M)} → Going u n ss → ss ≡ before ++ o ∷ afterwards → IsFirst M step peek t before o afterwards
      → AllLater M step peek end ss → n2 ≤ suc end → Plays M step peek (suc t) (reacting M step peek t before o afterwards) more n2 ss2 → ⊥
  not_over u t end before o afterwards more {n} {n2} {ss} g e f l b p =
      let x = plays_from t (react_going u n t before o afterwards ss g e f) p in
      let y = later_than end t before o afterwards ss l e f.due in
      omega (arith, x, y, b)

  -- THERE IS ONE PLAY
  pub once : (end u : ℕ) {n n2 n3 : ℕ} {ss ss2 ss3 : List (Station M)} {es fs : List Event} → Going u n ss → Plays M step peek n ss es n2 ss2 → Plays M step peek n ss fs n3 ss3 → es ≡ fs
      → n2 ≤ suc end → AllLater M step peek end ss2 → n3 ≤ suc end → AllLater M step peek end ss3 → ss2 ≡ ss3
  once end u g (stays y e k f) (stays y2 e2 k2 f2) h a b c d = f ∙ sym f2
  once end u g (stays y e k f) (change c2 more2 y2 l2 i2 e2 p2) h a b c d = let x : [] ≡ host_event c2 ∷ more2 = sym e ∙ h ∙ e2 in absurd cc
  once end u g (stays y e k f) (reaction t2 before2 o2 afterwards2 more2 y2 e2 i2 k2 p2) h a b c d =
      absurd (not_over u t2 end before2 o2 afterwards2 more2 g e2 i2 (subst (λ (l : List (Station M)). AllLater M step peek end l) f b) c p2)
  once end u g (change c1 more y l i e p) (stays y2 e2 k2 f2) h a b c d = let x : host_event c1 ∷ more ≡ [] = sym e ∙ h ∙ e2 in absurd cc
  once end u {n} {n2} {n3} {ss} {ss2} {ss3} g (change c1 more y l i e p) (change c2 more2 y2 l2 i2 e2 p2) h a b c d =
      let x : host_event c1 ∷ more ≡ host_event c2 ∷ more2 = sym e ∙ h ∙ e2 in
      let z : host_event c1 ≡ host_event c2 = cc in
      let w : c1 ≡ c2 = ap (λ (v : Event). v.change) z in
      let v : more ≡ more2 = cc in
      once end c1.moment (told_going u n c1 ss g i) p (subst (λ (q : Change). Plays M step peek q.moment (map (λ s. tell M step peek q s) ss) more2 n3 ss3) (sym w) p2) v a b c d
  once end u g (change c1 more y l i e p) (reaction t2 before2 o2 afterwards2 more2 y2 e2 i2 k2 p2) h a b c d =
      absurd (not_both u t2 c1 before2 o2 afterwards2 more more2 g e2 i2 i (sym k2 ∙ sym h ∙ e) p2)
  once end u g (reaction t before o afterwards more y e i k p) (stays y2 e2 k2 f2) h a b c d =
      absurd (not_over u t end before o afterwards more g e i (subst (λ (l : List (Station M)). AllLater M step peek end l) f2 d) a p)
  once end u g (reaction t before o afterwards more y e i k p) (change c2 more2 y2 l2 i2 e2 p2) h a b c d =
      absurd (not_both u t c2 before o afterwards more2 more g e i i2 (sym k ∙ h ∙ e2) p)
  once end u {n} {n2} {n3} {ss} {ss2} {ss3} g (reaction t before o afterwards more y e i k p) (reaction t2 before2 o2 afterwards2 more2 y2 e2 i2 k2 p2) h a b c d =
      let s = first_once t before o afterwards t2 before2 o2 afterwards2 (sym e ∙ e2) i i2 in
      let events : drive_events o.port.party.device (shown M step peek t o) ++ more ≡ drive_events o.port.party.device (shown M step peek t o) ++ more2 =
      sym k ∙ h ∙ k2 ∙ ap (λ (v : Station M). drive_events v.port.party.device (shown M step peek t2 v) ++ more2) (sym s.own) ∙ ap (λ (v : ℕ). drive_events o.port.party.device (shown M step peek v o) ++ more2) (sym s.moment) in
      let p3 : Plays M step peek (suc t) (reacting M step peek t before o afterwards) more2 n3 ss3 =
      subst (λ (v : ℕ). Plays M step peek (suc v) (reacting M step peek v before o afterwards) more2 n3 ss3) (sym s.moment)
      (subst (λ (v : List (Station M)). Plays M step peek (suc t2) (reacting M step peek t2 v o afterwards) more2 n3 ss3) (sym s.ahead_of)
      (subst (λ (v : Station M). Plays M step peek (suc t2) (reacting M step peek t2 before2 v afterwards) more2 n3 ss3) (sym s.own)
      (subst (λ (v : List (Station M)). Plays M step peek (suc t2) (reacting M step peek t2 before2 o2 v) more2 n3 ss3) (sym s.after) p2))) in
      once end t (react_going u n t before o afterwards ss g e i) p p3 (same_tail o.port.party.device (shown M step peek t o) more more2 events) a b c d
