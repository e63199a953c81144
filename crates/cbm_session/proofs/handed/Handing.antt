-- Under any host each drive's machine runs what the wires hand it: the induction over what is played.
use Rattle.std.proofs.Common.{◌≡◌, ℕ, suc, ◌≤◌, ◌<◌, inl, inr, Bool, true, false, List, [], ◌∷◌, ◌++◌, map, append_assoc, Option, Some, None, ap, sym, ◌∙◌, subst, refl, arith, eq-eqb}
use Rattle.std.proofs.lemmas.Bool.{le-leb, lt-leb, ne_eqb}
use Rattle.std.proofs.lemmas.List.{map-append}
use Rattle.std.specs.Prelude.{if◌then◌else◌, nat_eq, nat_le, nat_lt, ◌||◌}
use Rattle.cbm_iec.specs.Ports.{port_due, changed, next_held}
use Rattle.cbm_iec.specs.declared.machine.Act.{Act}
use Rattle.cbm_iec.specs.declared.event.Event.{Event}
use Rattle.cbm_iec.specs.declared.event.Who.TheVariants.{Host, Drive}
use Rattle.cbm_iec.specs.declared.lines.Change.{Change}
use Rattle.cbm_iec.specs.declared.lines.Line.TheVariants.{Clock, Data}
use Rattle.cbm_iec.specs.declared.lines.Line.{Line}
use Rattle.cbm_iec.specs.declared.party.Party.{Party}
use Rattle.cbm_iec.specs.declared.port.Side.TheVariants.{Hearing, Speaking}
use Rattle.cbm_iec.specs.declared.port.Side.{Side}
use Rattle.cbm_iec.specs.Ports.{side_due}
use Rattle.cbm_session.proofs.Truths.{or_there}
use Rattle.cbm_session.proofs.handed.Hearers.{ear_of, IsSettled, told_settled, react_settled, IsVoiced, told_voice, told_voiced, own_voice, own_voiced, Goes, goes_told, goes_react}
use Rattle.cbm_session.proofs.handed.Later.{told_kept, reacted_later}
use Rattle.cbm_session.specs.Among.{Rest, after_the_host, after_another}
use Rattle.cbm_session.specs.Following.{IsInTime}
use Rattle.cbm_session.specs.Handed.{Voice, over, ear_time, others_of, is_one_of, is_before, comes_next, IsNothingDue, ends, AllReact}
use Rattle.cbm_session.specs.Playing.{IsByte, AllBytes, IsLaterDue, Station, host_event, drive_events, told_lines, tell, hear, hear_all, react, shown, AllInTime, AllLater, reacting, Plays, stays, change, reaction}
use Rattle.cbm_session.specs.Sessions.{Unlike, AllUnlike}

-- ---- two places in one list

pub data Beside {A : Type 0} (as_ : List A) (x : A) (bs before : List A) (o : A) (afterwards : List A) : Type 0 where
  here : as_ ≡ before → x ≡ o → bs ≡ afterwards → Beside as_ x bs before o afterwards
  ahead : (mid : List A) → before ≡ as_ ++ x ∷ mid → bs ≡ mid ++ o ∷ afterwards → Beside as_ x bs before o afterwards
  later : (mid : List A) → as_ ≡ before ++ o ∷ mid → afterwards ≡ mid ++ x ∷ bs → Beside as_ x bs before o afterwards

pub where_is : {A : Type 0} (as_ : List A) (x : A) (bs before : List A) (o : A) (afterwards : List A) → as_ ++ x ∷ bs ≡ before ++ o ∷ afterwards → Beside as_ x bs before o afterwards
where_is {A} [] x bs [] o afterwards e = let f : x ≡ o = cc in let g : bs ≡ afterwards = cc in here refl f g
where_is {A} [] x bs (c ∷ before) o afterwards e =
    let f : c ≡ x = cc in
    let g : bs ≡ before ++ o ∷ afterwards = cc in
    ahead before (ap (λ (y : A). y ∷ before) f) g
where_is {A} (a ∷ as_) x bs [] o afterwards e =
    let f : a ≡ o = cc in
    let g : afterwards ≡ as_ ++ x ∷ bs = cc in
    later as_ (ap (λ (y : A). y ∷ as_) f) g
where_is {A} (a ∷ as_) x bs (c ∷ before) o afterwards e = let f : as_ ++ x ∷ bs ≡ before ++ o ∷ afterwards = cc in go (where_is as_ x bs before o afterwards f)
  where
    heads : a ≡ c
    heads = cc

    go : Beside as_ x bs before o afterwards → Beside (a ∷ as_) x bs (c ∷ before) o afterwards
    go (here f g h) = here (ap (λ (l : List A). a ∷ l) f ∙ ap (λ (y : A). y ∷ before) heads) g h
    go (ahead mid f g) = ahead mid (ap (λ (l : List A). c ∷ l) f ∙ ap (λ (y : A). y ∷ (as_ ++ x ∷ mid)) (sym heads)) g
    go (later mid f g) = later mid (ap (λ (l : List A). a ∷ l) f ∙ ap (λ (y : A). y ∷ (before ++ o ∷ mid)) heads) g

-- what stands in a list at the place after another one
abbrev pub Under : {A B : Type 0} → List A → (B → Type 0) → List B → Type 0
Under [] P [] = ⊥
Under [] P (y ∷ ys) = P y
Under (a ∷ as_) P [] = ⊥
Under (a ∷ as_) P (y ∷ ys) = Under as_ P ys

pub under_map : {A B : Type 0} (as_ : List A) (P Q : B → Type 0) (ys : List B) → ((y : B) → P y → Q y) → Under as_ P ys → Under as_ Q ys
under_map [] P Q [] f u = elim u [ ]
under_map [] P Q (y ∷ ys) f u = f y u
under_map (a ∷ as_) P Q [] f u = elim u [ ]
under_map (a ∷ as_) P Q (y ∷ ys) f u = under_map as_ P Q ys f u

-- ---- the drives of a bus

pub all_react_at : (xs : List Party) (p : Party) (ys : List Party) → AllReact (xs ++ p ∷ ys) → (AllReact xs × (1 ≤ p.reaction) × AllReact ys)
all_react_at [] p ys h = (tt, h.0, h.1)
all_react_at (x ∷ xs) p ys h = let k = all_react_at xs p ys h.1 in ((h.0, k.0), k.1, k.2)

unlike_at : (xs : List Party) (p : Party) (ys : List Party) → AllUnlike (xs ++ p ∷ ys) → Unlike p.device ys
unlike_at [] p ys h = h.0
unlike_at (x ∷ xs) p ys h = unlike_at xs p ys h.1

unlike_in : (d : ℕ) (xs : List Party) (p : Party) (ys : List Party) → Unlike d (xs ++ p ∷ ys) → ((d ≡ p.device → ⊥) × Unlike d ys)
unlike_in d [] p ys h = (h.0, h.1)
unlike_in d (x ∷ xs) p ys h = unlike_in d xs p ys h.1

abbrev devices : List Party → List ℕ
devices bs = map (λ x. x.device) bs

one_of : (xs : List Party) (p : Party) (ys : List Party) → is_one_of p.device (devices (xs ++ p ∷ ys)) ≡ true
one_of [] p ys = ap (λ (v : Bool). v || is_one_of p.device (devices ys)) (eq-eqb p.device p.device refl)
one_of (x ∷ xs) p ys = ap (λ (v : Bool). nat_eq p.device x.device || v) (one_of xs p ys) ∙ or_there (nat_eq p.device x.device)

none_of : (d : ℕ) (ys : List Party) → Unlike d ys → is_one_of d (devices ys) ≡ false
none_of d [] h = refl
none_of d (y ∷ ys) h = ap (λ (v : Bool). v || is_one_of d (devices ys)) (ne_eqb d y.device h.0) ∙ none_of d ys h.1

-- ---- the events that others see

own_removed : (d : ℕ) (cs : List Change) (es : List Event) → others_of d (drive_events d cs ++ es) ≡ others_of d es
own_removed d [] es = refl
own_removed d (c ∷ cs) es = ap (λ (v : Bool). if v then others_of d (drive_events d cs ++ es) else (record { who = Drive d; change = c }) ∷ others_of d (drive_events d cs ++ es)) (eq-eqb d d refl) ∙ own_removed d cs es

others_stay : (d o : ℕ) (cs : List Change) (es : List Event) → (d ≡ o → ⊥) → others_of d (drive_events o cs ++ es) ≡ drive_events o cs ++ others_of d es
others_stay d o [] es n = refl
others_stay d o (c ∷ cs) es n =
    ap (λ (v : Bool). if v then others_of d (drive_events o cs ++ es) else (record { who = Drive o; change = c }) ∷ others_of d (drive_events o cs ++ es)) (ne_eqb d o n)
    ∙ ap (λ (l : List Event). (record { who = Drive o; change = c }) ∷ l) (others_stay d o cs es n)

abbrev pub AllAt : ℕ → List Change → Type 0
AllAt t [] = Unit {0}
AllAt t (c ∷ cs) = (c.moment ≡ t) × AllAt t cs

pub changes_at : (t : ℕ) (c c2 e e2 : Bool) → AllAt t (changed t Clock c c2 ++ changed t Data e e2)
changes_at t c c2 e e2 = go (changed t Clock c c2) (one Clock c c2)
  where
    one : (l : Line) (was now : Bool) → AllAt t (changed t l was now)
    one l true true = tt
    one l true false = (refl, tt)
    one l false true = (refl, tt)
    one l false false = tt

    go : (xs : List Change) → AllAt t xs → AllAt t (xs ++ changed t Data e e2)
    go [] a = one Data e e2
    go (x ∷ xs) a = (a.0, go xs a.1)

-- ---- what is due

later_weak : (t u : ℕ) (o : Option ℕ) → u ≤ t → IsLaterDue t o → IsLaterDue u o
later_weak t u None l h = tt
later_weak t u (Some v) l h = omega (arith, l, h)

pub later_in_time : (t u : ℕ) (o : Option ℕ) → u ≤ t → IsLaterDue t o → IsInTime u o
later_in_time t u None l h = tt
later_in_time t u (Some v) l h = omega (arith, l, h)

-- the reaction of drive o at t, in the order of ties: this drive's is later than it, or else not before it
abbrev IsAfterTie : Bool → ℕ → Option ℕ → Type 0
IsAfterTie true t due = IsLaterDue t due
IsAfterTie false t due = IsInTime t due

not_less : (a b : ℕ) → b ≤ a → nat_lt a b ≡ false
not_less a b l = lt-leb (suc a) b (omega (arith, l))

tie_quiet : (v : Bool) (t m u : ℕ) → m ≡ t → IsAfterTie v t (Some u) → (if v then nat_le u m else nat_lt u m) ≡ false
tie_quiet true t m u e h = lt-leb u m (omega (arith, e, h))
tie_quiet false t m u e h = not_less u m (omega (arith, e, h))

module _ (M : Type 0) (step : M → Act → M) (peek : M → Option (ℕ × Bool)) where
  abbrev pub parties : List (Station M) → List Party
  parties ss = map (λ s. s.port.party) ss

  abbrev Due : Station M → Option ℕ
  Due s = port_due s.port

  pub party_map : (f : Station M → Station M) (ss : List (Station M)) → ((s : Station M) → (f s).port.party ≡ s.port.party) → parties (map f ss) ≡ parties ss
  party_map f [] h = refl
  party_map f (s ∷ ss) h = ap (λ (p : Party). p ∷ parties (map f ss)) (h s) ∙ ap (λ (l : List Party). s.port.party ∷ l) (party_map f ss h)

  pub party_heard : (cs : List Change) (s : Station M) → (hear_all M step peek cs s).port.party ≡ s.port.party
  party_heard [] s = refl
  party_heard (c ∷ cs) s = party_heard cs (hear M step peek c s)

  -- told at t, what is due stays or is later than t
  later_told : (t u : ℕ) (r : Rest) (s : Station M) → 1 ≤ s.port.party.reaction → u ≤ t → IsLaterDue u (Due s) → IsLaterDue u (Due (told_lines M step peek t r s))
  later_told t u r s w l h = elim (told_kept t _ s.port w) [
    | inl e ↦ subst (λ (o : Option ℕ). IsLaterDue u o) (sym e) h
    | inr k ↦ later_weak t u _ l k
  ]

  pub in_time_told : (t u : ℕ) (r : Rest) (s : Station M) → 1 ≤ s.port.party.reaction → u ≤ t → IsInTime u (Due s) → IsInTime u (Due (told_lines M step peek t r s))
  in_time_told t u r s w l h = elim (told_kept t _ s.port w) [
    | inl e ↦ subst (λ (o : Option ℕ). IsInTime u o) (sym e) h
    | inr k ↦ later_in_time t u _ l k
  ]

  later_heard : (t u : ℕ) (cs : List Change) (s : Station M) → AllAt t cs → 1 ≤ s.port.party.reaction → u ≤ t → IsLaterDue u (Due s) → IsLaterDue u (Due (hear_all M step peek cs s))
  later_heard t u [] s a w l h = h
  later_heard t u (c ∷ cs) s a w l h = let e = a.0 in later_heard t u cs (hear M step peek c s) a.1 w l (later_told c.moment u (after_another c.line c.way s.rest) s w (omega (arith, e, l)) h)

  pub in_time_heard : (t u : ℕ) (cs : List Change) (s : Station M) → AllAt t cs → 1 ≤ s.port.party.reaction → u ≤ t → IsInTime u (Due s) → IsInTime u (Due (hear_all M step peek cs s))
  in_time_heard t u [] s a w l h = h
  in_time_heard t u (c ∷ cs) s a w l h = let e = a.0 in in_time_heard t u cs (hear M step peek c s) a.1 w l (in_time_told c.moment u (after_another c.line c.way s.rest) s w (omega (arith, e, l)) h)

  all_later_heard : (t u : ℕ) (cs : List Change) (ss : List (Station M)) → AllAt t cs → AllReact (parties ss) → u ≤ t → AllLater M step peek u ss → AllLater M step peek u (map (λ s. hear_all M step peek cs s) ss)
  all_later_heard t u cs [] a w l h = tt
  all_later_heard t u cs (s ∷ ss) a w l h = (later_heard t u cs s a w.0 l h.0, all_later_heard t u cs ss a w.1 l h.1)

  pub all_in_time_heard : (t u : ℕ) (cs : List Change) (ss : List (Station M)) → AllAt t cs → AllReact (parties ss) → u ≤ t → AllInTime M step peek u ss → AllInTime M step peek u (map (λ s. hear_all M step peek cs s) ss)
  all_in_time_heard t u cs [] a w l h = tt
  all_in_time_heard t u cs (s ∷ ss) a w l h = (in_time_heard t u cs s a w.0 l h.0, all_in_time_heard t u cs ss a w.1 l h.1)

  pub later_at : (t : ℕ) (xs : List (Station M)) (x : Station M) (ys : List (Station M)) → AllLater M step peek t (xs ++ x ∷ ys) → (AllLater M step peek t xs × IsLaterDue t (Due x) × AllLater M step peek t ys)
  later_at t [] x ys h = (tt, h.0, h.1)
  later_at t (y ∷ xs) x ys h = let k = later_at t xs x ys h.1 in ((h.0, k.0), k.1, k.2)

  pub in_time_at : (t : ℕ) (xs : List (Station M)) (x : Station M) (ys : List (Station M)) → AllInTime M step peek t (xs ++ x ∷ ys) → (AllInTime M step peek t xs × IsInTime t (Due x) × AllInTime M step peek t ys)
  in_time_at t [] x ys h = (tt, h.0, h.1)
  in_time_at t (y ∷ xs) x ys h = let k = in_time_at t xs x ys h.1 in ((h.0, k.0), k.1, k.2)

  later_join : (t : ℕ) (xs : List (Station M)) (x : Station M) (ys : List (Station M)) → AllLater M step peek t xs → IsLaterDue t (Due x) → AllLater M step peek t ys → AllLater M step peek t (xs ++ x ∷ ys)
  later_join t [] x ys a b c = (b, c)
  later_join t (y ∷ xs) x ys a b c = (a.0, later_join t xs x ys a.1 b c)

  pub in_time_join : (t : ℕ) (xs : List (Station M)) (x : Station M) (ys : List (Station M)) → AllInTime M step peek t xs → IsInTime t (Due x) → AllInTime M step peek t ys → AllInTime M step peek t (xs ++ x ∷ ys)
  in_time_join t [] x ys a b c = (b, c)
  in_time_join t (y ∷ xs) x ys a b c = (a.0, in_time_join t xs x ys a.1 b c)

  react_later : (t u : ℕ) (s : Station M) → 1 ≤ s.port.party.reaction → u ≤ t → Due s ≡ Some t → IsLaterDue u (Due (react M step peek t s))
  react_later t u s w l e = later_weak t u (Due (react M step peek t s)) l (reacted_later t (peek s.machine) s.port w e)

  pub react_in_time : (t u : ℕ) (s : Station M) → 1 ≤ s.port.party.reaction → u ≤ t → Due s ≡ Some t → IsInTime u (Due (react M step peek t s))
  react_in_time t u s w l e = later_in_time t u (Due (react M step peek t s)) l (reacted_later t (peek s.machine) s.port w e)

  -- a station that settled stays so
  heard_settled : (cs : List Change) (s : Station M) → IsSettled M step peek s → IsSettled M step peek (hear_all M step peek cs s)
  heard_settled [] s g = g
  heard_settled (c ∷ cs) s g = heard_settled cs (hear M step peek c s) (told_settled M step peek c.moment (after_another c.line c.way s.rest) s g)

  -- ---- one drive of the bus

  module _ (end : ℕ) (b : Party) (pa pb : List Party) (unlike : AllUnlike (pa ++ b ∷ pb)) (swift : AllReact (pa ++ b ∷ pb)) where
    -- the drive stands at its place in the list
    pub record Stands (as_ : List (Station M)) (x : Station M) (bs ss : List (Station M)) : Type 0 where
      pub all : ss ≡ as_ ++ x ∷ bs
      pub before : parties as_ ≡ pa
      pub own : x.port.party ≡ b
      pub afterwards : parties bs ≡ pb

    abbrev heard_from : ℕ → Station M → Station M → Station M
    heard_from t o s = hear_all M step peek (shown M step peek t o) s

    shown_at : (t : ℕ) (o : Station M) → AllAt t (shown M step peek t o)
    shown_at t o = changes_at t o.port.own.clock_low (next_held (peek o.machine) o.port).clock_low o.port.own.data_low (next_held (peek o.machine) o.port).data_low

    parties_at : (xs : List (Station M)) (x : Station M) (ys : List (Station M)) → parties (xs ++ x ∷ ys) ≡ parties xs ++ x.port.party ∷ parties ys
    parties_at xs x ys = map-append (λ s. s.port.party) xs (x ∷ ys)

    swift_of : {as_ : List (Station M)} {x : Station M} {bs ss : List (Station M)} → Stands as_ x bs ss → AllReact (parties as_) × (1 ≤ x.port.party.reaction) × AllReact (parties bs)
    swift_of {as_} {x} {bs} {ss} s =
        let k = all_react_at pa b pb swift in
        (subst (λ (l : List Party). AllReact l) (sym s.before) k.0, subst (λ (p : Party). 1 ≤ p.reaction) (sym s.own) k.1, subst (λ (l : List Party). AllReact l) (sym s.afterwards) k.2)

    swift_at : (xs : List (Station M)) (x : Station M) (ys : List (Station M)) → AllReact (parties (xs ++ x ∷ ys)) → AllReact (parties xs) × (1 ≤ x.port.party.reaction) × AllReact (parties ys)
    swift_at xs x ys h = all_react_at (parties xs) x.port.party (parties ys) (subst (λ (l : List Party). AllReact l) (parties_at xs x ys) h)

    -- where it stands after a change of the host, and after a reaction
    told_stands : {as_ : List (Station M)} {x : Station M} {bs ss : List (Station M)} (c : Change) → Stands as_ x bs ss
        → Stands (map (λ s. tell M step peek c s) as_) (tell M step peek c x) (map (λ s. tell M step peek c s) bs) (map (λ s. tell M step peek c s) ss)
    told_stands {as_} {x} {bs} {ss} c s = record {
      all = ap (λ (l : List (Station M)). map (λ z. tell M step peek c z) l) s.all ∙ map-append (λ z. tell M step peek c z) as_ (x ∷ bs);
      before = party_map (λ z. tell M step peek c z) as_ (λ z. refl) ∙ s.before;
      own = s.own;
      afterwards = party_map (λ z. tell M step peek c z) bs (λ z. refl) ∙ s.afterwards;
    }

    here_stands : (t : ℕ) (before : List (Station M)) (o : Station M) (afterwards : List (Station M)) {ss : List (Station M)} → Stands before o afterwards ss
        → Stands (map (heard_from t o) before) (react M step peek t o) (map (heard_from t o) afterwards) (reacting M step peek t before o afterwards)
    here_stands t before o afterwards s = record {
      all = refl;
      before = party_map (heard_from t o) before (λ z. party_heard (shown M step peek t o) z) ∙ s.before;
      own = s.own;
      afterwards = party_map (heard_from t o) afterwards (λ z. party_heard (shown M step peek t o) z) ∙ s.afterwards;
    }

    ahead_stands : (t : ℕ) (as_ : List (Station M)) (x : Station M) (mid : List (Station M)) (o : Station M) (afterwards : List (Station M)) {ss : List (Station M)} → Stands as_ x (mid ++ o ∷ afterwards) ss
        → Stands (map (heard_from t o) as_) (heard_from t o x) (map (heard_from t o) mid ++ react M step peek t o ∷ map (heard_from t o) afterwards) (reacting M step peek t (as_ ++ x ∷ mid) o afterwards)
    ahead_stands t as_ x mid o afterwards s = record {
      all = ap (λ (l : List (Station M)). l ++ react M step peek t o ∷ map (heard_from t o) afterwards) (map-append (heard_from t o) as_ (x ∷ mid))
          ∙ append_assoc (map (heard_from t o) as_) (heard_from t o x ∷ map (heard_from t o) mid) (react M step peek t o ∷ map (heard_from t o) afterwards);
      before = party_map (heard_from t o) as_ (λ z. party_heard (shown M step peek t o) z) ∙ s.before;
      own = party_heard (shown M step peek t o) x ∙ s.own;
      afterwards = parties_at (map (heard_from t o) mid) (react M step peek t o) (map (heard_from t o) afterwards)
          ∙ ap (λ (l : List Party). l ++ o.port.party ∷ parties (map (heard_from t o) afterwards)) (party_map (heard_from t o) mid (λ z. party_heard (shown M step peek t o) z))
          ∙ ap (λ (l : List Party). parties mid ++ o.port.party ∷ l) (party_map (heard_from t o) afterwards (λ z. party_heard (shown M step peek t o) z))
          ∙ sym (parties_at mid o afterwards)
          ∙ s.afterwards;
    }

    later_stands : (t : ℕ) (before : List (Station M)) (o : Station M) (mid : List (Station M)) (x : Station M) (bs : List (Station M)) {ss : List (Station M)} → Stands (before ++ o ∷ mid) x bs ss
        → Stands (map (heard_from t o) before ++ react M step peek t o ∷ map (heard_from t o) mid) (heard_from t o x) (map (heard_from t o) bs) (reacting M step peek t before o (mid ++ x ∷ bs))
    later_stands t before o mid x bs s = record {
      all = ap (λ (l : List (Station M)). map (heard_from t o) before ++ react M step peek t o ∷ l) (map-append (heard_from t o) mid (x ∷ bs))
          ∙ sym (append_assoc (map (heard_from t o) before) (react M step peek t o ∷ map (heard_from t o) mid) (heard_from t o x ∷ map (heard_from t o) bs));
      before = parties_at (map (heard_from t o) before) (react M step peek t o) (map (heard_from t o) mid)
          ∙ ap (λ (l : List Party). l ++ o.port.party ∷ parties (map (heard_from t o) mid)) (party_map (heard_from t o) before (λ z. party_heard (shown M step peek t o) z))
          ∙ ap (λ (l : List Party). parties before ++ o.port.party ∷ l) (party_map (heard_from t o) mid (λ z. party_heard (shown M step peek t o) z))
          ∙ sym (parties_at before o mid)
          ∙ s.before;
      own = party_heard (shown M step peek t o) x ∙ s.own;
      afterwards = party_map (heard_from t o) bs (λ z. party_heard (shown M step peek t o) z) ∙ s.afterwards;
    }

    -- another drive isn't this one; and those listed after are those of the list
    ahead_unlike : {as_ : List (Station M)} {x : Station M} (mid : List (Station M)) (o : Station M) (afterwards : List (Station M)) {ss : List (Station M)} → Stands as_ x (mid ++ o ∷ afterwards) ss
        → (b.device ≡ o.port.party.device → ⊥) × (is_one_of o.port.party.device (devices pb) ≡ true)
    ahead_unlike mid o afterwards s =
        let e = sym s.afterwards ∙ parties_at mid o afterwards in (
          (unlike_in b.device (parties mid) o.port.party (parties afterwards) (subst (λ (l : List Party). Unlike b.device l) e (unlike_at pa b pb unlike))).0,
          ap (λ (l : List Party). is_one_of o.port.party.device (devices l)) e ∙ one_of (parties mid) o.port.party (parties afterwards),
        )

    later_unlike : (before : List (Station M)) (o : Station M) (mid : List (Station M)) {x : Station M} {bs ss : List (Station M)} → Stands (before ++ o ∷ mid) x bs ss
        → (b.device ≡ o.port.party.device → ⊥) × (is_one_of o.port.party.device (devices pb) ≡ false)
    later_unlike before o mid s =
        let e = sym s.before ∙ parties_at before o mid in
        let k = unlike_in o.port.party.device (parties mid) b pb
        (unlike_at (parties before) o.port.party (parties mid ++ b ∷ pb) (subst (λ (l : List Party). AllUnlike l) (ap (λ (l : List Party). l ++ b ∷ pb) e ∙ append_assoc (parties before) (o.port.party ∷ parties mid) (b ∷ pb)) unlike)) in
        (λ f. k.0 (sym f), none_of o.port.party.device pb k.1)

    -- ---- nothing of another party comes before the drive's reaction at t

    record IsPast (t : ℕ) (as_ : List (Station M)) (x : Station M) (bs : List (Station M)) : Type 0 where
      before : AllLater M step peek t as_
      own : IsLaterDue t (Due x)
      afterwards : AllInTime M step peek t bs

    -- what another drive shows at u comes after it
    shows_after : (t u o : ℕ) (cs : List Change) (es : List Event) → (b.device ≡ o → ⊥) → AllAt u cs → (is_before (devices pb) t (Drive o) u ≡ true) → comes_next (devices pb) end t (others_of b.device es) ≡ true
        → comes_next (devices pb) end t (others_of b.device (drive_events o cs ++ es)) ≡ true
    shows_after t u o [] es n a w h = h
    shows_after t u o (c ∷ cs) es n a w h =
        ap (λ (l : List Event). comes_next (devices pb) end t l) (others_stay b.device o (c ∷ cs) es n) ∙ ap (λ (m : ℕ). is_before (devices pb) t (Drive o) m) a.0 ∙ w

    tie_before : (v : Bool) (t u : ℕ) → v ≡ true → t ≤ u → (if v then nat_le t u else nat_lt t u) ≡ true
    tie_before v t u e l = subst (λ (w : Bool). (if w then nat_le t u else nat_lt t u) ≡ true) (sym e) (le-leb t u l)

    less_before : (v : Bool) (t u : ℕ) → t < u → (if v then nat_le t u else nat_lt t u) ≡ true
    less_before true t u l = le-leb t u (omega (arith, l))
    less_before false t u l = le-leb (suc t) u (omega (arith, l))

    due_after : (t u : ℕ) (o : Option ℕ) → o ≡ Some u → IsLaterDue t o → t < u
    due_after t u o e h = let k : IsLaterDue t (Some u) = subst (λ (v : Option ℕ). IsLaterDue t v) e h in k

    due_from : (t u : ℕ) (o : Option ℕ) → o ≡ Some u → IsInTime t o → t ≤ u
    due_from t u o e h = let k : IsInTime t (Some u) = subst (λ (v : Option ℕ). IsInTime t v) e h in k

    restand : {as_ as2 : List (Station M)} {x x2 : Station M} {bs bs2 ss : List (Station M)} → as_ ≡ as2 → x ≡ x2 → bs ≡ bs2 → Stands as_ x bs ss → Stands as2 x2 bs2 ss
    restand {as_} {as2} {x} {x2} {bs} {bs2} {ss} e f g s = subst (λ (l : List (Station M)). Stands l x2 bs2 ss) e (subst (λ (y : Station M). Stands as_ y bs2 ss) f (subst (λ (l : List (Station M)). Stands as_ x l ss) g s))

    repast : (t : ℕ) {as_ as2 : List (Station M)} {x x2 : Station M} {bs bs2 : List (Station M)} → as_ ≡ as2 → x ≡ x2 → bs ≡ bs2 → IsPast t as_ x bs → IsPast t as2 x2 bs2
    repast t {as_} {as2} {x} {x2} {bs} {bs2} e f g p = subst (λ (l : List (Station M)). IsPast t l x2 bs2) e (subst (λ (y : Station M). IsPast t as_ y bs2) f (subst (λ (l : List (Station M)). IsPast t as_ x l) g p))

    comes_first : {n n2 t : ℕ} {ss ss2 : List (Station M)} {es : List Event} → Plays M step peek n ss es n2 ss2 → (as_ : List (Station M)) (x : Station M) (bs : List (Station M))
        → Stands as_ x bs ss → t < n → n2 ≤ suc end → IsPast t as_ x bs → comes_next (devices pb) end t (others_of b.device es) ≡ true
    comes_first {n} {n2} {t} (stays y e k f) as_ x bs s l m p = ap (λ (v : List Event). comes_next (devices pb) end t (others_of b.device v)) e ∙ le-leb t end (omega (arith, k, l, m))
    comes_first {n} {n2} {t} (change c more y i j e f) as_ x bs s l m p = ap (λ (v : List Event). comes_next (devices pb) end t (others_of b.device v)) e ∙ le-leb (suc t) c.moment (omega (arith, l, i))
    comes_first {n} {n2} {t} {ss} {ss2} {es} (reaction u before o afterwards more y e i k f) as_ x bs s l m p =
        ap (λ (v : List Event). comes_next (devices pb) end t (others_of b.device v)) k ∙ elim (where_is as_ x bs before o afterwards (sym s.all ∙ e)) [
          | here ea ex eb ↦ (
              let s2 = restand ea ex eb s in
              let p2 = repast t ea ex eb p in
              let w = swift_of s2 in
              let l2 = due_after t u (Due o) i.due p2.own in
              let own = ap (λ (q : Party). q.device) s2.own in
              ap (λ (d : ℕ). comes_next (devices pb) end t (others_of b.device (drive_events d (shown M step peek u o) ++ more))) own
              ∙ ap (λ (v : List Event). comes_next (devices pb) end t v) (own_removed b.device (shown M step peek u o) more)
              ∙ comes_first f (map (heard_from u o) before) (react M step peek u o) (map (heard_from u o) afterwards) (here_stands u before o afterwards s2) (omega (arith, l2)) m (record {
                before = all_later_heard u t (shown M step peek u o) before (shown_at u o) w.0 (omega (arith, l2)) p2.before;
                own = react_later u t o w.1 (omega (arith, l2)) i.due;
                afterwards = all_in_time_heard u t (shown M step peek u o) afterwards (shown_at u o) w.2 (omega (arith, l2)) p2.afterwards;
              })
              )
          | ahead mid ea eb ↦ (
              let s2 = restand refl refl eb s in
              let p2 = repast t refl refl eb p in
              let w = swift_of s2 in
              let w2 = swift_at mid o afterwards w.2 in
              let q = in_time_at t mid o afterwards p2.afterwards in
              let l2 = due_from t u (Due o) i.due q.1 in
              let n2 = ahead_unlike mid o afterwards s2 in
              let s3 = subst (λ (v : List (Station M)). Stands (map (heard_from u o) as_) (heard_from u o x) (map (heard_from u o) mid ++ react M step peek u o ∷ map (heard_from u o) afterwards) (reacting M step peek u v o afterwards)) (sym ea) (ahead_stands u as_ x mid o afterwards s2) in
              shows_after t u o.port.party.device (shown M step peek u o) more n2.0 (shown_at u o) (tie_before (is_one_of o.port.party.device (devices pb)) t u n2.1 l2)
              (comes_first f (map (heard_from u o) as_) (heard_from u o x) (map (heard_from u o) mid ++ react M step peek u o ∷ map (heard_from u o) afterwards) s3 (omega (arith, l2)) m (record {
                before = all_later_heard u t (shown M step peek u o) as_ (shown_at u o) w.0 l2 p2.before;
                own = later_heard u t (shown M step peek u o) x (shown_at u o) w.1 l2 p2.own;
                afterwards = in_time_join t (map (heard_from u o) mid) (react M step peek u o) (map (heard_from u o) afterwards) (all_in_time_heard u t (shown M step peek u o) mid (shown_at u o) w2.0 l2 q.0) (react_in_time u t o w2.1 l2 i.due) (all_in_time_heard u t (shown M step peek u o) afterwards (shown_at u o) w2.2 l2 q.2);
              }))
              )
          | later mid ea eb ↦ (
              let s2 = restand ea refl refl s in
              let p2 = repast t ea refl refl p in
              let w = swift_of s2 in
              let w2 = swift_at before o mid w.0 in
              let q = later_at t before o mid p2.before in
              let l2 = due_after t u (Due o) i.due q.1 in
              let n2 = later_unlike before o mid s2 in
              let s3 = subst (λ (v : List (Station M)). Stands (map (heard_from u o) before ++ react M step peek u o ∷ map (heard_from u o) mid) (heard_from u o x) (map (heard_from u o) bs) (reacting M step peek u before o v)) (sym eb) (later_stands u before o mid x bs s2) in
              shows_after t u o.port.party.device (shown M step peek u o) more n2.0 (shown_at u o) (less_before (is_one_of o.port.party.device (devices pb)) t u l2)
              (comes_first f (map (heard_from u o) before ++ react M step peek u o ∷ map (heard_from u o) mid) (heard_from u o x) (map (heard_from u o) bs) s3 (omega (arith, l2)) m (record {
                before = later_join t (map (heard_from u o) before) (react M step peek u o) (map (heard_from u o) mid) (all_later_heard u t (shown M step peek u o) before (shown_at u o) w2.0 (omega (arith, l2)) q.0) (react_later u t o w2.1 (omega (arith, l2)) i.due) (all_later_heard u t (shown M step peek u o) mid (shown_at u o) w2.2 (omega (arith, l2)) q.2);
                own = later_heard u t (shown M step peek u o) x (shown_at u o) w.1 (omega (arith, l2)) p2.own;
                afterwards = all_in_time_heard u t (shown M step peek u o) bs (shown_at u o) w.2 (omega (arith, l2)) p2.afterwards;
              }))
              )
        ]

    -- ---- what the drive is handed

    under_here : (P : Station M → Type 0) (as_ : List (Station M)) (x : Station M) (bs : List (Station M)) (ps : List Party) → parties as_ ≡ ps → P x → Under ps P (as_ ++ x ∷ bs)
    under_here P as_ x bs ps e p = subst (λ (l : List Party). Under l P (as_ ++ x ∷ bs)) e (go as_)
      where
        go : (as_ : List (Station M)) → Under (parties as_) P (as_ ++ x ∷ bs)
        go [] = p
        go (a ∷ as_) = go as_

    side_quiet : (side : Side) (es : List Event) → ((u : ℕ) → side_due side ≡ Some u → comes_next (devices pb) end u es ≡ false) → IsNothingDue (devices pb) end (ear_time (ear_of side)) es
    side_quiet (Speaking mouth) es h = tt
    side_quiet (Hearing ear) es h = go (side_due (Hearing ear)) h
      where
        go : (o : Option ℕ) → ((u : ℕ) → o ≡ Some u → comes_next (devices pb) end u es ≡ false) → IsNothingDue (devices pb) end o es
        go None k = tt
        go (Some u) k = k u refl

    -- what its lines have shown, after another drive's changes
    abbrev voice_all : ℕ → List Change → Station M → Voice → Voice
    voice_all o [] s v = v
    voice_all o (c ∷ cs) s v = voice_all o cs (hear M step peek c s) (told_voice M step peek (Drive o) c.line c.way s v)

    voiced_all : (o : ℕ) (cs : List Change) (s : Station M) (v : Voice) → IsSettled M step peek s → IsVoiced M step peek s v → (s.port.party.device ≡ o → ⊥) → IsVoiced M step peek (hear_all M step peek cs s) (voice_all o cs s v)
    voiced_all o [] s v g h n = h
    voiced_all o (c ∷ cs) s v g h n =
        voiced_all o cs (hear M step peek c s) (told_voice M step peek (Drive o) c.line c.way s v) (told_settled M step peek c.moment (after_another c.line c.way s.rest) s g) (told_voiced M step peek (Drive o) c.moment c.line c.way s v g h n) n

    goes_heard : (o t : ℕ) (cs : List Change) (es full : List Event) (s s2 : Station M) (v : Voice) → AllAt t cs → IsSettled M step peek s → IsVoiced M step peek s v → (s.port.party.device ≡ o → ⊥) → 1 ≤ s.port.party.reaction
        → IsAfterTie (is_one_of o (devices pb)) t (Due s) → Goes M step peek (devices pb) end (hear_all M step peek cs s) (voice_all o cs s v) es full s2 → Goes M step peek (devices pb) end s v (drive_events o cs ++ es) (drive_events o cs ++ full) s2
    goes_heard o t [] es full s s2 v a g i n w h f = f
    goes_heard o t (c ∷ cs) es full s s2 v a g i n w h f =
        goes_told M step peek (devices pb) end (record { who = Drive o; change = c }) (drive_events o cs ++ es) (drive_events o cs ++ full) s s2 v g i n (side_quiet s.port.side (record { who = Drive o; change = c } ∷ (drive_events o cs ++ es)) quiet)
        (goes_heard o t cs es full (hear M step peek c s) s2 (told_voice M step peek (Drive o) c.line c.way s v) a.1 (told_settled M step peek c.moment (after_another c.line c.way s.rest) s g) (told_voiced M step peek (Drive o) c.moment c.line c.way s v g i n) n w (tied (is_one_of o (devices pb)) h) f)
      where
        quiet : (u : ℕ) → Due s ≡ Some u → comes_next (devices pb) end u (record { who = Drive o; change = c } ∷ (drive_events o cs ++ es)) ≡ false
        quiet u e = tie_quiet (is_one_of o (devices pb)) t c.moment u a.0 (subst (λ (x : Option ℕ). IsAfterTie (is_one_of o (devices pb)) t x) e h)

        tied : (v : Bool) → IsAfterTie v t (Due s) → IsAfterTie v t (Due (hear M step peek c s))
        tied true k = let e = a.0 in later_told c.moment t (after_another c.line c.way s.rest) s w (omega (arith, e)) k
        tied false k = let e = a.0 in in_time_told c.moment t (after_another c.line c.way s.rest) s w (omega (arith, e)) k

    abbrev Ends : Station M → Voice → List Event → Station M → Type 0
    Ends x v es y = Goes M step peek (devices pb) end x v (others_of b.device es) es y

    goes_nothing : (x : Station M) (v : Voice) (es : List Event) → es ≡ [] → IsLaterDue end (Due x) → Ends x v es x
    goes_nothing x v es e l = subst (λ (l : List Event). Ends x v l x) (sym e) (record { acts = []; hands = ends refl refl (side_quiet x.port.side [] quiet); says = over refl refl; ran = refl })
      where
        quiet : (u : ℕ) → Due x ≡ Some u → comes_next (devices pb) end u [] ≡ false
        quiet u f = let k = due_after end u (Due x) f l in lt-leb u end k

    not_own : (x o : Station M) → x.port.party ≡ b → (b.device ≡ o.port.party.device → ⊥) → x.port.party.device ≡ o.port.party.device → ⊥
    not_own x o e n k = n (sym (ap (λ (q : Party). q.device) e) ∙ k)

    bytes_at : (xs : List (Station M)) (x : Station M) (ys : List (Station M)) → AllBytes M step peek (xs ++ x ∷ ys) → IsByte M step peek (peek x.machine)
    bytes_at [] x ys h = h.0
    bytes_at (y ∷ xs) x ys h = bytes_at xs x ys h.1

    pub handed : {n n2 : ℕ} {ss ss2 : List (Station M)} {es : List Event} → Plays M step peek n ss es n2 ss2 → (as_ : List (Station M)) (x : Station M) (bs : List (Station M)) (voice : Voice) → Stands as_ x bs ss
        → IsSettled M step peek x → IsVoiced M step peek x voice → n2 ≤ suc end → AllLater M step peek end ss2 → Under pa (λ y. Ends x voice es y) ss2
    handed {n} {n2} {ss} {ss2} {es} (stays y e k f) as_ x bs voice s g iv m z =
        let e2 = f ∙ s.all in
        let q = later_at end as_ x bs (subst (λ (v : List (Station M)). AllLater M step peek end v) e2 z) in
        subst (λ (v : List (Station M)). Under pa (λ w. Ends x voice es w) v) (sym e2) (under_here (λ w. Ends x voice es w) as_ x bs pa s.before (goes_nothing x voice es e q.1))
    handed {n} {n2} {ss} {ss2} {es} (change c more y l i e f) as_ x bs voice s g iv m z =
        let q = in_time_at c.moment as_ x bs (subst (λ (v : List (Station M)). AllInTime M step peek c.moment v) s.all i) in
        let still = side_quiet x.port.side (host_event c ∷ others_of b.device more) (λ u d. not_less u c.moment (due_from c.moment u (Due x) d q.1)) in
        let told = told_voice M step peek Host c.line c.way x voice in
        subst (λ (v : List Event). Under pa (λ w. Ends x voice v w) ss2) (sym e)
        (under_map pa (λ w. Ends (tell M step peek c x) told more w) (λ w. Ends x voice (host_event c ∷ more) w) ss2 (λ w k. goes_told M step peek (devices pb) end (host_event c) (others_of b.device more) more x w voice g iv tt still k)
        (handed f (map (λ v. tell M step peek c v) as_) (tell M step peek c x) (map (λ v. tell M step peek c v) bs) told (told_stands c s) (told_settled M step peek c.moment (after_the_host c.line c.way x.rest) x g) (told_voiced M step peek Host c.moment c.line c.way x voice g iv tt) m z))
    handed {n} {n2} {ss} {ss2} {es} (reaction u before o afterwards more y e i k f) as_ x bs voice s g iv m z =
        subst (λ (v : List Event). Under pa (λ w. Ends x voice v w) ss2) (sym k) (elim (where_is as_ x bs before o afterwards (sym s.all ∙ e)) [
          | here ea ex eb ↦ (
              let s2 = restand ea ex eb s in
              let w = swift_of s2 in
              let go = subst (λ (v : Station M). IsSettled M step peek v) ex g in
              let io = subst (λ (v : Station M). IsVoiced M step peek v voice) ex iv in
              let byte = bytes_at before o afterwards (subst (λ (v : List (Station M)). AllBytes M step peek v) e y) in
              let next = comes_first f (map (heard_from u o) before) (react M step peek u o) (map (heard_from u o) afterwards) (here_stands u before o afterwards s2) (omega arith) m (record {
                before = all_later_heard u u (shown M step peek u o) before (shown_at u o) w.0 (omega arith) i.later;
                own = react_later u u o w.1 (omega arith) i.due;
                afterwards = all_in_time_heard u u (shown M step peek u o) afterwards (shown_at u o) w.2 (omega arith) i.in_time;
              }) in
              let own = ap (λ (d : ℕ). others_of b.device (drive_events d (shown M step peek u o) ++ more)) (ap (λ (q : Party). q.device) s2.own) ∙ own_removed b.device (shown M step peek u o) more in
              let full = drive_events o.port.party.device (shown M step peek u o) ++ more in
              subst (λ (v : Station M). Under pa (λ w2. Ends v voice (drive_events o.port.party.device (shown M step peek u o) ++ more) w2) ss2) (sym ex)
              (subst (λ (v : List Event). Under pa (λ w2. Goes M step peek (devices pb) end o voice v (drive_events o.port.party.device (shown M step peek u o) ++ more) w2) ss2) (sym own)
              (under_map pa (λ w2. Ends (react M step peek u o) (own_voice M step peek o voice) more w2) (λ w2. Goes M step peek (devices pb) end o voice (others_of b.device more) (drive_events o.port.party.device (shown M step peek u o) ++ more) w2) ss2
              (λ w2 j. goes_react M step peek (devices pb) end u (others_of b.device more) more o w2 voice go io byte i.due next j)
              (handed f (map (heard_from u o) before) (react M step peek u o) (map (heard_from u o) afterwards) (own_voice M step peek o voice) (here_stands u before o afterwards s2) (react_settled M step peek u o go) (own_voiced M step peek u o voice go io byte i.due) m z)))
              )
          | ahead mid ea eb ↦ (
              let s2 = restand refl refl eb s in
              let w = swift_of s2 in
              let n2 = ahead_unlike mid o afterwards s2 in
              let apart = not_own x o s.own n2.0 in
              let q = later_at u as_ x mid (subst (λ (v : List (Station M)). AllLater M step peek u v) ea i.later) in
              let tie = subst (λ (v : Bool). IsAfterTie v u (Due x)) (sym n2.1) q.1 in
              let s3 = subst (λ (v : List (Station M)). Stands (map (heard_from u o) as_) (heard_from u o x) (map (heard_from u o) mid ++ react M step peek u o ∷ map (heard_from u o) afterwards) (reacting M step peek u v o afterwards)) (sym ea) (ahead_stands u as_ x mid o afterwards s2) in
              let told = voice_all o.port.party.device (shown M step peek u o) x voice in
              subst (λ (v : List Event). Under pa (λ w2. Goes M step peek (devices pb) end x voice v (drive_events o.port.party.device (shown M step peek u o) ++ more) w2) ss2) (sym (others_stay b.device o.port.party.device (shown M step peek u o) more n2.0))
              (under_map pa (λ w2. Ends (heard_from u o x) told more w2) (λ w2. Goes M step peek (devices pb) end x voice (drive_events o.port.party.device (shown M step peek u o) ++ others_of b.device more) (drive_events o.port.party.device (shown M step peek u o) ++ more) w2) ss2
              (λ w2 j. goes_heard o.port.party.device u (shown M step peek u o) (others_of b.device more) more x w2 voice (shown_at u o) g iv apart w.1 tie j)
              (handed f (map (heard_from u o) as_) (heard_from u o x) (map (heard_from u o) mid ++ react M step peek u o ∷ map (heard_from u o) afterwards) told s3 (heard_settled (shown M step peek u o) x g) (voiced_all o.port.party.device (shown M step peek u o) x voice g iv apart) m z))
              )
          | later mid ea eb ↦ (
              let s2 = restand ea refl refl s in
              let w = swift_of s2 in
              let n2 = later_unlike before o mid s2 in
              let apart = not_own x o s.own n2.0 in
              let q = in_time_at u mid x bs (subst (λ (v : List (Station M)). AllInTime M step peek u v) eb i.in_time) in
              let tie = subst (λ (v : Bool). IsAfterTie v u (Due x)) (sym n2.1) q.1 in
              let s3 = subst (λ (v : List (Station M)). Stands (map (heard_from u o) before ++ react M step peek u o ∷ map (heard_from u o) mid) (heard_from u o x) (map (heard_from u o) bs) (reacting M step peek u before o v)) (sym eb) (later_stands u before o mid x bs s2) in
              let told = voice_all o.port.party.device (shown M step peek u o) x voice in
              subst (λ (v : List Event). Under pa (λ w2. Goes M step peek (devices pb) end x voice v (drive_events o.port.party.device (shown M step peek u o) ++ more) w2) ss2) (sym (others_stay b.device o.port.party.device (shown M step peek u o) more n2.0))
              (under_map pa (λ w2. Ends (heard_from u o x) told more w2) (λ w2. Goes M step peek (devices pb) end x voice (drive_events o.port.party.device (shown M step peek u o) ++ others_of b.device more) (drive_events o.port.party.device (shown M step peek u o) ++ more) w2) ss2
              (λ w2 j. goes_heard o.port.party.device u (shown M step peek u o) (others_of b.device more) more x w2 voice (shown_at u o) g iv apart w.1 tie j)
              (handed f (map (heard_from u o) before ++ react M step peek u o ∷ map (heard_from u o) mid) (heard_from u o x) (map (heard_from u o) bs) told s3 (heard_settled (shown M step peek u o) x g) (voiced_all o.port.party.device (shown M step peek u o) x voice g iv apart) m z))
              )
        ])
