-- Two plays side by side are plays: of the host, and of the tidy one, with the same drives and machines in the end.
use Rattle.std.proofs.Common.{◌≡◌, ℕ, zero, suc, ◌≤◌, Bool, List, [], ◌∷◌, ◌++◌, map, Option, Some, None, ap, sym, ◌∙◌, subst, refl}
use Rattle.std.specs.List.{AllZip}
use Rattle.cbm_iec.specs.Ports.{resting, port_due}
use Rattle.cbm_iec.specs.declared.machine.Act.{Act}
use Rattle.cbm_iec.specs.declared.event.Event.{Event}
use Rattle.cbm_iec.specs.declared.event.Who.TheVariants.{Host, Drive}
use Rattle.cbm_iec.specs.declared.lines.Change.{Change}
use Rattle.cbm_iec.specs.declared.party.Party.{Party}
use Rattle.cbm_session.proofs.loose.Alone.{tidied_alike, strayed_alike}
use Rattle.cbm_session.proofs.loose.Moves.{made_alike, due_alike, ReactsAlike, reacts_alike}
use Rattle.cbm_session.proofs.loose.Sides.{same}
use Rattle.cbm_session.proofs.loose.Stations.{Alike, hear_all_alike}
use Rattle.cbm_session.proofs.loose.Zips.{zip_both, zip_left, zip_right, zip_split, zip_join}
use Rattle.cbm_session.specs.Following.{IsInTime}
use Rattle.cbm_session.specs.Loosely.{Ignores, MayStray, Heeds, MayMake, HeedsAll, drives_of, Beside, over, both, strays, tidies, reacts}
use Rattle.cbm_session.specs.Playing.{IsLaterDue, Station, nobody, host_event, drive_events, tell, hear_all, react, shown, AllInTime, AllLater, IsFirst, reacting, IsByte, AllBytes, Plays, stays, change, reaction, at_rest}

module _ (M : Type 0) (step : M → Act → M) (peek : M → Option (ℕ × Bool)) where
  abbrev pub AreAlike : List (Station M) → List (Station M) → Type 0
  AreAlike ss ts = AllZip (λ s t. Alike M step peek s t) ss ts

  -- what is due is the same
  in_time_too : (m : ℕ) (ss ts : List (Station M)) → AreAlike ss ts → AllInTime M step peek m ss → AllInTime M step peek m ts
  in_time_too m [] [] a h = tt
  in_time_too m [] (t ∷ ts) a h = elim a [ ]
  in_time_too m (s ∷ ss) [] a h = elim a [ ]
  in_time_too m (s ∷ ss) (t ∷ ts) a h = (subst (λ (o : Option ℕ). IsInTime m o) (sym (due_alike M step peek s t a.0)) h.0, in_time_too m ss ts a.1 h.1)

  pub later_too : (m : ℕ) (ss ts : List (Station M)) → AreAlike ss ts → AllLater M step peek m ss → AllLater M step peek m ts
  later_too m [] [] a h = tt
  later_too m [] (t ∷ ts) a h = elim a [ ]
  later_too m (s ∷ ss) [] a h = elim a [ ]
  later_too m (s ∷ ss) (t ∷ ts) a h = (subst (λ (o : Option ℕ). IsLaterDue m o) (sym (due_alike M step peek s t a.0)) h.0, later_too m ss ts a.1 h.1)

  -- what the machines have to say is the same
  bytes_too : (ss ts : List (Station M)) → AreAlike ss ts → AllBytes M step peek ss → AllBytes M step peek ts
  bytes_too [] [] a h = tt
  bytes_too [] (t ∷ ts) a h = elim a [ ]
  bytes_too (s ∷ ss) [] a h = elim a [ ]
  bytes_too (s ∷ ss) (t ∷ ts) a h = (subst (λ (x : M). IsByte M step peek (peek x)) (sym a.0.machine) h.0, bytes_too ss ts a.1 h.1)

  -- they are two plays, with the same events of the drives
  pub record ArePlays (end n m : ℕ) (ss ts : List (Station M)) (es fs : List Event) : Type 0 where
    pub from : ℕ
    pub now : List (Station M)
    pub tidy_from : ℕ
    pub tidy_now : List (Station M)
    pub plays : Plays M step peek n ss es from now
    pub tidy : Plays M step peek m ts fs tidy_from tidy_now
    pub alike : AreAlike now tidy_now
    pub before : from ≤ suc end
    pub later : AllLater M step peek end now
    pub drives : drives_of fs ≡ drives_of es

  -- the events of a drive's reaction are its own
  own_events : (d : ℕ) (cs : List Change) (es fs : List Event) → drives_of fs ≡ drives_of es → drives_of (drive_events d cs ++ fs) ≡ drives_of (drive_events d cs ++ es)
  own_events d [] es fs e = e
  own_events d (c ∷ cs) es fs e = ap (λ (l : List Event). (record { who = Drive d; change = c }) ∷ l) (own_events d cs es fs e)

  heard : (cs : List Change) (ss ts : List (Station M)) → AreAlike ss ts → AllZip (λ s t. HeedsAll M step peek cs s t) ss ts → AreAlike (map (λ s. hear_all M step peek cs s) ss) (map (λ s. hear_all M step peek cs s) ts)
  heard cs ss ts a h =
      zip_both (λ s. hear_all M step peek cs s) (λ s. hear_all M step peek cs s) (λ s t. Alike M step peek s t) (λ s t. HeedsAll M step peek cs s t) (λ s t. Alike M step peek s t) (λ s t p q. hear_all_alike M step peek cs s t p q) ss ts a h

  -- the reaction that is due first is due first under both
  first_too : (t : ℕ) (before : List (Station M)) (o : Station M) (afterwards before2 : List (Station M)) (o2 : Station M) (afterwards2 : List (Station M)) → AreAlike before before2 → Alike M step peek o o2 → AreAlike afterwards afterwards2
      → IsFirst M step peek t before o afterwards → IsFirst M step peek t before2 o2 afterwards2
  first_too t before o afterwards before2 o2 afterwards2 a b c f =
      record { due = due_alike M step peek o o2 b ∙ f.due; later = later_too t before before2 a f.later; in_time = in_time_too t afterwards afterwards2 c f.in_time }

  pub plays_beside : (end : ℕ) {n m : ℕ} {ss ts : List (Station M)} {es fs : List Event} → AreAlike ss ts → Beside M step peek end n m ss ts es fs → ArePlays end n m ss ts es fs
  plays_beside end {n} {m} {ss} {ts} {es} {fs} a (over y e f l z) = record {
    from = n;
    now = ss;
    tidy_from = m;
    tidy_now = ts;
    plays = stays y e refl refl;
    tidy = stays (bytes_too ss ts a y) f refl refl;
    alike = a;
    before = l;
    later = z;
    drives = ap (λ (l : List Event). drives_of l) (f ∙ sym e);
  }
  plays_beside end {n} {m} {ss} {ts} {es} {fs} a (both c more tidied y l l2 i g e f b) =
      let k = plays_beside end (zip_both (λ s. tell M step peek c s) (λ s. tell M step peek c s) (λ s t. Alike M step peek s t) (λ s t. MayMake M step peek c.line c.way s t) (λ s t. Alike M step peek s t) (λ s t p q. made_alike M step peek c s t p q) ss ts a g) b in
      record {
        from = k.from;
        now = k.now;
        tidy_from = k.tidy_from;
        tidy_now = k.tidy_now;
        plays = change c more y l i e k.plays;
        tidy = change c tidied (bytes_too ss ts a y) l2 (in_time_too c.moment ss ts a i) f k.tidy;
        alike = k.alike;
        before = k.before;
        later = k.later;
        drives = ap (λ (l : List Event). drives_of l) f ∙ k.drives ∙ sym (ap (λ (l : List Event). drives_of l) e);
      }
  plays_beside end {n} {m} {ss} {ts} {es} {fs} a (strays c more y l i g e b) =
      let k = plays_beside end (zip_left (λ s. tell M step peek c s) (λ s t. Alike M step peek s t) (λ s t. MayStray c.line c.way s.rest.host.clock_low s.port.side t.port.side) (λ s t. Alike M step peek s t) (λ s t p q. strayed_alike M step peek c s t p q) ss ts a g) b in
      record {
        from = k.from;
        now = k.now;
        tidy_from = k.tidy_from;
        tidy_now = k.tidy_now;
        plays = change c more y l i e k.plays;
        tidy = k.tidy;
        alike = k.alike;
        before = k.before;
        later = k.later;
        drives = k.drives ∙ sym (ap (λ (l : List Event). drives_of l) e);
      }
  plays_beside end {n} {m} {ss} {ts} {es} {fs} a (tidies c tidied y l i g f b) =
      let k = plays_beside end (zip_right (λ s. tell M step peek c s) (λ s t. Alike M step peek s t) (λ s t. Ignores c.line t.rest.host.clock_low t.port.side) (λ s t. Alike M step peek s t) (λ s t p q. tidied_alike M step peek c s t p q) ss ts a g) b in
      record {
        from = k.from;
        now = k.now;
        tidy_from = k.tidy_from;
        tidy_now = k.tidy_now;
        plays = k.plays;
        tidy = change c tidied (bytes_too ss ts a y) l (in_time_too c.moment ss ts a i) f k.tidy;
        alike = k.alike;
        before = k.before;
        later = k.later;
        drives = ap (λ (l : List Event). drives_of l) f ∙ k.drives;
      }
  plays_beside end {n} {m} {ss} {ts} {es} {fs} a (reacts t before o afterwards before2 o2 afterwards2 more tidied y e e2 i g h j f f2 b) =
      let parts = zip_split (λ s t. Alike M step peek s t) (λ s u. HeedsAll M step peek (shown M step peek t o) s u) before o afterwards before2 o2 afterwards2
      (subst (λ (l : List (Station M)). AreAlike l (before2 ++ o2 ∷ afterwards2)) e (subst (λ (l : List (Station M)). AreAlike ss l) e2 a)) g in
      let r : ReactsAlike M step peek t o o2 = reacts_alike M step peek t o o2 parts.1 i.due h in
      let k = plays_beside end (subst (λ (cs : List Change). AreAlike (reacting M step peek t before o afterwards) (map (λ s. hear_all M step peek cs s) before2 ++ react M step peek t o2 ∷ map (λ s. hear_all M step peek cs s) afterwards2)) (sym r.shows)
      (zip_join (λ s t. Alike M step peek s t) (map (λ s. hear_all M step peek (shown M step peek t o) s) before) (react M step peek t o) (map (λ s. hear_all M step peek (shown M step peek t o) s) afterwards)
      (map (λ s. hear_all M step peek (shown M step peek t o) s) before2) (react M step peek t o2) (map (λ s. hear_all M step peek (shown M step peek t o) s) afterwards2)
      (heard (shown M step peek t o) before before2 parts.0 g) r.alike (heard (shown M step peek t o) afterwards afterwards2 parts.2 j))) b in
      let theirs : fs ≡ drive_events o2.port.party.device (shown M step peek t o2) ++ tidied =
      f2 ∙ ap (λ (p : Party). drive_events p.device (shown M step peek t o) ++ tidied) (sym parts.1.party) ∙ ap (λ (cs : List Change). drive_events o2.port.party.device cs ++ tidied) (sym r.shows) in
      record {
        from = k.from;
        now = k.now;
        tidy_from = k.tidy_from;
        tidy_now = k.tidy_now;
        plays = reaction t before o afterwards more y e i f k.plays;
        tidy = reaction t before2 o2 afterwards2 tidied (bytes_too ss ts a y) e2 (first_too t before o afterwards before2 o2 afterwards2 parts.0 parts.1 parts.2 i) theirs k.tidy;
        alike = k.alike;
        before = k.before;
        later = k.later;
        drives = ap (λ (l : List Event). drives_of l) f2 ∙ own_events o.port.party.device (shown M step peek t o) more tidied k.drives ∙ sym (ap (λ (l : List Event). drives_of l) f);
      }

  -- from rest
  pub rest_alike : (ms : ℕ → M) (bs : List Party) → AreAlike (at_rest M step peek ms bs) (at_rest M step peek ms bs)
  rest_alike ms [] = tt
  rest_alike ms (b ∷ bs) = (
    record { party = refl; role = refl; own = refl; machine = refl; clocks = refl; datas = refl; atn = refl; wired = refl; tidied = refl; waits = same refl; sees = tt; saw = tt },
    rest_alike ms bs,
  )
