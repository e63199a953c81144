-- A port with a byte to say foretells what its drive does: a machine that was told an act shows no sooner and no later.
use Rattle.std.proofs.Common.{◌≡◌, ℕ, ◌-◌, ◌<◌, ◌≤◌, length, map, arith, Bool, true, false, List, [], ◌∷◌, ◌++◌, Option, Some, None, refl, sym, subst, ◌∙◌, inl, inr}
use Rattle.std.proofs.lemmas.Bool.{eqb-true}
use Rattle.std.specs.Prelude.{◌==◌, nat_le, if◌then◌else◌, ◌%◌, ◌||◌, MatchBool}
use Rattle.cbm_iec.specs.Machines.{acted}
use Rattle.cbm_iec.specs.Ports.{port_due, reacted, reaction_act, next_role, next_held, next_side}
use Rattle.cbm_iec.specs.Hearing.{ear_row}
use Rattle.cbm_iec.specs.Speaking.{mouth_row, answer_row, after_taken, end_frame_row, set_bit_row, show_bit_row}
use Rattle.cbm_iec.specs.Table.{TableRow}
use Rattle.cbm_iec.specs.declared.machine.Act.{Act}
use Rattle.cbm_iec.specs.declared.ear.Ear.{Ear}
use Rattle.cbm_iec.specs.declared.lines.Change.{Change}
use Rattle.cbm_iec.specs.declared.lines.Held.{Held}
use Rattle.cbm_iec.specs.declared.lines.Lines.{Lines}
use Rattle.cbm_iec.specs.declared.mouth.Mouth.TheVariants.{Turned, Answering, Mute, Led, Offering, EoiOffered, EoiPulsed, Sending, Waiting, Ending, Over}
use Rattle.cbm_iec.specs.declared.mouth.Mouth.{Mouth}
use Rattle.cbm_iec.specs.declared.pace.Pace.TheVariants.{Profile, Kernal}
use Rattle.cbm_iec.specs.declared.pace.Pace.{Pace}
use Rattle.cbm_iec.specs.declared.party.Party.{Party}
use Rattle.cbm_iec.specs.declared.party.Role.{Role}
use Rattle.cbm_iec.specs.declared.port.Port.{Port}
use Rattle.cbm_iec.specs.declared.port.Side.TheVariants.{Hearing, Speaking}
use Rattle.cbm_iec.specs.declared.port.Side.{Side}
use Rattle.cbm_session.specs.Among.{Rest}
use Rattle.cbm_session.specs.Following.{IsInTime}
use Rattle.cbm_session.specs.Playing.{Station, IsLaterDue, AllInTime, react, shown, hear_all, reacting}
use Rattle.cbm_drive.proofs.Firsts.{some_same}
use Rattle.cbm_drive.proofs.Heard.{no_items, same_map}
use Rattle.cbm_drive.proofs.Reacted.{stations_in_time}
use Rattle.cbm_drive.specs.Reactions.{HasReacted}
use Rattle.cbm_drive.specs.Seats.{Seated, IsBusAt, AreInTime, wires_held_by}
use Rattle.cbm_drive.specs.Silence.{Foreseen, quiet, shows, passes, Foretold, idle, seen, over, AnyShows, AreSilent}

-- how long it is to the limit
abbrev pub time_left : ℕ → Option ℕ → ℕ
time_left limit None = 0
time_left limit (Some t) = limit - t

pub less_time : (limit t : ℕ) (was now : Option ℕ) → was ≡ Some t → t < limit → IsLaterDue t now → time_left limit now < time_left limit was
less_time limit t was now e before l = subst (λ (o : Option ℕ). time_left limit now < time_left limit o) (sym e) (by_now now l)
  where
    by_now : (o : Option ℕ) → IsLaterDue t o → time_left limit o < limit - t
    by_now None l = omega (arith, before)
    by_now (Some u) l = omega (arith, before, l)

-- a list of which it was asked whether it is empty
pub none_of : {A : Type 0} (xs : List A) (b : Bool) → b ≡ (length xs == 0) → b ≡ true → xs ≡ []
none_of xs b e f = no_items xs (eqb-true (length xs) 0 (sym e ∙ f))

pub some_of : {A : Type 0} (xs : List A) (b : Bool) → b ≡ (length xs == 0) → b ≡ false → xs ≡ [] → ⊥
some_of [] b e f g = cc
some_of (x ∷ xs) b e f g = cc

module _ (M : Type 0) (step : M → Act → M) (says : M → Option (ℕ × Bool)) where
  abbrev pub with_port : Rest → M → Port → Station M
  with_port rest m p = record { port = p; rest = rest; machine = m }

  -- a drive that hears doesn't ask for a byte
  hearing : (limit : ℕ) (peek : Option (ℕ × Bool)) (answer : Bool) (party : Party) (role : Role) (own : Held) (others : Lines) (ear : Ear) (rest : Rest) (m : M)
      → Foretold limit peek answer (record { party = party; role = role; own = own; others = others; side = Hearing ear }) → Foreseen M step says limit answer (with_port rest m (record { party = party; role = role; own = own; others = others; side = Hearing ear }))
  hearing limit peek _ party role own others ear rest m (idle l) = quiet l
  hearing limit peek _ party role own others ear rest m (seen t due before some) = shows t due before some
  hearing limit peek answer party role own others ear rest m (over t due before none more) =
      let port : Port = record { party = party; role = role; own = own; others = others; side = Hearing ear } in
      passes t due before none
      (hearing limit peek answer party (next_role port) (next_held peek port) others ((ear_row party.pace ear).next party.reaction t others) rest (acted M step (reaction_act (says m) port) m) more)

  -- nothing is due to a talker that is done
  is_over : (limit : ℕ) (peek : Option (ℕ × Bool)) (answer : Bool) (party : Party) (role : Role) (own : Held) (others : Lines) (rest : Rest) (m : M)
      → Foretold limit peek answer (record { party = party; role = role; own = own; others = others; side = Speaking Over }) → Foreseen M step says limit answer (with_port rest m (record { party = party; role = role; own = own; others = others; side = Speaking Over }))
  is_over limit peek _ party role own others rest m (idle l) = quiet l
  is_over limit peek _ party role own others rest m (seen t due before some) = absurd (cc)
  is_over limit peek answer party role own others rest m (over t due before none more) = absurd (cc)

  -- after a frame CLOCK is held, and will be freed, whatever there is to say then
  is_taken : (limit : ℕ) (peek : Option (ℕ × Bool)) (answer : Bool) (party : Party) (role : Role) (low : Bool) (others : Lines) (at_ : ℕ) (last : Bool) (rest : Rest) (m : M)
      → Foretold limit peek answer (record { party = party; role = role; own = record { clock_low = true; data_low = low }; others = others; side = Speaking (after_taken party.reaction at_ last) })
      → Foreseen M step says limit answer (with_port rest m (record { party = party; role = role; own = record { clock_low = true; data_low = low }; others = others; side = Speaking (after_taken party.reaction at_ last) }))
  is_taken limit peek _ party role low others at_ true rest m (idle l) = quiet l
  is_taken limit peek _ party role low others at_ true rest m (seen t due before some) = shows t due before some
  is_taken limit peek answer party role low others at_ true rest m (over t due before none more) = absurd (cc)
  is_taken limit peek _ party role low others at_ false rest m (idle l) = quiet l
  is_taken limit peek _ party role low others at_ false rest m (seen t due before some) = shows t due before some
  is_taken limit peek answer party role low others at_ false rest m (over t due before none more) = absurd (cc)

  -- a talker's reaction that tells its machine an act, and shows nothing
  spoken : (limit : ℕ) (peek : Option (ℕ × Bool)) (answer : Bool) (party : Party) (role : Role) (own : Held) (atn clock low : Bool) (mouth : Mouth) (rest : Rest) (m : M) (t : ℕ) (a : Act)
      → (mouth_row party.pace peek mouth).act (record { atn_low = atn; clock_low = clock; data_low = low }) ≡ Some a
      → Foretold limit peek answer (reacted t peek (record { party = party; role = role; own = own; others = record { atn_low = atn; clock_low = clock; data_low = low }; side = Speaking mouth }))
      → Foreseen M step says limit answer (with_port rest m (reacted t peek (record { party = party; role = role; own = own; others = record { atn_low = atn; clock_low = clock; data_low = low }; side = Speaking mouth })))
  spoken limit peek answer party role own atn clock low (Answering at_) rest m t a e more = answered party.pace peek e more
    where
      others : Lines
      others = record { atn_low = atn; clock_low = clock; data_low = low }

      answered : (p : Pace) (peek : Option (ℕ × Bool)) → (answer_row p peek).act others ≡ Some a
          → Foretold limit peek answer (record { party = party; role = role; own = (answer_row p peek).held own; others = others; side = Speaking ((answer_row p peek).next party.reaction t others) })
          → Foreseen M step says limit answer (with_port rest m (record { party = party; role = role; own = (answer_row p peek).held own; others = others; side = Speaking ((answer_row p peek).next party.reaction t others) }))
      answered Profile None e more = is_over limit None answer party role (record { clock_low = own.clock_low || false; data_low = false }) others rest m more
      answered Profile (Some x) e more = absurd (cc)
      answered Kernal None e more = absurd (cc)
      answered Kernal (Some x) e more = absurd (cc)
  spoken limit peek answer party role own atn clock low (Mute at_) rest m t a e more =
      is_over limit peek answer party role (record { clock_low = false; data_low = false }) (record { atn_low = atn; clock_low = clock; data_low = low }) rest m more
  spoken limit peek answer party role own atn clock low (Led at_) rest m t a e more = absurd (cc)
  spoken limit peek answer party role own atn clock low (Ending at_) rest m t a e more = absurd (cc)
  spoken limit peek answer party role own atn clock low Turned rest m t a e more = absurd (cc)
  spoken limit peek answer party role own atn clock low (Offering byte last) rest m t a e more = absurd (cc)
  spoken limit peek answer party role own atn clock low (EoiOffered byte) rest m t a e more = absurd (cc)
  spoken limit peek answer party role own atn clock low (EoiPulsed byte) rest m t a e more = absurd (cc)
  spoken limit peek answer party role own atn clock low (Waiting byte last) rest m t a e more = absurd (cc)
  spoken limit peek answer party role own atn clock low Over rest m t a e more = absurd (cc)
  spoken limit peek answer party role own atn clock low (Sending at_ byte last left half) rest m t a e more = by_half (nat_le 16 half) (half % 2 == 0) low e more
    where
      row_of : Bool → Bool → TableRow Mouth
      row_of b c = if b then end_frame_row byte last else (if c then set_bit_row party.pace byte last left half else show_bit_row party.pace byte last left half)

      by_half : (b c d : Bool) → (row_of b c).act (record { atn_low = atn; clock_low = clock; data_low = d }) ≡ Some a
          → Foretold limit peek answer (record { party = party; role = role; own = (row_of b c).held own; others = record { atn_low = atn; clock_low = clock; data_low = d }; side = Speaking ((row_of b c).next party.reaction t (record { atn_low = atn; clock_low = clock; data_low = d })) })
          → Foreseen M step says limit answer (with_port rest m (record { party = party; role = role; own = (row_of b c).held own; others = record { atn_low = atn; clock_low = clock; data_low = d }; side = Speaking ((row_of b c).next party.reaction t (record { atn_low = atn; clock_low = clock; data_low = d })) }))
      by_half true c true e more = is_taken limit peek answer party role false (record { atn_low = atn; clock_low = clock; data_low = true }) t last rest m more
      by_half true c false e more = absurd (cc)
      by_half false true d e more = absurd (cc)
      by_half false false d e more = absurd (cc)

  -- WHAT A PORT TELLS, its drive does
  pub foreseen : (limit : ℕ) (rest : Rest) (m : M) (answer : Bool) (party : Party) (role : Role) (own : Held) (others : Lines) (side : Side)
      → Foretold limit (says m) answer (record { party = party; role = role; own = own; others = others; side = side }) → Foreseen M step says limit answer (with_port rest m (record { party = party; role = role; own = own; others = others; side = side }))
  foreseen limit rest m answer party role own others (Hearing ear) h = hearing limit (says m) answer party role own others ear rest m h
  foreseen limit rest m _ party role own others (Speaking mouth) (idle l) = quiet l
  foreseen limit rest m _ party role own others (Speaking mouth) (seen t due before some) = shows t due before some
  foreseen limit rest m answer party role own others (Speaking mouth) (over t due before none more) =
      let port : Port = record { party = party; role = role; own = own; others = others; side = Speaking mouth } in
      passes t due before none
      (by_act (reaction_act (says m) port) refl (foreseen limit rest m answer party (next_role port) (next_held (says m) port) others (next_side t (says m) port) more))
    where
      by_act : (o : Option Act) → reaction_act (says m) (record { party = party; role = role; own = own; others = others; side = Speaking mouth }) ≡ o
          → Foreseen M step says limit answer (with_port rest m (reacted t (says m) (record { party = party; role = role; own = own; others = others; side = Speaking mouth })))
          → Foreseen M step says limit answer (with_port rest (acted M step (reaction_act (says m) (record { party = party; role = role; own = own; others = others; side = Speaking mouth })) m) (reacted t (says m) (record { party = party; role = role; own = own; others = others; side = Speaking mouth })))
      by_act None e go = subst (λ (o : Option Act). Foreseen M step says limit answer (with_port rest (acted M step o m) (reacted t (says m) (record { party = party; role = role; own = own; others = others; side = Speaking mouth })))) (sym e) go
      by_act (Some a) e go = spoken limit (says m) answer party role own others.atn_low others.clock_low others.data_low mouth rest (acted M step (reaction_act (says m) (record { party = party; role = role; own = own; others = others; side = Speaking mouth })) m) t a e more

  -- the same of a station
  pub foreseen_by : (limit : ℕ) (answer : Bool) (p : Port) (peek : Option (ℕ × Bool)) (s : Station M) → p ≡ s.port → peek ≡ says s.machine → Foretold limit peek answer p → Foreseen M step says limit answer s
  foreseen_by limit answer p peek s e f h =
      foreseen limit s.rest s.machine answer s.port.party s.port.role s.port.own s.port.others s.port.side (subst (λ (q : Port). Foretold limit (says s.machine) answer q) e (subst (λ (o : Option (ℕ × Bool)). Foretold limit o answer p) f h))

  -- one more drive is looked at
  pub any_more : (limit : ℕ) (s : Station M) (ss : List (Station M)) (one rest : Bool) → Foretold limit (says s.machine) one s.port → Foreseen M step says limit one s → MatchBool rest (AnyShows M step says limit ss) (AreSilent M step says limit ss)
      → MatchBool (one || rest) (AnyShows M step says limit (s ∷ ss)) (AreSilent M step says limit (s ∷ ss))
  any_more limit s ss true rest f h k = inl h
  any_more limit s ss false true f h k = inr k
  any_more limit s ss false false f h k = (f, h, k)

  -- no drive shows anything before a limit before which nothing is due
  none_due : (limit : ℕ) (s : Station M) → IsInTime limit (port_due s.port) → Foreseen M step says limit true s → ⊥
  none_due limit s l (shows t due before some) = (let at_ : limit ≤ t = subst (IsInTime limit) due l in omega (arith, at_, before))
  none_due limit s l (passes t due before none more) = (let at_ : limit ≤ t = subst (IsInTime limit) due l in omega (arith, at_, before))

  pub any_due : (limit : ℕ) (ss : List (Station M)) → AllInTime M step says limit ss → AnyShows M step says limit ss → ⊥
  any_due limit [] l h = h
  any_due limit (s ∷ ss) l (inl h) = none_due limit s l.0 h
  any_due limit (s ∷ ss) l (inr h) = any_due limit ss l.1 h

  -- a reaction that shows nothing leaves what is to be shown
  after_silence : (limit t : ℕ) (s : Station M) → port_due s.port ≡ Some t → shown M step says t s ≡ [] → Foreseen M step says limit true s → Foreseen M step says limit true (react M step says t s)
  after_silence limit t s due none (shows u due_u before some) = (let same : u ≡ t = some_same u t (port_due s.port) due_u due in absurd (some (subst (λ (v : ℕ). shown M step says v s ≡ []) (sym same) none)))
  after_silence limit t s due none (passes u due_u before none_u more) = (let same : u ≡ t = some_same u t (port_due s.port) due_u due in subst (λ (v : ℕ). Foreseen M step says limit true (react M step says v s)) same more)

  any_afterwards : (limit t : ℕ) (before afterwards : List (Station M)) (s : Station M) → port_due s.port ≡ Some t → shown M step says t s ≡ [] → AnyShows M step says limit (before ++ s ∷ afterwards)
      → AnyShows M step says limit (before ++ react M step says t s ∷ afterwards)
  any_afterwards limit t [] afterwards s due none (inl h) = inl (after_silence limit t s due none h)
  any_afterwards limit t [] afterwards s due none (inr h) = inr h
  any_afterwards limit t (x ∷ before) afterwards s due none (inl h) = inl h
  any_afterwards limit t (x ∷ before) afterwards s due none (inr h) = inr (any_afterwards limit t before afterwards s due none h)

  pub any_reacting : (limit t : ℕ) (before afterwards : List (Station M)) (s : Station M) → port_due s.port ≡ Some t → shown M step says t s ≡ [] → AnyShows M step says limit (before ++ s ∷ afterwards)
      → AnyShows M step says limit (reacting M step says t before s afterwards)
  any_reacting limit t before afterwards s due none h =
      subst (λ (cs : List Change). AnyShows M step says limit (map (λ x. hear_all M step says cs x) before ++ react M step says t s ∷ map (λ x. hear_all M step says cs x) afterwards)) (sym none)
      (subst (λ (xs : List (Station M)). AnyShows M step says limit (xs ++ react M step says t s ∷ map (λ x. x) afterwards)) (sym (same_map before))
      (subst (λ (xs : List (Station M)). AnyShows M step says limit (before ++ react M step says t s ∷ xs)) (sym (same_map afterwards)) (any_afterwards limit t before afterwards s due none h)))

module _ (D M : Type 0) (stands : D → M → Type 0) (step : M → Act → M) (says : M → Option (ℕ × Bool)) where
  -- the drives stand for stations of which one shows a change
  pub record ShowsStill (host : Lines) (limit : ℕ) (xs : List (Seated D)) : Type 0 where
    pub stations : List (Station M)
    pub now : IsBusAt D M stands host xs stations
    pub any : AnyShows M step says limit stations

  pub shows_never : (host : Lines) (limit : ℕ) (xs : List (Seated D)) → AreInTime limit xs → ShowsStill host limit xs → ⊥
  shows_never host limit xs l k = any_due M step says limit k.stations (stations_in_time D M stands step says (wires_held_by host xs) limit xs k.stations k.now l) k.any

module _ (D M : Type 0) (stood stands : D → M → Type 0) (step : M → Act → M) (says : M → Option (ℕ × Bool)) where
  -- one reaction on
  pub shows_on : (host : Lines) (limit t device : ℕ) (xs ys : List (Seated D)) (cs : List Change) → (k : ShowsStill D M stood step says host limit xs) → HasReacted D M stands step says host t device ys cs k.stations → cs ≡ [] → ShowsStill D M stands step says host limit ys
  shows_on host limit t device xs ys cs k r none = record {
    stations = reacting M step says t r.before r.station r.afterwards;
    now = r.now;
    any = any_reacting M step says limit t r.before r.afterwards r.station r.first.due (sym r.changes ∙ none) (subst (AnyShows M step says limit) r.is k.any);
  }
