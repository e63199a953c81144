-- What the calls of a bus and of its player give: whatever kind of machine the drives represent, and of a drive alone, on any disk, of the machine that
-- replays what the drive showed.
use Rattle.std.specs.Prelude.{ℕ, ◌+◌, ◌<◌, ◌≤◌, ◌≡◌, Bool, List, [], ◌∷◌, ◌++◌, map, Option, None, IfSome, IsSome, MatchBool, MatchOption, Result, OnOk, MatchResult}
use Rattle.std.specs.List.{AllZip}
use Rattle.cbm_session.specs.Among.{Rest}
use Rattle.cbm_drive.specs.declared.wires.Wires.{Wires}
use Rattle.cbm_iec.specs.declared.machine.Act.{Act}
use Rattle.cbm_iec.specs.declared.event.Event.{Event}
use Rattle.cbm_iec.specs.declared.event.Who.TheVariants.{Drive}
use Rattle.cbm_iec.specs.declared.lines.Change.{Change}
use Rattle.cbm_iec.specs.declared.lines.Lines.{Lines}
use Rattle.cbm_iec.specs.declared.party.Party.{Party}
use Rattle.cbm_session.specs.Handed.{AllReact}
use Rattle.cbm_session.specs.Playing.{Station, tell, told_lines, drive_events, at_rest}
use Rattle.cbm_session.specs.Sessions.{AllUnlike, IsBus}
use Rattle.cbm_drive.specs.declared.drives.Answer.{Answer}
use Rattle.cbm_drive.specs.declared.half.Half.{Half}
use Rattle.cbm_drive.specs.Cables.{Cabled, IsDueFirst}
use Rattle.cbm_drive.specs.Halves.{half_events}
use Rattle.cbm_drive.specs.Kept.{HasKept, HasKeptLoosely}
use Rattle.cbm_drive.specs.Ordered.{fault_of}
use Rattle.cbm_drive.specs.Playback.{Shown, Playback, IsPlayedBack, played_says, played_step}
use Rattle.cbm_drive.specs.Played.{HasSettled, HasPlayed, IsPlayCut, HasHanded}
use Rattle.cbm_drive.specs.Players.{Turns, pending, IsGivenBefore, IsAfter, HasAdded, HasGiven, IsStill, IsFinished}
use Rattle.cbm_drive.specs.Progress.{AreKept, left}
use Rattle.cbm_drive.specs.Reactions.{AreAtMoment, Hear, HasReacted}
use Rattle.cbm_drive.specs.Seats.{Seated, Meets, IsSeat, AreInTime, IsBusAt, IsFirstDue, Unfailed, AreCarried}
use Rattle.cbm_drive.specs.Silence.{AnyShows, AreSilent}

module _ (D M : Type 0) (stands : D → M → Type 0) (step : M → Act → M) (says : M → Option (ℕ × Bool)) where
  -- The drives of a bus are at rest, and these are their machines.
  abbrev pub IsResting : Cabled D → List Party → (ℕ → M) → Type 0
  IsResting b bs ms = IsBusAt D M stands b.host b.drives (at_rest M step says ms bs)

  -- The first reaction that changes a line has happened, and those before it, which change none; where there was none, all that were due.
  abbrev pub HasShown : Lines → ℕ → List (Seated D) → ℕ → List (Station M) → Option (ℕ × Answer) → Type 0
  HasShown host until ys n ss first = MatchOption first (HasSettled D M stands step says host until ys [] [] n ss)
      (λ r. HasSettled D M stands step says host (r.0 + 1) ys [] (drive_events r.1.device r.1.changes.items) n ss)

  -- So it is of all stations that the drives represent, if no machine failed in it.
  abbrev pub ShowsFirst : (D → ℕ) → Lines → ℕ → List (Seated D) → List (Seated D) → Option (ℕ × Answer) → Type 0
  ShowsFirst failures host limit xs ys first = Unfailed failures xs ys → (ss : List (Station M)) (n until : ℕ) → IsBusAt D M stands host xs ss → n ≤ until →
      limit ≤ until → HasShown host until ys n ss first

  -- And there is one where a machine shows one.
  abbrev pub ShowsAny : (D → ℕ) → Lines → ℕ → List (Seated D) → List (Seated D) → Option (ℕ × Answer) → Type 0
  ShowsAny failures host limit xs ys first = Unfailed failures xs ys → (ss : List (Station M)) → IsBusAt D M stands host xs ss → AnyShows M step says limit ss → IsSome first

  -- Whether a drive changes a line before a limit, if the host changes none.
  abbrev pub ForetellsShown : Cabled D → ℕ → Bool → Type 0
  ForetellsShown b limit shows = (ss : List (Station M)) → IsBusAt D M stands b.host b.drives ss → MatchBool shows (AnyShows M step says limit ss) (AreSilent M step says limit ss)

  -- The reaction that was due first has happened, of all stations that the drives represent, if no machine failed in it.
  abbrev pub ReactsFirst : (D → ℕ) → Cabled D → Cabled D → ℕ → Option Answer → Type 0
  ReactsFirst failures b c moment result = Unfailed failures b.drives c.drives → (ss : List (Station M)) → IsBusAt D M stands b.host b.drives ss →
      IsDueFirst b.drives moment → IfSome result (λ a. HasReacted D M stands step says b.host moment a.device c.drives a.changes.items ss)

  -- Drives are told what all hold now, if no machine failed in it: whatever the others held before.
  abbrev pub TellsEach : (D → ℕ) → ℕ → Wires → List (Seated D) → List (Seated D) → Type 0
  TellsEach failures moment wires xs ys = Unfailed failures xs ys → (f : Rest → Rest) (ss : List (Station M)) → AllZip (λ x s. Meets D M stands wires (f s.rest) x s) xs ss →
      AllZip (IsSeat D M stands wires) ys (map (λ s. told_lines M step says moment (f s.rest) s) ss)

  -- The drives listed before and after one that changed these lines hear each change, if none of their machines failed in it.
  abbrev pub OthersHear : (D → ℕ) → ℕ → List (Seated D) → List (Seated D) → List (Seated D) → List (Seated D) → Wires → List Change → Type 0
  OthersHear failures moment front back front' back' wires cs = Unfailed failures front front' → Unfailed failures back back' →
      Hear D M stands stands step says moment front back front' back' wires cs

  -- Whether one of these drives changes a line before a limit, whatever all hold, if the host changes none.
  abbrev pub ForetellsSeats : List (Seated D) → ℕ → Bool → Type 0
  ForetellsSeats xs limit shows = (wires : Wires) (ss : List (Station M)) → AllZip (IsSeat D M stands wires) xs ss → MatchBool shows (AnyShows M step says limit ss) (AreSilent M step says limit ss)

  -- The changes of the host were played, with all that came of them; or memory was lacking on the way.
  abbrev pub PlaysUpTo : {E : Type 0} → Lines → ℕ → List (Seated D) → List Event → List Event → List Change → List (Station M) → Result (Unit {0}) E → Type 0
  PlaysUpTo host limit ys old new cs ss result = MatchResult result (λ x. HasPlayed D M stands step says host limit ys old new cs ss)
      (λ e. IsPlayCut D M stands step says host ys old new cs ss)

  -- So it is of all stations that the drives represent, if no machine failed in it.
  abbrev pub PlaysThrough : {E : Type 0} → (D → ℕ) → Cabled D → Cabled D → ℕ → List Event → List Event → List Change → Result (Unit {0}) E → Type 0
  PlaysThrough failures b c limit old new cs result = Unfailed failures b.drives c.drives → (ss : List (Station M)) → IsBusAt D M stands b.host b.drives ss → PlaysUpTo c.host limit c.drives old new cs ss result

  -- So it is if the list is in order, too.
  abbrev pub PlaysList : {E : Type 0} → (D → ℕ) → Cabled D → Cabled D → ℕ → List Event → List Event → List Change → Result (Unit {0}) E → Type 0
  PlaysList failures b c end old new cs result = Unfailed failures b.drives c.drives → (ss : List (Station M)) → fault_of 0 0 end cs ≡ None →
      IsBusAt D M stands b.host b.drives ss → PlaysUpTo c.host (end + 1) c.drives old new cs ss result

  -- From rest, whether or not the host keeps any timing: the machine of each drive ran what the wires handed to it.
  abbrev pub HandsToEach : {E : Type 0} → (D → ℕ) → Cabled D → Cabled D → ℕ → List Event → List Event → List Change → Result (Unit {0}) E → Type 0
  HandsToEach failures b c end old new cs result = Unfailed failures b.drives c.drives → (bs : List Party) (ms : ℕ → M) → AllUnlike bs → AllReact bs → IsResting b bs ms →
      OnOk result (HasHanded D M stands step says c.host end c.drives old new cs bs ms)

  -- From rest, under a host that keeps the bus's timing: a beginning of a session in which each byte talked is the machine's answer, and no reaction is late.
  abbrev pub PlaysSessions : {E : Type 0} → (D → ℕ) → Cabled D → Cabled D → ℕ → List Event → List Event → List Change → Result (Unit {0}) E → Type 0
  PlaysSessions failures b c end old new cs result = Unfailed failures b.drives c.drives → (bs : List Party) (ms : ℕ → M) → fault_of 0 0 end cs ≡ None → IsBus bs → IsResting b bs ms →
      OnOk result (HasKept D M stands step says bs ms c.host end c.drives old new)

  -- From rest, under a host that keeps it loosely, as a computer's KERNAL does: a trace with the same events of the drives is such a beginning.
  abbrev pub PlaysLoosely : {E : Type 0} → (D → ℕ) → Cabled D → Cabled D → ℕ → List Event → List Event → List Change → Result (Unit {0}) E → Type 0
  PlaysLoosely failures b c end old new cs result = Unfailed failures b.drives c.drives → (bs : List Party) (ms : ℕ → M) → fault_of 0 0 end cs ≡ None → IsBus bs → IsResting b bs ms →
      OnOk result (HasKeptLoosely D M stands step says bs ms c.host end c.drives old new)

  -- The next event up to a moment is given; or none comes by then, and all is as it was.
  abbrev pub GivesNext : Turns → Turns → Cabled D → Cabled D → ℕ → Option Event → Type 0
  GivesNext p q b c upto result = (n : ℕ) (ss : List (Station M)) (es : List Event) → (a : IsAfter D M stands step says p b n ss es) →
      MatchOption result (IsStill D M stands step says p q b c upto a.stations) (HasGiven D M stands step says q c upto n ss es)

  -- An event up to a moment is given.
  abbrev pub GivesOne : Turns → Turns → Cabled D → Cabled D → ℕ → Option Event → Type 0
  GivesOne p q b c upto result = (n : ℕ) (ss : List (Station M)) (es : List Event) → IsAfter D M stands step says p b n ss es →
      IfSome result (HasGiven D M stands step says q c upto n ss es) × IsSome result

  -- The changes of half of a bit are the next events.
  abbrev pub GivesHalf : Turns → Turns → Cabled D → Cabled D → Option Half → Type 0
  GivesHalf p q b c result = (n : ℕ) (ss : List (Station M)) (es : List Event) → IsAfter D M stands step says p b n ss es →
      IfSome result (λ h. IsAfter D M stands step says q c n ss (es ++ half_events h))

  -- The next event up to the end is given; or all is over up to there.
  abbrev pub Finishes : Turns → Turns → Cabled D → Cabled D → ℕ → Option Event → Type 0
  Finishes p q b c upto result = (n : ℕ) (ss : List (Station M)) (es : List Event) → IsAfter D M stands step says p b n ss es →
      MatchOption result (IsFinished D M stands step says q c upto n ss es) (λ e. IsAfter D M stands step says q c n ss (es ++ e ∷ []))

  -- A change of the host comes with what is due before it, and all is added; or memory is lacking on the way, and the change hasn't come.
  abbrev pub AddsChange : {E : Type 0} → (D → ℕ) → Turns → Turns → Cabled D → Cabled D → List Event → List Event → Change → Result (Unit {0}) E → Type 0
  AddsChange failures p q b c old new change result = Unfailed failures b.drives c.drives → (n : ℕ) (ss : List (Station M)) (es : List Event) → IsAfter D M stands step says p b n ss es →
      MatchResult result (λ x. HasAdded D M stands step says q c old new (change ∷ []) n ss es) (λ e. HasAdded D M stands step says q c old new [] n ss es)

  -- What is due comes, and is added.
  abbrev pub AddsRest : (D → ℕ) → Turns → Turns → Cabled D → Cabled D → List Event → List Event → Type 0
  AddsRest failures p q b c old new = Unfailed failures b.drives c.drives → (n : ℕ) (ss : List (Station M)) (es : List Event) → IsAfter D M stands step says p b n ss es →
      HasAdded D M stands step says q c old new [] n ss es

-- A drive alone, on any disk: there is a record of what it showed after each act of the call, and so it is of the machine that replays this record.
module _ {D : Type 0} (shows : D → Shown) where
  -- The host changed a line, and the drive was told it.
  abbrev pub ToldBack : Lines → Lines → Change → List (Seated D) → List (Seated D) → Type 0
  ToldBack host now change xs ys = (trail : List Shown) × ((later : List Shown) (ss : List (Station Playback)) →
      IsBusAt D Playback (IsPlayedBack shows (trail ++ later)) host xs ss →
      IsBusAt D Playback (IsPlayedBack shows later) now ys (map (λ s. tell Playback played_step played_says change s) ss))

  -- The reaction that was due has happened.
  abbrev pub ReactedBack : Lines → ℕ → List (Seated D) → List (Seated D) → Answer → Type 0
  ReactedBack host moment xs ys a = (trail : List Shown) × ((later : List Shown) (ss : List (Station Playback)) →
      IsBusAt D Playback (IsPlayedBack shows (trail ++ later)) host xs ss →
      HasReacted D Playback (IsPlayedBack shows later) played_step played_says host moment a.device ys a.changes.items ss)

  -- The first reaction before a limit that changes a line has happened; there is one where the machine shows one.
  abbrev pub ShownBack : Lines → ℕ → List (Seated D) → List (Seated D) → Option (ℕ × Answer) → Type 0
  ShownBack host limit xs ys first = (trail : List Shown) × ((later : List Shown) (ss : List (Station Playback)) →
      IsBusAt D Playback (IsPlayedBack shows (trail ++ later)) host xs ss →
      ((n until : ℕ) → n ≤ until → limit ≤ until → HasShown D Playback (IsPlayedBack shows later) played_step played_says host until ys n ss first)
      × (AnyShows Playback played_step played_says limit ss → IsSome first))

  -- The next event up to a moment is given; or none comes by then, all is as it was, and nothing was recorded.
  abbrev pub GivesNextBack : Turns → Turns → Cabled D → Cabled D → ℕ → Option Event → Type 0
  GivesNextBack p q b c upto result = (trail : List Shown) × ((later : List Shown) (n : ℕ) (ss : List (Station Playback)) (es : List Event) →
      (a : IsAfter D Playback (IsPlayedBack shows (trail ++ later)) played_step played_says p b n ss es) →
      MatchOption result ((trail ≡ []) × IsStill D Playback (IsPlayedBack shows later) played_step played_says p q b c upto a.stations)
      (HasGiven D Playback (IsPlayedBack shows later) played_step played_says q c upto n ss es))

  -- An event up to a moment is given.
  abbrev pub GivesOneBack : Turns → Turns → Cabled D → Cabled D → ℕ → Option Event → Type 0
  GivesOneBack p q b c upto result = (trail : List Shown) × ((later : List Shown) (n : ℕ) (ss : List (Station Playback)) (es : List Event) →
      IsAfter D Playback (IsPlayedBack shows (trail ++ later)) played_step played_says p b n ss es →
      IfSome result (HasGiven D Playback (IsPlayedBack shows later) played_step played_says q c upto n ss es) × IsSome result)

  -- The changes of half of a bit are the next events, of the machine that replays what the drive shows later.
  abbrev pub GivesHalfBack : Turns → Turns → Cabled D → Cabled D → Option Half → Type 0
  GivesHalfBack p q b c result = (later : List Shown) (n : ℕ) (ss : List (Station Playback)) (es : List Event) →
      IsAfter D Playback (IsPlayedBack shows later) played_step played_says p b n ss es →
      IfSome result (λ h. IsAfter D Playback (IsPlayedBack shows later) played_step played_says q c n ss (es ++ half_events h))

  -- The next event up to the end is given; or all is over up to there.
  abbrev pub FinishesBack : Turns → Turns → Cabled D → Cabled D → ℕ → Option Event → Type 0
  FinishesBack p q b c upto result = (trail : List Shown) × ((later : List Shown) (n : ℕ) (ss : List (Station Playback)) (es : List Event) →
      IsAfter D Playback (IsPlayedBack shows (trail ++ later)) played_step played_says p b n ss es →
      MatchOption result (IsFinished D Playback (IsPlayedBack shows later) played_step played_says q c upto n ss es)
      (λ e. IsAfter D Playback (IsPlayedBack shows later) played_step played_says q c n ss (es ++ e ∷ [])))

-- ---- what a call does: of all that the drives represent, if no machine failed in it, and of a drive alone, on any disk, of the machine that replays what
-- the drive showed

module _ (D M : Type 0) (stands : D → M → Type 0) (step : M → Act → M) (says : M → Option (ℕ × Bool)) (failures : D → ℕ) (shows : D → Shown) (number : ℕ) where
  -- THE NEXT EVENT IS GIVEN, of all that the drives represent, if no machine failed in it; and of a drive alone, on any disk, of the machine that replays
  -- what the drive showed.
  pub record NextIsGiven (p q : Turns) (b c : Cabled D) (upto : ℕ) (result : Option Event) : Type 0 where
    pub given : Unfailed failures b.drives c.drives → GivesNext D M stands step says p q b c upto result
    pub recorded : number ≡ 1 → GivesNextBack shows p q b c upto result

  -- AN EVENT IS GIVEN, of either kind of machine.
  pub record OneIsGiven (p q : Turns) (b c : Cabled D) (upto : ℕ) (result : Option Event) : Type 0 where
    pub given : Unfailed failures b.drives c.drives → GivesOne D M stands step says p q b c upto result
    pub recorded : number ≡ 1 → GivesOneBack shows p q b c upto result

  -- THE NEXT EVENT IS GIVEN, OR ALL IS OVER, of either kind of machine.
  pub record LastIsGiven (p q : Turns) (b c : Cabled D) (upto : ℕ) (result : Option Event) : Type 0 where
    pub given : Unfailed failures b.drives c.drives → Finishes D M stands step says p q b c upto result
    pub recorded : number ≡ 1 → FinishesBack shows p q b c upto result

  -- THE FIRST REACTION THAT CHANGES A LINE HAS HAPPENED, of either kind of machine; there is one where a machine shows one.
  pub record FirstIsShown (host : Lines) (limit : ℕ) (xs ys : List (Seated D)) (first : Option (ℕ × Answer)) : Type 0 where
    pub played : ShowsFirst D M stands step says failures host limit xs ys first
    pub some : ShowsAny D M stands step says failures host limit xs ys first
    pub recorded : number ≡ 1 → ShownBack shows host limit xs ys first

  -- THE REACTION OF THE DRIVE AT A PLACE, which was due first, has happened, of either kind of machine.
  pub record ReactionIsMade (host : Lines) (place moment : ℕ) (xs ys : List (Seated D)) (result : Option Answer) : Type 0 where
    pub reacted : Unfailed failures xs ys → (ss : List (Station M)) → IsBusAt D M stands host xs ss → IsFirstDue xs (place, moment) →
        IfSome result (λ a. HasReacted D M stands step says host moment a.device ys a.changes.items ss)
    pub recorded : number ≡ 1 → IsFirstDue xs (place, moment) → IfSome result (ReactedBack shows host moment xs ys)

  -- THE HOST CHANGED A LINE, and the drives were told it, of either kind of machine.
  pub record ChangeIsTold (host now : Lines) (change : Change) (xs ys : List (Seated D)) : Type 0 where
    pub told : Unfailed failures xs ys → (ss : List (Station M)) → IsBusAt D M stands host xs ss → IsBusAt D M stands now ys (map (λ s. tell M step says change s) ss)
    pub recorded : number ≡ 1 → ToldBack shows host now change xs ys

module _ (D M : Type 0) (stands : D → M → Type 0) (step : M → Act → M) (says : M → Option (ℕ × Bool)) (shows : D → Shown) where
  -- HALF OF A BIT IS GIVEN, of all that the drive represents, and, on any disk, of the machine that replays what it shows later.
  pub record HalfIsGiven (p q : Turns) (b c : Cabled D) (result : Option Half) : Type 0 where
    pub given : GivesHalf D M stands step says p q b c result
    pub recorded : GivesHalfBack shows p q b c result

-- What was due of the drives before and after one that changed lines is still due, or something later, or nothing; and all of them went on.
pub record OthersGoOn {D : Type 0} (number failures : D → ℕ) (moment : ℕ) (xs ys xs' ys' : List (Seated D)) : Type 0 where
  pub front : AreKept moment xs xs'
  pub back : AreKept moment ys ys'
  pub front_carried : AreCarried number failures xs xs'
  pub back_carried : AreCarried number failures ys ys'

-- THE FIRST REACTION BEFORE A LIMIT that changes a line, and its moment, whatever the machines represent.
pub record IsFirstShown {D : Type 0} (limit : ℕ) (xs ys : List (Seated D)) (first : Option (ℕ × Answer)) : Type 0 where
  pub before : IfSome first (λ r. r.0 < limit)
  pub shows : IfSome first (λ r. r.1.changes.items ≡ [] → ⊥)
  -- All its changes come at that moment.
  pub moments : IfSome first (λ r. AreAtMoment r.0 r.1.changes.items)
  -- Where there is none, nothing is due before the limit.
  pub settled : first ≡ None → AreInTime limit ys
  -- Before each later limit less is left to happen.
  pub fewer : IfSome first (λ r. (until : ℕ) → limit ≤ until → left until ys < left until xs)

-- THE FIRST CHANGE OF A REACTION is given, if it has one, and the second one is still to be given.
pub record IsFirstGiven (p q : Turns) (moment : ℕ) (a : Answer) (result : Option Event) : Type 0 where
  pub second : IsGivenBefore (moment + 1) q.second
  pub given : MatchOption result (a.changes.items ≡ []) (λ e. drive_events a.device a.changes.items ≡ e ∷ pending q.second)
  pub drive : IfSome result (λ e. e.who ≡ Drive a.device)
  pub from : q.from ≡ moment + 1
  pub waiting : q.waiting ≡ p.waiting
  pub taken : q.taken ≡ p.taken
