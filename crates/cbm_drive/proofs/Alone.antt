-- A drive alone on a cable, and the machine that plays back what its own shows.
use Rattle.std.proofs.Common.{◌≡◌, ℕ, zero, suc, length, ◌+◌, ◌<◌, ◌≤◌, Bool, true, false, List, [], ◌∷◌, ◌++◌, map, Option, Some, refl, sym, ap, subst, ◌∙◌, arith, inl, inr}
use Rattle.std.proofs.lemmas.List.{append_assoc}
use Rattle.std.specs.Prelude.{MatchBool}
use Rattle.std.specs.List.{AllZip}
use Rattle.cbm_iec.specs.Changes.{lines_after}
use Rattle.cbm_iec.specs.Machines.{acted}
use Rattle.cbm_iec.specs.Ports.{port_due, reacted, reaction_act, reaction_changes, told_act}
use Rattle.cbm_iec.specs.declared.machine.Act.{Act}
use Rattle.cbm_iec.specs.declared.lines.Change.{Change}
use Rattle.cbm_iec.specs.declared.lines.Held.{Held}
use Rattle.cbm_iec.specs.declared.lines.Lines.{Lines}
use Rattle.cbm_iec.specs.declared.port.Port.{Port}
use Rattle.cbm_session.specs.Among.{after_the_host}
use Rattle.cbm_session.specs.Playing.{Station, tell, hear_all, drive_events}
use Rattle.cbm_drive.specs.declared.wires.Wires.{Wires}
use Rattle.cbm_drive.specs.Playback.{Shown, Playback, played_says, played_step, IsPlayedBack, recorded}
use Rattle.cbm_drive.specs.PlayedBack.{played_as, played_byte, played_acted}
use Rattle.cbm_drive.specs.Played.{HasSettled}
use Rattle.cbm_drive.specs.Progress.{AreKept}
use Rattle.cbm_drive.specs.Reactions.{Toggles, IsAllOf, HaveHeard, HasReacted, wires_after_all, held_afterwards, after_a_change, own_after}
use Rattle.cbm_drive.specs.Recorded.{IsToldBy, ReactsBy}
use Rattle.cbm_drive.specs.Seats.{Seated, IsSeat, IsBusAt, IsFirstDue, AreInTime, pulls_counted, wires_held_by}
use Rattle.cbm_drive.specs.Silence.{AnyShows, AreSilent, Foretold, Foreseen}
use Rattle.cbm_drive.proofs.Ahead.{ShowsStill, shows_on, shows_never, foreseen_by}
use Rattle.cbm_drive.proofs.Heard.{counted_after_it}
use Rattle.cbm_drive.proofs.Played.{settled_none, settled_more, settled_to}
use Rattle.cbm_drive.proofs.Reacted.{reacts}
use Rattle.cbm_drive.proofs.Told.{told_one}

-- nobody is told
no_seats : {A B : Type 0} (R S : A → B → Type 0) (f : B → B) (bs : List B) → AllZip R [] bs → AllZip S [] (map f bs)
no_seats R S f [] h = tt
no_seats R S f (b ∷ bs) h = absurd h

lone_counts : {D : Type 0} (cs : List Change) (all : Wires) (own : Held) → Toggles own cs → IsAllOf {D = D} all own [] [] → IsAllOf {D = D} (wires_after_all cs all) (held_afterwards cs own) [] []
lone_counts [] all own t h = h
lone_counts (c ∷ cs) all own t h = lone_counts cs (after_a_change c.line c.way all) (own_after c.line c.way own) t.1 (counted_after_it c.line c.way all own [] [] [] [] t.0 h refl refl)

-- what changes on a cable with nobody else
pub heard_nobody : (D M : Type 0) (stands : D → M → Type 0) (step : M → Act → M) (says : M → Option (ℕ × Bool)) (cs : List Change) (all : Wires) (own : Held) (front back : List (Seated D)) (bs hs : List (Station M)) → front ≡ [] → back ≡ []
    → Toggles own cs → IsAllOf all own front back → AllZip (IsSeat D M stands all) front bs → AllZip (IsSeat D M stands all) back hs → HaveHeard D M stands step says (wires_after_all cs all) (held_afterwards cs own) cs front back bs hs
heard_nobody D M stands step says cs all own [] [] bs hs front back toggles counts b h = record {
  counts = lone_counts cs all own toggles counts;
  before = no_seats (IsSeat D M stands all) (IsSeat D M stands (wires_after_all cs all)) (λ s. hear_all M step says cs s) bs b;
  afterwards = no_seats (IsSeat D M stands all) (IsSeat D M stands (wires_after_all cs all)) (λ s. hear_all M step says cs s) hs h;
}
heard_nobody D M stands step says cs all own (x ∷ xs) ys bs hs front back toggles counts b h = absurd (cc)
heard_nobody D M stands step says cs all own [] (y ∷ ys) bs hs front back toggles counts b h = absurd (cc)

some_length : {A : Type 0} (xs : List A) (x : A) (ys : List A) → 1 ≤ length (xs ++ x ∷ ys)
some_length [] x ys = omega arith
some_length (y ∷ xs) x ys = omega arith

lone_due : {D : Type 0} (place t : ℕ) (x : Seated D) → IsFirstDue (x ∷ []) (place, t) → port_due x.port ≡ Some t
lone_due zero t x h = h.0
lone_due (suc n) t x h = absurd h.1

module _ {D : Type 0} (shows : D → Shown) where
  -- the drives stand for machines that play back what theirs show, and then these
  abbrev pub IsBack : List Shown → Lines → List (Seated D) → List (Station Playback) → Type 0
  IsBack later host xs ss = IsBusAt D Playback (IsPlayedBack shows later) host xs ss

  pub byte_of : (later : List Shown) (x : D) (p : Playback) (n : ℕ) (last : Bool) → IsPlayedBack shows later x p → played_says p ≡ Some (n, last) → n < 256
  byte_of later x p n last h e = played_byte shows later x p n last h e

  -- ---- a reaction

  abbrev pub Reacts : Lines → ℕ → ℕ → List (Seated D) → List (Seated D) → List Change → Type 0
  Reacts host t device xs ys cs = (trail : List Shown) × ((later : List Shown) (ss : List (Station Playback)) → IsBack (trail ++ later) host xs ss
      → HasReacted D Playback (IsPlayedBack shows later) played_step played_says host t device ys cs ss)

  reacts_here : (host : Lines) (t device : ℕ) (x y : Seated D) (cs : List Change) → device ≡ x.port.party.device → port_due x.port ≡ Some t → ReactsBy shows t x y cs → Reacts host t device (x ∷ []) (y ∷ []) cs
  reacts_here host t device x y cs which due k = (
    recorded shows (reaction_act (shows x.machine) x.port) y.machine,
    (λ later ss bus.
        subst (λ (d : ℕ). HasReacted D Playback (IsPlayedBack shows later) played_step played_says host t d (y ∷ []) cs ss) (sym which)
        (reacts D Playback (IsPlayedBack shows (recorded shows (reaction_act (shows x.machine) x.port) y.machine ++ later)) (IsPlayedBack shows later) played_step played_says host t 0 [] x y [] [] [] cs ss refl
        (λ m h. k.port ∙ ap (λ (o : Shown). reacted t o x.port) (sym (played_as shows (recorded shows (reaction_act (shows x.machine) x.port) y.machine ++ later) x.machine m h)))
        (λ m h. k.changed ∙ ap (λ (o : Shown). reaction_changes t o x.port) (sym (played_as shows (recorded shows (reaction_act (shows x.machine) x.port) y.machine ++ later) x.machine m h)))
        (λ m h. subst (λ (o : Shown). IsPlayedBack shows later y.machine (acted Playback played_step (reaction_act o x.port) m)) (sym (played_as shows (recorded shows (reaction_act (shows x.machine) x.port) y.machine ++ later) x.machine m h))
        (played_acted shows later x.machine y.machine m (reaction_act (shows x.machine) x.port) h k.machine))
        (λ own bs hs when toggles counts b h. record {
          counts = lone_counts cs (wires_held_by host (x ∷ [])) own toggles counts;
          before = no_seats (IsSeat D Playback (IsPlayedBack shows (recorded shows (reaction_act (shows x.machine) x.port) y.machine ++ later)) (wires_held_by host (x ∷ []))) (IsSeat D Playback (IsPlayedBack shows later) (wires_after_all cs (wires_held_by host (x ∷ [])))) (λ s. hear_all Playback played_step played_says cs s) bs b;
          afterwards = no_seats (IsSeat D Playback (IsPlayedBack shows (recorded shows (reaction_act (shows x.machine) x.port) y.machine ++ later)) (wires_held_by host (x ∷ []))) (IsSeat D Playback (IsPlayedBack shows later) (wires_after_all cs (wires_held_by host (x ∷ [])))) (λ s. hear_all Playback played_step played_says cs s) hs h;
        }) bus (due, tt))),
  )

  -- of the only drive
  pub reacts_alone : (host : Lines) (t device place : ℕ) (xs front : List (Seated D)) (x y : Seated D) (back front' back' : List (Seated D)) (cs : List Change) → length xs ≡ 1 → xs ≡ front ++ x ∷ back → AreKept t front front' → AreKept t back back'
      → IsFirstDue xs (place, t) → device ≡ x.port.party.device → ReactsBy shows t x y cs → Reacts host t device xs (front' ++ y ∷ back') cs
  reacts_alone host t device place xs front x y back front' back' cs one is kf kb first which k =
      subst (λ (zs : List (Seated D)). Reacts host t device zs (front' ++ y ∷ back') cs) (sym is)
      (by_parts front back front' back' (subst (λ (zs : List (Seated D)). length zs ≡ 1) is one) kf kb (subst (λ (zs : List (Seated D)). IsFirstDue zs (place, t)) is first))
    where
      by_parts : (f b f' b' : List (Seated D)) → length (f ++ x ∷ b) ≡ 1 → AreKept t f f' → AreKept t b b' → IsFirstDue (f ++ x ∷ b) (place, t) → Reacts host t device (f ++ x ∷ b) (f' ++ y ∷ b') cs
      by_parts [] [] [] [] e kf kb h = reacts_here host t device x y cs which (lone_due place t x h) k
      by_parts [] [] [] (z ∷ zs) e kf kb h = absurd kb
      by_parts [] [] (z ∷ zs) b' e kf kb h = absurd kf
      by_parts [] (z ∷ zs) f' b' e kf kb h = absurd (omega (arith, e))
      by_parts (z ∷ zs) b f' b' e kf kb h = absurd (let some = some_length zs x b in omega (arith, e, some))

  -- ---- a change of the host

  abbrev pub Tells : Change → Lines → Lines → List (Seated D) → List (Seated D) → Type 0
  Tells c host now xs ys = (trail : List Shown) × ((later : List Shown) (ss : List (Station Playback)) → IsBack (trail ++ later) host xs ss
      → IsBack later now ys (map (λ s. tell Playback played_step played_says c s) ss))

  told_here : (c : Change) (host now : Lines) (x y : Seated D) → now ≡ lines_after host c.line c.way → (k : IsToldBy shows c.moment (wires_held_by now (x ∷ [])) x y) → (later : List Shown) (ss : List (Station Playback))
      → IsBack (recorded shows (told_act k.others x.port) y.machine ++ later) host (x ∷ []) ss → IsBack later now (y ∷ []) (map (λ s. tell Playback played_step played_says c s) ss)
  told_here c host now x y e k later [] h = absurd h
  told_here c host now x y e k later (s ∷ t ∷ ss) h = absurd h.1
  told_here c host now x y e k later (s ∷ []) h =
      let b = h.0 in
      let own : y.port.own ≡ x.port.own = ap (λ (p : Port). p.own) k.port in (
        subst (λ (o : Held). IsSeat D Playback (IsPlayedBack shows later) (record { host = now; clocks = pulls_counted o.clock_low + 0; datas = pulls_counted o.data_low + 0 }) y (tell Playback played_step played_says c s)) (sym own)
            (told_one D Playback (IsPlayedBack shows (recorded shows (told_act k.others x.port) y.machine ++ later)) (IsPlayedBack shows later) played_step played_says (wires_held_by now (x ∷ [])) k.others c.moment (after_the_host c.line c.way s.rest) x y s
            k.lines k.port (λ m q. played_acted shows later x.machine y.machine m (told_act k.others x.port) q k.machine)
            (record {
              port = b.port;
              machine = b.machine;
              rest = record { host = ap (λ (l : Lines). lines_after l c.line c.way) b.rest.host ∙ sym e; clocks = b.rest.clocks; datas = b.rest.datas };
            })),
        tt,
      )

  pub tells_alone : (c : Change) (host now : Lines) (xs ys : List (Seated D)) → now ≡ lines_after host c.line c.way → length xs ≡ 1 → AllZip (λ x y. IsToldBy shows c.moment (wires_held_by now xs) x y) xs ys → Tells c host now xs ys
  tells_alone c host now [] ys e one h = absurd (omega (arith, one))
  tells_alone c host now (x ∷ z ∷ xs) ys e one h = absurd (omega (arith, one))
  tells_alone c host now (x ∷ []) [] e one h = absurd h
  tells_alone c host now (x ∷ []) (y ∷ z ∷ ys) e one h = absurd h.1
  tells_alone c host now (x ∷ []) (y ∷ []) e one h = (recorded shows (told_act h.0.others x.port) y.machine, told_here c host now x y e h.0)

  -- ---- whether one of the drives shows a change

  pub one_shows : (limit : ℕ) (later : List Shown) (all : Wires) (answer : Bool) (x : Seated D) (s : Station Playback) → Foretold limit (shows x.machine) answer x.port → IsSeat D Playback (IsPlayedBack shows later) all x s
      → Foretold limit (played_says s.machine) answer s.port × Foreseen Playback played_step played_says limit answer s
  one_shows limit later all answer x s f h =
      let same : shows x.machine ≡ played_says s.machine = sym (played_as shows later x.machine s.machine h.machine) in (
        subst (λ (p : Port). Foretold limit (played_says s.machine) answer p) h.port (subst (λ (o : Shown). Foretold limit o answer x.port) same f),
        foreseen_by Playback played_step played_says limit answer x.port (shows x.machine) s h.port same f,
      )

  -- what is said of these drives
  abbrev pub ShowsAll : ℕ → Bool → List (Seated D) → Type 0
  ShowsAll limit answer xs = (later : List Shown) (all : Wires) (ss : List (Station Playback)) → AllZip (IsSeat D Playback (IsPlayedBack shows later) all) xs ss
      → MatchBool answer (AnyShows Playback played_step played_says limit ss) (AreSilent Playback played_step played_says limit ss)

  pub shows_none : (limit : ℕ) → ShowsAll limit false []
  shows_none limit later all [] h = tt
  shows_none limit later all (s ∷ ss) h = absurd h

  pub shows_first : (limit : ℕ) (x : Seated D) (xs : List (Seated D)) → Foretold limit (shows x.machine) true x.port → ShowsAll limit true (x ∷ xs)
  shows_first limit x xs f later all [] h = absurd h
  shows_first limit x xs f later all (s ∷ ss) h = inl (one_shows limit later all true x s f h.0).1

  pub shows_rest : (limit : ℕ) (answer : Bool) (x : Seated D) (xs : List (Seated D)) → Foretold limit (shows x.machine) false x.port → ShowsAll limit answer xs → ShowsAll limit answer (x ∷ xs)
  shows_rest limit answer x xs f more later all [] h = absurd h
  shows_rest limit true x xs f more later all (s ∷ ss) h = inr (more later all ss h.1)
  shows_rest limit false x xs f more later all (s ∷ ss) h = (let one = one_shows limit later all false x s f h.0 in (one.0, one.1, more later all ss h.1))

  -- ---- reactions that show nothing, one after the other

  abbrev pub Settles : Lines → ℕ → List (Seated D) → List (Seated D) → Type 0
  Settles host limit xs ys = (trail : List Shown) × ((later : List Shown) (ss : List (Station Playback)) → IsBack (trail ++ later) host xs ss
      → ((n until : ℕ) → n ≤ until → limit ≤ until → HasSettled D Playback (IsPlayedBack shows later) played_step played_says host until ys [] [] n ss)
      × (AnyShows Playback played_step played_says limit ss → ShowsStill D Playback (IsPlayedBack shows later) played_step played_says host limit ys))

  pub settles_none : (host : Lines) (limit : ℕ) (xs : List (Seated D)) → Settles host limit xs xs
  settles_none host limit xs = (
    [],
    (λ later ss h. (
      (λ n until l m. settled_none D Playback (IsPlayedBack shows later) played_step played_says (byte_of later) host until xs [] n ss h l),
      (λ any. record { stations = ss; now = h; any = any }),
    )),
  )

  pub settles_more : (host : Lines) (limit t device : ℕ) (xs ys zs : List (Seated D)) (cs : List Change) → Settles host limit xs ys → Reacts host t device ys zs cs → t < limit → cs ≡ [] → Settles host limit xs zs
  settles_more host limit t device xs ys zs cs s r before none = (
    s.0 ++ r.0,
    (λ later ss h.
        (let start = s.1 (r.0 ++ later) ss (subst (λ (l : List Shown). IsBack l host xs ss) (append_assoc s.0 r.0 later) h) in (
          (λ n until l m.
              (let k = start.0 n until l m in
              settled_more D Playback (IsPlayedBack shows (r.0 ++ later)) (IsPlayedBack shows later) played_step played_says (byte_of (r.0 ++ later)) (byte_of later) host until t device n ys zs cs [] [] [] ss k
              (r.1 later k.stations k.now) (omega (arith, before, m)) (sym (ap (λ (v : List Change). drive_events device v) none)))),
          (λ any.
              (let k = start.1 any in
              shows_on D Playback (IsPlayedBack shows (r.0 ++ later)) (IsPlayedBack shows later) played_step played_says host limit t device ys zs cs k (r.1 later k.stations k.now) none)),
        ))),
  )

  -- the first that shows something
  pub settles_to : (host : Lines) (limit t device : ℕ) (xs ys zs : List (Seated D)) (cs : List Change) → Settles host limit xs ys → Reacts host t device ys zs cs
      → (trail : List Shown) × ((later : List Shown) (ss : List (Station Playback)) → IsBack (trail ++ later) host xs ss → (n until : ℕ) → n ≤ until → limit ≤ until
      → HasSettled D Playback (IsPlayedBack shows later) played_step played_says host (t + 1) zs [] (drive_events device cs) n ss)
  settles_to host limit t device xs ys zs cs s r = (
    s.0 ++ r.0,
    (λ later ss h n until l m.
        (let k = (s.1 (r.0 ++ later) ss (subst (λ (v : List Shown). IsBack v host xs ss) (append_assoc s.0 r.0 later) h)).0 n until l m in
        settled_to D Playback (IsPlayedBack shows (r.0 ++ later)) (IsPlayedBack shows later) played_step played_says (byte_of (r.0 ++ later)) (byte_of later) host until t device n ys zs cs ss k (r.1 later k.stations k.now))),
  )

  -- none does
  pub settles_never : (host : Lines) (limit : ℕ) (xs ys : List (Seated D)) (P : Type 0) → AreInTime limit ys → Settles host limit xs ys
      → (trail : List Shown) × ((later : List Shown) (ss : List (Station Playback)) → IsBack (trail ++ later) host xs ss
      → ((n until : ℕ) → n ≤ until → limit ≤ until → HasSettled D Playback (IsPlayedBack shows later) played_step played_says host until ys [] [] n ss)
      × (AnyShows Playback played_step played_says limit ss → P))
  settles_never host limit xs ys P quiet s = (
    s.0,
    (λ later ss h. ((s.1 later ss h).0, (λ any. absurd (shows_never D Playback (IsPlayedBack shows later) played_step played_says host limit ys quiet ((s.1 later ss h).1 any))))),
  )
