-- Half of a bit that the drive says, while the host waits for it.
use Rattle.std.proofs.Common.{◌≡◌, inl, ℕ, ◌+◌, ◌*◌, ◌<◌, ◌≤◌, Bool, true, false, List, [], ◌∷◌, ◌++◌, length, Option, None, refl, sym, ap, ◌∙◌, subst, arith}
use Rattle.std.proofs.lemmas.List.{append_assoc, append-nil}
use Rattle.std.proofs.lemmas.Bool.Decides.{nat_tests}
use Rattle.std.specs.Prelude.{not, nat_lt, ◌==◌, if◌then◌else◌}
use Rattle.cbm_drive.specs.Cables.{Cabled}
use Rattle.cbm_drive.specs.Halves.{half_lines, half_events}
use Rattle.cbm_drive.specs.Players.{from_after, at_most, IsAfter}
use Rattle.cbm_drive.specs.declared.half.Half.{Half}
use Rattle.cbm_host.proofs.Progress.{seen_least, less_second}
use Rattle.cbm_host.specs.Engines.{Engined, at_stage, engine_due, engine_seen, engine_heard, stage_gathers}
use Rattle.cbm_host.specs.Hosted.{TakesOn}
use Rattle.cbm_host.specs.Performed.{from_last, goes, Runs}
use Rattle.cbm_host.specs.Performers.{Performing, IsHandedOn}
use Rattle.cbm_host.specs.Progress.{engine_left, more_than, left_of}
use Rattle.cbm_host.specs.Performing.{IsBefore}
use Rattle.cbm_host.specs.Stages.{take_due}
use Rattle.cbm_host.specs.Taking.{came_bit}
use Rattle.cbm_host.specs.Waits.{answer_wait}
use Rattle.cbm_host.specs.declared.due.Due.TheVariants.{Hears}
use Rattle.cbm_host.specs.declared.stage.Stage.TheVariants.{Attending, Framing, Calling, Releasing, Turning, Taking, Ending, Done}
use Rattle.cbm_host.specs.declared.stage.Stage.{Stage}
use Rattle.cbm_host.specs.declared.take.Came.{Came}
use Rattle.cbm_host.specs.declared.take.Take.TheVariants.{Awaiting, Freeing, Listening, Marking, Unmarking, Gathering, Accepting}
use Rattle.cbm_iec.specs.Ports.{changes_between}
use Rattle.cbm_iec.specs.declared.machine.Act.{Act}
use Rattle.cbm_iec.specs.declared.event.Event.{Event}
use Rattle.cbm_iec.specs.declared.event.Who.TheVariants.{Drive}
use Rattle.cbm_iec.specs.declared.lines.Change.{Change}
use Rattle.cbm_iec.specs.declared.lines.Held.{Held}
use Rattle.cbm_session.specs.Playing.{Station, drive_events}

abbrev two : Bool → Bool → Held
two clock data_low = record { clock_low = clock; data_low = data_low }

abbrev pub gathering : Came → Engined → Engined
gathering came e = at_stage (Taking (Gathering came)) e

-- bits come, one of them at least
pub in_gathering : (e : Engined) → stage_gathers e.stage ≡ true → (came : Came) × (e ≡ gathering came e) × (nat_lt came.count 8 ≡ true)
in_gathering e = by_stage e.stage refl
  where
    by_stage : (s : Stage) → e.stage ≡ s → stage_gathers s ≡ true → (came : Came) × (e ≡ gathering came e) × (nat_lt came.count 8 ≡ true)
    by_stage (Attending at p a) same g = absurd cc
    by_stage (Framing frame afterwards) same g = absurd cc
    by_stage (Calling at) same g = absurd cc
    by_stage (Releasing at r) same g = absurd cc
    by_stage (Turning until) same g = absurd cc
    by_stage (Taking Awaiting) same g = absurd cc
    by_stage (Taking (Freeing at)) same g = absurd cc
    by_stage (Taking (Listening until)) same g = absurd cc
    by_stage (Taking (Marking at)) same g = absurd cc
    by_stage (Taking (Unmarking at)) same g = absurd cc
    by_stage (Taking (Gathering came)) same g = (came, ap (λ (x : Stage). at_stage x e) same, g)
    by_stage (Taking (Accepting at byte last)) same g = absurd cc
    by_stage (Ending until) same g = absurd cc
    by_stage (Done at) same g = absurd cc

-- CLOCK is freed where it was pulled, and pulled where it was free
half_is : (h : Half) → h.now.clock_low ≡ not h.was.clock_low → half_lines h ≡ changes_between h.moment (two h.was.clock_low h.was.data_low) (two (not h.was.clock_low) h.now.data_low)
half_is h clock = ap (λ (v : Bool). changes_between h.moment h.was (two v h.now.data_low)) clock

-- ---- the host waits for the drive all the time

-- the host hears each of these changes
abbrev AreHeard : List Change → Engined → Type 0
AreHeard [] e = Unit {0}
AreHeard (c ∷ cs) e = (engine_due e ≡ Hears) × AreHeard cs (engine_seen c e)

due_freed : (v : Bool) (came : Came) → take_due (if v then Gathering (came_bit came) else Gathering came) ≡ Hears
due_freed true came = refl
due_freed false came = refl

due_pulled : (v : Bool) (t : ℕ) (came : Came) → v ≡ false → take_due (if v then Accepting (t + answer_wait) came.byte came.last else Gathering came) ≡ Hears
due_pulled true t came e = absurd cc
due_pulled false t came e = refl

are_heard : (t : ℕ) (clock was now : Bool) (came : Came) (e : Engined) → (came.count == 8) ≡ false → AreHeard (changes_between t (two clock was) (two (not clock) now)) (gathering came e)
are_heard t true false false came e more = (refl, tt)
are_heard t true false true came e more = (refl, (due_freed (nat_lt came.count 8) came, tt))
are_heard t true true false came e more = (refl, (due_freed (nat_lt came.count 8) came, tt))
are_heard t true true true came e more = (refl, tt)
are_heard t false false false came e more = (refl, tt)
are_heard t false false true came e more = (refl, (due_pulled (came.count == 8) t came more, tt))
are_heard t false true false came e more = (refl, (due_pulled (came.count == 8) t came more, tt))
are_heard t false true true came e more = (refl, tt)

half_heard : (h : Half) (e : Engined) → h.now.clock_low ≡ not h.was.clock_low → stage_gathers e.stage ≡ true → AreHeard (half_lines h) e
half_heard h e clock g =
    let k = in_gathering e g in
    let more : (k.0.count == 8) ≡ false = (let few = k.2 in grind (arith, nat_tests, few)) in
    subst (AreHeard (half_lines h)) (sym k.1) (subst (λ (cs : List Change). AreHeard cs (gathering k.0 e)) (sym (half_is h clock)) (are_heard h.moment h.was.clock_low h.was.data_low h.now.data_low k.0 e more))

-- ---- when the last change came

last_append : (t : ℕ) (es xs : List Event) → from_last t (es ++ xs) ≡ from_last (from_last t es) xs
last_append t [] xs = refl
last_append t (e ∷ es) xs = last_append (from_after e.who e.change.moment) es xs

last_half : (u t device : ℕ) (clock was now : Bool) → from_last u (drive_events device (changes_between t (two clock was) (two (not clock) now))) ≡ t + 1
last_half u t device true false false = refl
last_half u t device true false true = refl
last_half u t device true true false = refl
last_half u t device true true true = refl
last_half u t device false false false = refl
last_half u t device false false true = refl
last_half u t device false true false = refl
last_half u t device false true true = refl

last_of_half : (made : List Event) (h : Half) → h.now.clock_low ≡ not h.was.clock_low → from_last 0 (made ++ half_events h) ≡ h.moment + 1
last_of_half made h clock =
    last_append 0 made (half_events h) ∙ ap (λ (cs : List Change). from_last (from_last 0 made) (drive_events h.device cs)) (half_is h clock) ∙ last_half (from_last 0 made) h.moment h.device h.was.clock_low h.was.data_low h.now.data_low

-- ---- how much is left

heard_least : (cs : List Change) (e : Engined) → engine_left (engine_heard cs e) ≤ engine_left e
heard_least [] e = omega arith
heard_least (c ∷ cs) e = (let rest = heard_least cs (engine_seen c e) in let first = seen_least c e in omega (arith, rest, first))

pub half_falls : {D : Type 0} (cs : List Change) (p q : Performing) (b c : Cabled D) → length c.drives ≡ length b.drives → q.limit ≡ p.limit → q.engine ≡ engine_heard cs p.engine
    → at_most (p.limit + 1) q.player.second c.drives < at_most (p.limit + 1) p.player.second b.drives → left_of q c < left_of p b
half_falls cs p q b c many limit engine less =
    let least : engine_left q.engine ≤ engine_left p.engine = subst (λ (e : Engined). engine_left e ≤ engine_left p.engine) (sym engine) (heard_least cs p.engine) in
    subst (λ (l : ℕ). engine_left q.engine * more_than (l + 1) (length c.drives) + at_most (l + 1) q.player.second c.drives < left_of p b) (sym limit)
    (subst (λ (n : ℕ). engine_left q.engine * more_than (p.limit + 1) n + at_most (p.limit + 1) q.player.second c.drives < left_of p b) (sym many)
    (less_second (engine_left q.engine) (at_most (p.limit + 1) q.player.second c.drives) (engine_left p.engine) (at_most (p.limit + 1) p.player.second b.drives) (more_than (p.limit + 1) (length b.drives)) least less))

-- ---- a request goes on along them

module _ (D M : Type 0) (stands : D → M → Type 0) (step : M → Act → M) (says : M → Option (ℕ × Bool)) where
  runs_along : (ss : List (Station M)) (device : ℕ) (cs : List Change) (e e1 : Engined) (es : List Event) (bytes : List ℕ) (last : Bool) → AreHeard cs e1 → Runs M step says ss e es bytes last e1
      → Runs M step says ss e (es ++ drive_events device cs) bytes last (engine_heard cs e1)
  runs_along ss device [] e e1 es bytes last h r = subst (λ (l : List Event). Runs M step says ss e l bytes last e1) (sym (append-nil es)) r
  runs_along ss device (c ∷ cs) e e1 es bytes last h r =
      let x : Event = record { who = Drive device; change = c } in
      subst (λ (l : List Event). Runs M step says ss e l bytes last (engine_heard cs (engine_seen c e1))) (append_assoc es (x ∷ []) (drive_events device cs))
      (runs_along ss device cs e (engine_seen c e1) (es ++ x ∷ []) bytes last h.1 (goes e1 e1 x es bytes last r (inl refl) (subst (IsBefore c.moment) (sym h.0) tt) refl refl (sym (append-nil bytes)) refl))

  pub takes_half : (p q : Performing) (b c : Cabled D) (h : Half) → stage_gathers p.engine.stage ≡ true → h.now.clock_low ≡ not h.was.clock_low → q.player.waiting ≡ None → q.player.from ≡ h.moment + 1 → q.limit ≡ p.limit → q.engine ≡ engine_heard (half_lines h) p.engine
      → ((n : ℕ) (ss : List (Station M)) (es : List Event) → IsAfter D M stands step says p.player b n ss es → IsAfter D M stands step says q.player c n ss (es ++ half_events h)) → TakesOn D M stands step says p q b c
  takes_half p q b c h gathers clock waiting from limit engine after = λ e most bytes last ss t.
      let k = t.performing in
      let made = k.made ++ half_events h in
      record {
        made = made;
        performing = record {
          made = made;
          added = refl;
          going = record { after = after 0 ss k.made k.going.after; handed = subst (λ (o : Option Change). IsHandedOn o q.engine) (sym waiting) tt };
          runs = subst (Runs M step says ss e made bytes last) (sym engine) (runs_along ss h.device (half_lines h) e p.engine k.made bytes last (half_heard h p.engine clock gathers) k.runs);
          from = from ∙ sym (last_of_half k.made h clock);
          until = limit ∙ k.until;
        };
      }
