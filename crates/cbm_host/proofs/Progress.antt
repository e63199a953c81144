-- Each change of the host that is due leaves less to come, and no change of the drive and no wait leaves more.
use Rattle.std.proofs.Common.{◌≡◌, inl, inr, ℕ, zero, suc, ◌+◌, ◌-◌, ◌*◌, ◌<◌, ◌≤◌, Bool, true, false, List, [], ◌∷◌, length, Option, Some, None, refl, sym, ap, ◌∙◌, subst, arith}
use Rattle.std.specs.Prelude.{IfSome, ◌==◌, ◌||◌, nat_le, nat_lt, if◌then◌else◌}
use Rattle.std.proofs.lemmas.Bool.Decides.{nat_tests}
use Rattle.cbm_drive.specs.Cables.{Cabled}
use Rattle.cbm_drive.specs.Players.{at_most, pending, IsDrives}
use Rattle.cbm_drive.specs.Progress.{due_at, due_now, soonest, left_from, left}
use Rattle.cbm_drive.specs.Seats.{Seated, numbers}
use Rattle.cbm_iec.specs.Hearing.{is_same}
use Rattle.cbm_iec.specs.Ports.{port_due}
use Rattle.cbm_iec.specs.declared.event.Event.{Event}
use Rattle.cbm_iec.specs.declared.event.Who.TheVariants.{Host, Drive}
use Rattle.cbm_iec.specs.declared.event.Who.{Who}
use Rattle.cbm_iec.specs.declared.lines.Change.{Change}
use Rattle.cbm_iec.specs.declared.lines.Line.{Line}
use Rattle.cbm_iec.specs.declared.lines.Line.TheVariants.{Atn, Clock, Data}
use Rattle.cbm_iec.specs.declared.lines.Way.{Way}
use Rattle.cbm_iec.specs.declared.lines.Way.TheVariants.{Pull, Free}
use Rattle.cbm_host.specs.Engines.{Engined, at_stage, sending_on, accepted, took, made_at, engine_made, heard_data, heard, seen_at, engine_seen, engine_passed, engine_due}
use Rattle.cbm_host.specs.Progress.{bits_left, frame_left, sends_left, take_left, takes_left, commands_left, errand_left, afterwards_left, stage_left, engine_left, more_than, left_of, FallsBy}
use Rattle.cbm_host.specs.Performers.{Performing, engine_after}
use Rattle.cbm_host.specs.Sending.{starts_low, after_bit, bits_to_send, next_bit, frame_change, frame_made, frame_freed, frame_pulled, frame_lined}
use Rattle.cbm_host.specs.Stages.{commanding, leaving, due_of, take_due, stage_due, turned, hushed, taking_seen, stage_passed}
use Rattle.cbm_host.specs.Taking.{take_lined, came_bit}
use Rattle.cbm_host.specs.declared.commands.Commands.{Commands}
use Rattle.cbm_host.specs.declared.commands.Commands.TheVariants.{One, Two, Three}
use Rattle.cbm_host.specs.declared.due.Due.TheVariants.{Makes, Waits}
use Rattle.cbm_host.specs.declared.frame.Bits.{Bits}
use Rattle.cbm_host.specs.declared.frame.Frame.{Frame}
use Rattle.cbm_host.specs.declared.frame.Frame.TheVariants.{Readying, Ready, EoiSent, EoiHeard, Starting, Setting, Showing, Hiding, Clearing, Sent}
use Rattle.cbm_host.specs.declared.stage.Afterwards.{Afterwards}
use Rattle.cbm_host.specs.declared.stage.Afterwards.TheVariants.{Commanded, Listened}
use Rattle.cbm_host.specs.declared.stage.Errand.{Errand}
use Rattle.cbm_host.specs.declared.stage.Errand.TheVariants.{Sends, Takes, Leaves}
use Rattle.cbm_host.specs.declared.stage.Pulls.TheVariants.{PullAtn, PullClock, FreeData}
use Rattle.cbm_host.specs.declared.stage.Release.TheVariants.{AtnToNobody, ClockToNobody, DataToTalker, AtnToTalker, ClockToTalker, DataToSilent}
use Rattle.cbm_host.specs.declared.stage.Stage.{Stage}
use Rattle.cbm_host.specs.declared.stage.Stage.TheVariants.{Attending, Framing, Calling, Releasing, Turning, Taking, Ending, Done}
use Rattle.cbm_host.specs.declared.take.Take.{Take}
use Rattle.cbm_host.specs.declared.take.Take.TheVariants.{Awaiting, Freeing, Listening, Marking, Unmarking, Gathering, Accepting}

-- ---- a byte to the drive

bit_least : (t : ℕ) (b : Bits) → frame_left (next_bit t b) ≤ bits_left b.count
bit_least t b = by_count (b.count == 0) b.low (is_same b.low (starts_low b.left)) refl
  where
    by_count : (none low same : Bool) → (b.count == 0) ≡ none → frame_left (if none then (if low then Clearing t else Sent) else (if same then Showing (t + Rattle.cbm_host.specs.Waits.phase) b else Setting t b)) ≤ bits_left b.count
    by_count true true same e = omega arith
    by_count true false same e = omega arith
    by_count false low true e = let some : 1 ≤ b.count = grind (arith, nat_tests, e) in omega (arith, some)
    by_count false low false e = let some : 1 ≤ b.count = grind (arith, nat_tests, e) in omega (arith, some)

frame_less : (t : ℕ) (f : Frame) (c : Change) → frame_change f ≡ Some c → frame_left (frame_made t f) < frame_left f
frame_less t (Readying at byte eoi) c e = omega arith
frame_less t (Ready byte eoi) c e = absurd cc
frame_less t (EoiSent byte) c e = absurd cc
frame_less t (EoiHeard byte) c e = absurd cc
frame_less t (Starting at byte) c e = let k = bit_least t (bits_to_send byte) in omega (arith, k)
frame_less t (Setting at b) c e = omega arith
frame_less t (Showing at b) c e = omega arith
frame_less t (Hiding at b) c e = let k = bit_least t (after_bit b) in omega (arith, k)
frame_less t (Clearing at) c e = omega arith
frame_less t Sent c e = absurd cc

freed_least : (t : ℕ) (f : Frame) → frame_left (frame_freed t f) ≤ frame_left f
freed_least t (Readying at byte eoi) = omega arith
freed_least t (Ready byte true) = omega arith
freed_least t (Ready byte false) = omega arith
freed_least t (EoiSent byte) = omega arith
freed_least t (EoiHeard byte) = omega arith
freed_least t (Starting at byte) = omega arith
freed_least t (Setting at b) = omega arith
freed_least t (Showing at b) = omega arith
freed_least t (Hiding at b) = omega arith
freed_least t (Clearing at) = omega arith
freed_least t Sent = omega arith

pulled_least : (f : Frame) → frame_left (frame_pulled f) ≤ frame_left f
pulled_least (Readying at byte eoi) = omega arith
pulled_least (Ready byte eoi) = omega arith
pulled_least (EoiSent byte) = omega arith
pulled_least (EoiHeard byte) = omega arith
pulled_least (Starting at byte) = omega arith
pulled_least (Setting at b) = omega arith
pulled_least (Showing at b) = omega arith
pulled_least (Hiding at b) = omega arith
pulled_least (Clearing at) = omega arith
pulled_least Sent = omega arith

lined_least : (t : ℕ) (line : Line) (way : Way) (f : Frame) → frame_left (frame_lined t line way f) ≤ frame_left f
lined_least t Atn way f = omega arith
lined_least t Clock way f = omega arith
lined_least t Data Pull f = pulled_least f
lined_least t Data Free f = freed_least t f

-- ---- a byte of the drive

take_less : (t : ℕ) (take : Take) (c : Change) (e : Engined) → take_due take ≡ Makes c → engine_left (took t take e) < take_left take + takes_left e.most
take_less t Awaiting c e d = absurd cc
take_less t (Freeing at) c e d = omega arith
take_less t (Listening until) c e d = absurd cc
take_less t (Marking at) c e d = omega arith
take_less t (Unmarking at) c e d = omega arith
take_less t (Gathering g) c e d = absurd cc
take_less t (Accepting at byte last) c e d = by_last last (nat_le e.most 1) refl
  where
    by_last : (v none : Bool) → nat_le e.most 1 ≡ none → engine_left (if v || none then at_stage (leaving (t + Rattle.cbm_host.specs.Waits.answer_wait) Rattle.cbm_iec.specs.Attentions.untalk false true) e else record { stage = Taking Awaiting; left = e.left; most = e.most - 1 }) < 1 + takes_left e.most
    by_last true none k = omega arith
    by_last false true k = omega arith
    by_last false false k = let some : 2 ≤ e.most = grind (arith, nat_tests, k) in omega (arith, some)

take_least : (t : ℕ) (line : Line) (way : Way) (take : Take) → take_left (take_lined t line way take) ≤ take_left take
take_least t Atn way take = omega arith
take_least t Clock Pull Awaiting = omega arith
take_least t Clock Pull (Freeing at) = omega arith
take_least t Clock Pull (Listening until) = omega arith
take_least t Clock Pull (Marking at) = omega arith
take_least t Clock Pull (Unmarking at) = omega arith
take_least t Clock Pull (Gathering c) = by_count (c.count == 8)
  where
    by_count : (v : Bool) → take_left (if v then Accepting (t + Rattle.cbm_host.specs.Waits.answer_wait) c.byte c.last else Gathering c) ≤ 1
    by_count true = omega arith
    by_count false = omega arith
take_least t Clock Pull (Accepting at byte last) = omega arith
take_least t Clock Free Awaiting = omega arith
take_least t Clock Free (Freeing at) = omega arith
take_least t Clock Free (Listening until) = omega arith
take_least t Clock Free (Marking at) = omega arith
take_least t Clock Free (Unmarking at) = omega arith
take_least t Clock Free (Gathering c) = by_count (nat_lt c.count 8)
  where
    by_count : (v : Bool) → take_left (if v then Gathering (came_bit c) else Gathering c) ≤ 1
    by_count true = omega arith
    by_count false = omega arith
take_least t Clock Free (Accepting at byte last) = omega arith
take_least t Data way Awaiting = omega arith
take_least t Data way (Freeing at) = omega arith
take_least t Data way (Listening until) = omega arith
take_least t Data way (Marking at) = omega arith
take_least t Data way (Unmarking at) = omega arith
take_least t Data way (Gathering c) = omega arith
take_least t Data way (Accepting at byte last) = omega arith

-- ---- the stages

sent_least : (t wait most : ℕ) (left : List ℕ) → engine_left (sending_on t wait most left) ≤ sends_left left
sent_least t wait most [] = omega arith
sent_least t wait most (byte ∷ left) = omega arith

commanded_is : (t : ℕ) (commands : Commands) (errand : Errand) (e : Engined) → stage_left (commanding t (record { commands = commands; errand = errand })) e.left e.most ≡ commands_left commands + errand_left errand e.left e.most
commanded_is t (One a) errand e = omega arith
commanded_is t (Two a b) errand e = omega arith
commanded_is t (Three a b c) errand e = omega arith

-- after a change of the host that was due
pub made_less : (t : ℕ) (e : Engined) (c : Change) → engine_due e ≡ Makes c → engine_left (engine_made t e) < engine_left e
made_less t e c d = by_stage e.stage d
  where
    by_stage : (s : Stage) → stage_due s ≡ Makes c → engine_left (made_at t s e) < stage_left s e.left e.most
    by_stage (Attending at (PullAtn false data_low) a) d = omega arith
    by_stage (Attending at (PullAtn true true) a) d = omega arith
    by_stage (Attending at (PullAtn true false) a) d = let k = commanded_is t a.commands a.errand e in omega (arith, k)
    by_stage (Attending at (PullClock true) a) d = omega arith
    by_stage (Attending at (PullClock false) a) d = let k = commanded_is t a.commands a.errand e in omega (arith, k)
    by_stage (Attending at FreeData a) d = let k = commanded_is t a.commands a.errand e in omega (arith, k)
    by_stage (Framing frame afterwards) d = by_change (frame_change frame) refl d
      where
        by_change : (o : Option Change) → frame_change frame ≡ o → due_of o ≡ Makes c → engine_left (made_at t (Framing frame afterwards) e) < stage_left (Framing frame afterwards) e.left e.most
        by_change None f d = absurd cc
        by_change (Some x) f d = let k = frame_less t frame x f in omega (arith, k)
    by_stage (Calling at) d = let k = sent_least t Rattle.cbm_host.specs.Waits.ready_wait e.most e.left in omega (arith, k)
    by_stage (Releasing at AtnToNobody) d = omega arith
    by_stage (Releasing at ClockToNobody) d = omega arith
    by_stage (Releasing at DataToTalker) d = omega arith
    by_stage (Releasing at AtnToTalker) d = omega arith
    by_stage (Releasing at ClockToTalker) d = omega arith
    by_stage (Releasing at DataToSilent) d = omega arith
    by_stage (Turning until) d = absurd cc
    by_stage (Taking take) d = take_less t take c e d
    by_stage (Ending until) d = absurd cc
    by_stage (Done at) d = absurd cc

accepted_least : (t : ℕ) (afterwards : Afterwards) (e : Engined) → engine_left (accepted t afterwards e) ≤ afterwards_left afterwards e.left e.most
accepted_least t (Commanded (Some commands) errand) e = let k = commanded_is t commands errand e in omega (arith, k)
accepted_least t (Commanded None Sends) e = omega arith
accepted_least t (Commanded None Takes) e = omega arith
accepted_least t (Commanded None Leaves) e = omega arith
accepted_least t Listened e = sent_least t Rattle.cbm_host.specs.Waits.turn_wait e.most e.left

-- after a change of the drive
pub seen_least : (c : Change) (e : Engined) → engine_left (engine_seen c e) ≤ engine_left e
seen_least c e = by_stage e.stage
  where
    in_frame : (line : Line) (way : Way) (frame : Frame) (afterwards : Afterwards) → stage_left (Framing (frame_lined c.moment line way frame) afterwards) e.left e.most ≤ stage_left (Framing frame afterwards) e.left e.most
    in_frame line way frame afterwards = let k = lined_least c.moment line way frame in omega (arith, k)

    by_frame : (frame : Frame) (afterwards : Afterwards) → engine_left (heard c c.line frame afterwards e) ≤ stage_left (Framing frame afterwards) e.left e.most
    by_frame frame afterwards = by_line c.line refl
      where
        pulled : (f : Frame) → engine_left (heard_data c Pull f afterwards e) ≤ stage_left (Framing f afterwards) e.left e.most
        pulled Sent = let k = accepted_least c.moment afterwards e in omega (arith, k)
        pulled (Readying at byte eoi) = in_frame c.line c.way (Readying at byte eoi) afterwards
        pulled (Ready byte eoi) = in_frame c.line c.way (Ready byte eoi) afterwards
        pulled (EoiSent byte) = in_frame c.line c.way (EoiSent byte) afterwards
        pulled (EoiHeard byte) = in_frame c.line c.way (EoiHeard byte) afterwards
        pulled (Starting at byte) = in_frame c.line c.way (Starting at byte) afterwards
        pulled (Setting at b) = in_frame c.line c.way (Setting at b) afterwards
        pulled (Showing at b) = in_frame c.line c.way (Showing at b) afterwards
        pulled (Hiding at b) = in_frame c.line c.way (Hiding at b) afterwards
        pulled (Clearing at) = in_frame c.line c.way (Clearing at) afterwards

        by_way : (way : Way) → engine_left (heard_data c way frame afterwards e) ≤ stage_left (Framing frame afterwards) e.left e.most
        by_way Pull = pulled frame
        by_way Free = in_frame c.line c.way frame afterwards

        by_line : (line : Line) → c.line ≡ line → engine_left (heard c line frame afterwards e) ≤ stage_left (Framing frame afterwards) e.left e.most
        by_line Data same = by_way c.way
        by_line Atn same = in_frame c.line c.way frame afterwards
        by_line Clock same = in_frame c.line c.way frame afterwards

    by_stage : (s : Stage) → engine_left (seen_at c s e) ≤ stage_left s e.left e.most
    by_stage (Attending at p a) = omega arith
    by_stage (Framing frame afterwards) = by_frame frame afterwards
    by_stage (Calling at) = omega arith
    by_stage (Releasing at r) = omega arith
    by_stage (Turning until) = in_turn c.line c.way
      where
        in_turn : (line : Line) (way : Way) → stage_left (turned line way until) e.left e.most ≤ 5 + takes_left e.most
        in_turn Atn way = omega arith
        in_turn Clock Pull = omega arith
        in_turn Clock Free = omega arith
        in_turn Data way = omega arith
    by_stage (Taking take) = in_take take
      where
        -- a byte that doesn't come leaves the last attention
        freed : (line : Line) (way : Way) (at : ℕ) → stage_left (hushed c line way at) e.left e.most ≤ 5 + takes_left e.most
        freed Data Free at = omega arith
        freed Data Pull at = let k = take_least c.moment c.line c.way (Freeing at) in omega (arith, k)
        freed Atn way at = let k = take_least c.moment c.line c.way (Freeing at) in omega (arith, k)
        freed Clock way at = let k = take_least c.moment c.line c.way (Freeing at) in omega (arith, k)

        in_take : (take : Take) → stage_left (taking_seen c take) e.left e.most ≤ take_left take + takes_left e.most
        in_take (Freeing at) = freed c.line c.way at
        in_take Awaiting = let k = take_least c.moment c.line c.way Awaiting in omega (arith, k)
        in_take (Listening until) = let k = take_least c.moment c.line c.way (Listening until) in omega (arith, k)
        in_take (Marking at) = let k = take_least c.moment c.line c.way (Marking at) in omega (arith, k)
        in_take (Unmarking at) = let k = take_least c.moment c.line c.way (Unmarking at) in omega (arith, k)
        in_take (Gathering g) = let k = take_least c.moment c.line c.way (Gathering g) in omega (arith, k)
        in_take (Accepting at byte last) = let k = take_least c.moment c.line c.way (Accepting at byte last) in omega (arith, k)
    by_stage (Ending until) = omega arith
    by_stage (Done at) = omega arith

-- after a wait, where the host goes on by itself
no_wait : (o : Option Change) (until : ℕ) → due_of o ≡ Waits until → ⊥
no_wait None until d = cc
no_wait (Some c) until d = cc

pub passed_less : (e : Engined) (until : ℕ) (c : Change) → engine_due e ≡ Waits until → engine_due (engine_passed e) ≡ Makes c → engine_left (engine_passed e) < engine_left e
passed_less e until c d after = by_stage e.stage d after
  where
    by_stage : (s : Stage) → stage_due s ≡ Waits until → stage_due (stage_passed s) ≡ Makes c → stage_left (stage_passed s) e.left e.most < stage_left s e.left e.most
    by_stage (Attending at p a) d after = absurd cc
    by_stage (Framing frame afterwards) d after = absurd (no_wait (frame_change frame) until d)
    by_stage (Calling at) d after = absurd cc
    by_stage (Releasing at r) d after = absurd cc
    by_stage (Turning u) d after = omega arith
    by_stage (Taking Awaiting) d after = absurd cc
    by_stage (Taking (Freeing at)) d after = absurd cc
    by_stage (Taking (Listening u)) d after = omega arith
    by_stage (Taking (Marking at)) d after = absurd cc
    by_stage (Taking (Unmarking at)) d after = absurd cc
    by_stage (Taking (Gathering g)) d after = absurd cc
    by_stage (Taking (Accepting at byte last)) d after = absurd cc
    by_stage (Ending u) d after = absurd cc
    by_stage (Done at) d after = absurd cc

-- ---- the drives' changes between two of the host

pending_few : (o : Option Event) → length (pending o) ≤ 1
pending_few None = omega arith
pending_few (Some e) = omega arith

module _ {D : Type 0} where
  due_few : (t : ℕ) (xs : List (Seated D)) → due_now t xs ≤ length xs
  due_few t [] = omega arith
  due_few t (x ∷ xs) = let one = by_due (port_due x.port) in let rest = due_few t xs in omega (arith, one, rest)
    where
      by_one : (v : Bool) → (if v then 1 else 0) ≤ 1
      by_one true = omega arith
      by_one false = omega arith

      by_due : (o : Option ℕ) → due_at t o ≤ 1
      by_due None = omega arith
      by_due (Some u) = by_one (t == u)

  left_few : (limit : ℕ) (xs : List (Seated D)) (o : Option ℕ) → left_from limit xs o ≤ 5 * limit + length xs
  left_few limit xs None = omega arith
  left_few limit xs (Some t) = let k = due_few t xs in omega (arith, k)

  pub most_few : (limit : ℕ) (second : Option Event) (xs : List (Seated D)) → at_most limit second xs < more_than limit (length xs)
  most_few limit second xs = let k = left_few limit xs (soonest xs) in let p = pending_few second in omega (arith, k, p)

-- ---- both together

times_more : (a c k : ℕ) → a < c → a * k + k ≤ c * k
times_more a zero k h = absurd (omega arith)
times_more zero (suc c) k h = grind arith
times_more (suc a) (suc c) k h = let r = times_more a c k (omega (arith, h)) in grind (arith, r)

-- a change of the host
pub less_first : (a b c d k : ℕ) → a < c → b < k → a * k + b < c * k + d
less_first a b c d k first small = let m = times_more a c k first in omega (arith, m, small)

times_least : (a c k : ℕ) → a ≤ c → a * k ≤ c * k
times_least zero c k h = grind arith
times_least (suc a) zero k h = absurd (omega (arith, h))
times_least (suc a) (suc c) k h = let r = times_least a c k (omega (arith, h)) in grind (arith, r)

-- one of the drive
pub less_second : (a b c d k : ℕ) → a ≤ c → b < d → a * k + b < c * k + d
less_second a b c d k first second = let m = times_least a c k first in omega (arith, m, second)

-- ---- an event, of which the engine is told

module _ {D : Type 0} where
  pub falls_told : (w : Who) (change : Change) (old mid new : Performing) (b c : Cabled D) → length c.drives ≡ length b.drives → FallsBy w old mid b c → mid.limit ≡ old.limit
      → new.player ≡ mid.player → new.limit ≡ mid.limit → new.engine ≡ engine_after w change mid.engine → left_of new c < left_of old b
  falls_told w change old mid new b c many falls same player limit engine =
      subst (λ (e : Engined). engine_left e * more_than (new.limit + 1) (length c.drives) + at_most (new.limit + 1) new.player.second c.drives < left_of old b) (sym engine)
      (subst (λ (x : Rattle.cbm_drive.specs.Players.Turns). engine_left (engine_after w change mid.engine) * more_than (new.limit + 1) (length c.drives) + at_most (new.limit + 1) x.second c.drives < left_of old b) (sym player)
      (subst (λ (l : ℕ). engine_left (engine_after w change mid.engine) * more_than (l + 1) (length c.drives) + at_most (l + 1) mid.player.second c.drives < left_of old b) (sym (limit ∙ same)) (subst (λ (n : ℕ). engine_left (engine_after w change mid.engine) * more_than (old.limit + 1) n + at_most (old.limit + 1) mid.player.second c.drives < left_of old b) (sym many) (by_who w falls))))
    where
      small : at_most (old.limit + 1) mid.player.second c.drives < more_than (old.limit + 1) (length b.drives)
      small = subst (λ (n : ℕ). at_most (old.limit + 1) mid.player.second c.drives < more_than (old.limit + 1) n) many (most_few (old.limit + 1) mid.player.second c.drives)

      by_who : (w : Who) → FallsBy w old mid b c → engine_left (engine_after w change mid.engine) * more_than (old.limit + 1) (length b.drives) + at_most (old.limit + 1) mid.player.second c.drives < left_of old b
      by_who Host f =
          let less = made_less change.moment mid.engine f.0 f.1 in
          let most = f.2 in
          less_first (engine_left (engine_made change.moment mid.engine)) (at_most (old.limit + 1) mid.player.second c.drives) (engine_left old.engine) (at_most (old.limit + 1) old.player.second b.drives) (more_than (old.limit + 1) (length b.drives)) (omega (arith, less, most)) small
      by_who (Drive d) f =
          let least = seen_least change mid.engine in
          elim f [
            | inl first ↦ less_first (engine_left (engine_seen change mid.engine)) (at_most (old.limit + 1) mid.player.second c.drives) (engine_left old.engine) (at_most (old.limit + 1) old.player.second b.drives) (more_than (old.limit + 1) (length b.drives)) (omega (arith, least, first)) small
            | inr second ↦ (let most = second.0 in less_second (engine_left (engine_seen change mid.engine)) (at_most (old.limit + 1) mid.player.second c.drives) (engine_left old.engine) (at_most (old.limit + 1) old.player.second b.drives) (more_than (old.limit + 1) (length b.drives)) (omega (arith, least, most)) second.1)
          ]

  -- a change of the drive, and one of the host that was due
  pub falls_drive : (w : Who) (old new : Performing) (b c : Cabled D) → IsDrives w → new.engine ≡ old.engine → at_most (old.limit + 1) new.player.second c.drives < at_most (old.limit + 1) old.player.second b.drives → FallsBy w old new b c
  falls_drive Host old new b c h engine less = elim h [ ]
  falls_drive (Drive d) old new b c h engine less = inr (let same = ap engine_left engine in omega (arith, same), less)

  pub falls_due : (w : Who) (old mid new : Performing) (b c : Cabled D) (change : Change) → engine_due old.engine ≡ Makes change → new.engine ≡ old.engine → mid.player.second ≡ old.player.second → mid.limit ≡ old.limit
      → (IsDrives w → at_most (mid.limit + 1) new.player.second c.drives < at_most (mid.limit + 1) mid.player.second b.drives) → FallsBy w old new b c
  falls_due Host old mid new b c change due engine second limit less = (change, ap engine_due engine ∙ due, (let same = ap engine_left engine in omega (arith, same)))
  falls_due (Drive d) old mid new b c change due engine second limit less =
      inr (
        let same = ap engine_left engine in omega (arith, same),
        subst (λ (l : ℕ). at_most (l + 1) new.player.second c.drives < at_most (l + 1) old.player.second b.drives) limit
            (subst (λ (x : Option Event). at_most (mid.limit + 1) new.player.second c.drives < at_most (mid.limit + 1) x b.drives) second (less tt)),
      )

  -- and one of them after a wait
  pub falls_waited : (w : Who) (old mid new : Performing) (b m c : Cabled D) (until : ℕ) (change : Change) → engine_due old.engine ≡ Waits until → mid.engine ≡ engine_passed old.engine → engine_due mid.engine ≡ Makes change → FallsBy w mid new m c → FallsBy w old new b c
  falls_waited w old mid new b m c until change waits passed due falls = by_who w falls
    where
      first : engine_left mid.engine < engine_left old.engine
      first = let k = passed_less old.engine until change waits (sym (ap engine_due passed) ∙ due) in let same = ap engine_left passed in omega (arith, k, same)

      by_who : (w : Who) → FallsBy w mid new m c → FallsBy w old new b c
      by_who Host f = (f.0, f.1, (let k = f.2 in let l = first in omega (arith, k, l)))
      by_who (Drive d) f = inl (elim f [ inl k ↦ (let l = first in omega (arith, k, l)) | inr k ↦ (let h = k.0 in let l = first in omega (arith, h, l)) ])

  -- the same of what comes, if anything does
  pub fall_due : (o : Option Event) (old mid new : Performing) (b c : Cabled D) (change : Change) → engine_due old.engine ≡ Makes change → new.engine ≡ old.engine → mid.player.second ≡ old.player.second → mid.limit ≡ old.limit
      → IfSome o (λ e. IsDrives e.who → at_most (mid.limit + 1) new.player.second c.drives < at_most (mid.limit + 1) mid.player.second b.drives) → IfSome o (λ e. FallsBy e.who old new b c)
  fall_due None old mid new b c change due engine second limit less = tt
  fall_due (Some e) old mid new b c change due engine second limit less = falls_due e.who old mid new b c change due engine second limit less

  pub fall_waited : (o : Option Event) (old mid new : Performing) (b m c : Cabled D) (until : ℕ) (change : Change) → engine_due old.engine ≡ Waits until → mid.engine ≡ engine_passed old.engine → engine_due mid.engine ≡ Makes change
      → IfSome o (λ e. FallsBy e.who mid new m c) → IfSome o (λ e. FallsBy e.who old new b c)
  fall_waited None old mid new b m c until change waits passed due falls = tt
  fall_waited (Some e) old mid new b m c until change waits passed due falls = falls_waited e.who old mid new b m c until change waits passed due falls

  -- as many drives
  count_of : (number : D → ℕ) (xs : List (Seated D)) → length (numbers number xs) ≡ length xs
  count_of number [] = refl
  count_of number (x ∷ xs) = ap suc (count_of number xs)

  pub as_many : (number : D → ℕ) (xs ys : List (Seated D)) → numbers number ys ≡ numbers number xs → length ys ≡ length xs
  as_many number xs ys e = sym (count_of number ys) ∙ ap (λ (l : List ℕ). length l) e ∙ count_of number xs
