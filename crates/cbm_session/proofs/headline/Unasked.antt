-- Steps that ask nothing of a machine: all but a byte said and a silence. Machines run them whatever they have to say.
use Rattle.std.proofs.Common.{ℕ, ◌+◌, Bool, true, false, not, List, [], ◌∷◌, ◌++◌, Option, Some, refl}
use Rattle.std.specs.Prelude.{if◌then◌else◌, nat_eq}
use Rattle.cbm_iec.specs.declared.machine.Act.TheVariants.{Pulled, Attention, Released, Heard, Said, Silent}
use Rattle.cbm_iec.specs.declared.machine.Act.{Act}
use Rattle.cbm_iec.specs.declared.lines.Line.TheVariants.{Clock, Data}
use Rattle.cbm_iec.specs.declared.lines.Way.TheVariants.{Pull, Free}
use Rattle.cbm_iec.specs.declared.party.Role.TheVariants.{Absent, Listener, Talker}
use Rattle.cbm_iec.specs.declared.party.Role.{Role}
use Rattle.cbm_session.proofs.among.Around.{every_append, every_each}
use Rattle.cbm_session.proofs.among.Calm.{Every}
use Rattle.cbm_session.proofs.among.Points.{each_seat}
use Rattle.cbm_session.proofs.headline.Meeting.{SaysOpen, LastSaid}
use Rattle.cbm_session.proofs.headline.TalkStates.{NoneSaid}
use Rattle.cbm_session.specs.Answers.{AnswersAct, Run, run_acts, RunEach}
use Rattle.cbm_session.specs.Bits.{where_held, where_free, BitCell, cell_steps, cells_steps, held_after, byte_in_cells}
use Rattle.cbm_session.specs.Frames.{Sent, wire, end_of, hearing, sending}
use Rattle.cbm_session.specs.Pieces.{Whole, Point, host_part, own_part, steps_of, let_go, PullPiece, Command, Byte, ToListener, ToNobody, ToTalker, Nothing, Talk}
use Rattle.cbm_session.specs.Seats.{Seat, device, reaction, is_listener, listeners}
use Rattle.cbm_session.specs.Steps.{Mark, Step, Plain, ForEach, For, with_mark, acts_for, host, drive}

abbrev pub NotSpoken : Act → Type 0
NotSpoken Pulled = Unit {0}
NotSpoken (Attention byte) = Unit {0}
NotSpoken Released = Unit {0}
NotSpoken (Heard byte eoi) = Unit {0}
NotSpoken (Said byte last) = ⊥
NotSpoken Silent = ⊥

abbrev pub UnaskedMark : Mark → Type 0
UnaskedMark Plain = Unit {0}
UnaskedMark (ForEach act) = NotSpoken act
UnaskedMark (For d act) = NotSpoken act

abbrev pub IsUnasked : Step → Type 0
IsUnasked s = UnaskedMark s.mark

-- of such steps no byte is said
act_open : (act : Act) → NotSpoken act → NoneSaid (Some act)
act_open Pulled n = tt
act_open (Attention byte) n = tt
act_open Released n = tt
act_open (Heard byte eoi) n = tt
act_open (Said byte last) n = elim n [ ]
act_open Silent n = elim n [ ]

mark_open : (mark : Mark) → UnaskedMark mark → SaysOpen mark
mark_open Plain n = tt
mark_open (ForEach act) n = act_open act n
mark_open (For d act) n = act_open act n

pub unasked_last : (ss : List Step) → Every IsUnasked ss → LastSaid ss
unasked_last [] a = tt
unasked_last (s ∷ []) a = tt
unasked_last (s ∷ t ∷ ss) a = (mark_open s.mark a.0, unasked_last (t ∷ ss) a.1)

-- the pieces that ask nothing
abbrev pub AsksNothing : Whole → Type 0
AsksNothing (PullPiece at) = Unit {0}
AsksNothing (Command f) = Unit {0}
AsksNothing (Byte eoi f) = Unit {0}
AsksNothing (ToListener at) = Unit {0}
AsksNothing (ToNobody at clock) = Unit {0}
AsksNothing (ToTalker at clock) = Unit {0}
AsksNothing (Nothing at clock freed) = ⊥
AsksNothing (Talk at f) = ⊥

held_unasked : (v : Bool) (s : Step) → IsUnasked s → Every IsUnasked (where_held v s)
held_unasked true s u = (u, tt)
held_unasked false s u = tt

free_unasked : (v : Bool) (s : Step) → IsUnasked s → Every IsUnasked (where_free v s)
free_unasked true s u = tt
free_unasked false s u = (u, tt)

cells_unasked : (held : Bool) (cs : List BitCell) → Every IsUnasked (cells_steps held cs)
cells_unasked held [] = tt
cells_unasked held (c ∷ cs) = every_append IsUnasked (cell_steps held c) (cells_steps (not c.bit) cs) (one held c.bit c.set c.free c.pull) (cells_unasked (not c.bit) cs)
  where
    one : (held bit : Bool) (set free pull : ℕ) → Every IsUnasked (cell_steps held (record { bit = bit; set = set; free = free; pull = pull }))
    one true true set free pull = (tt, (tt, (tt, tt)))
    one false true set free pull = (tt, (tt, tt))
    one true false set free pull = (tt, (tt, tt))
    one false false set free pull = (tt, (tt, (tt, tt)))

sending_unasked : (f : Sent) → Every IsUnasked (sending f)
sending_unasked f = (tt, (tt, every_append IsUnasked (cells_steps false f.cells) (where_held (held_after false f.cells) (host (end_of f) Data Free)) (cells_unasked false f.cells) (held_unasked (held_after false f.cells) (host (end_of f) Data Free) tt)))

hearing_unasked : (t : ℕ) (eoi : Bool) (act : Act) (f : Sent) (s : Seat) → NotSpoken act → Every IsUnasked (hearing t eoi act f s)
hearing_unasked t true act f s n = (tt, (tt, (tt, (n, tt))))
hearing_unasked t false act f s n = (tt, (n, tt))

host_unasked : (p : Point) (w : Whole) → AsksNothing w → Every IsUnasked (host_part p w)
host_unasked p (PullPiece at) n = (tt, every_append IsUnasked (where_free p.host.clock_low (host at Clock Pull)) (where_held p.host.data_low (host at Data Free)) (free_unasked p.host.clock_low (host at Clock Pull) tt) (held_unasked p.host.data_low (host at Data Free) tt))
host_unasked p (Command f) n = sending_unasked f
host_unasked p (Byte eoi f) n = sending_unasked f
host_unasked p (ToListener at) n = (tt, tt)
host_unasked p (ToNobody at clock) n = (tt, (tt, tt))
host_unasked p (ToTalker at clock) n = (tt, (tt, (tt, tt)))
host_unasked p (Nothing at clock freed) n = elim n [ ]
host_unasked p (Talk at f) n = elim n [ ]

own_unasked : (p : Point) (w : Whole) → AsksNothing w → (s : Seat) → Every IsUnasked (own_part p w s)
own_unasked p (PullPiece at) n s =
    every_append IsUnasked (where_held s.own.clock_low (drive (device s) (at + reaction s) Clock Free)) (where_free s.own.data_low (drive (device s) (at + reaction s) Data Pull))
    (held_unasked s.own.clock_low (drive (device s) (at + reaction s) Clock Free) tt) (free_unasked s.own.data_low (drive (device s) (at + reaction s) Data Pull) tt)
own_unasked p (Command f) n s = hearing_unasked (wire p.seats f) false (Attention (byte_in_cells f.cells)) f s tt
own_unasked p (Byte eoi f) n s = go (is_listener s.role)
  where
    go : (v : Bool) → Every IsUnasked (if v then hearing (wire (listeners p.seats) f) eoi (Heard (byte_in_cells f.cells) eoi) f s else [])
    go true = hearing_unasked (wire (listeners p.seats) f) eoi (Heard (byte_in_cells f.cells) eoi) f s tt
    go false = tt
own_unasked p (ToListener at) n s = go s.role
  where
    go : (r : Role) → Every IsUnasked (elim r as (λ q. List Step) [ Absent ↦ let_go at s | Listener ↦ [] | Talker ↦ [] ])
    go Absent = (tt, tt)
    go Listener = tt
    go Talker = tt
own_unasked p (ToNobody at clock) n s = (tt, tt)
own_unasked p (ToTalker at clock) n s = go s.role
  where
    go : (r : Role) → Every IsUnasked (elim r as (λ q. List Step) [ Absent ↦ let_go at s | Listener ↦ [] | Talker ↦ drive (device s) (clock + reaction s) Clock Pull ∷ drive (device s) (clock + reaction s) Data Free ∷ [] ])
    go Absent = (tt, tt)
    go Listener = tt
    go Talker = (tt, (tt, tt))
own_unasked p (Nothing at clock freed) n s = elim n [ ]
own_unasked p (Talk at f) n s = elim n [ ]

pub steps_unasked : (p : Point) (w : Whole) → AsksNothing w → Every IsUnasked (steps_of p w)
steps_unasked p w n = every_each IsUnasked (λ (x : Seat). own_part p w x) (host_part p w) p.seats (host_unasked p w n) (each_seat (λ x. Every IsUnasked (own_part p w x)) p.seats (own_unasked p w n))

module _ (M : Type 0) (step : M → Act → M) (peek : M → Option (ℕ × Bool)) where
  unasked_act : (m : M) (act : Act) → NotSpoken act → AnswersAct M step peek m act
  unasked_act m Pulled n = tt
  unasked_act m (Attention byte) n = tt
  unasked_act m Released n = tt
  unasked_act m (Heard byte eoi) n = tt
  unasked_act m (Said byte last) n = elim n [ ]
  unasked_act m Silent n = elim n [ ]

  -- what a machine runs, in short
  abbrev pub Runs : M → List Act → Type 0
  Runs m acts = Run M step peek m acts (run_acts M step peek m acts)

  pub runs_unasked : (d : ℕ) (m : M) (ss : List Step) → Every IsUnasked ss → Runs m (acts_for d ss)
  runs_unasked d m [] a = refl
  runs_unasked d m (s ∷ ss) a = go s.mark a.0 (λ x. runs_unasked d x ss a.1)
    where
      one : (act : Act) → NotSpoken act → ((x : M) → Runs x (acts_for d ss)) → (v : Bool) → Runs m (if v then act ∷ acts_for d ss else acts_for d ss)
      one act n more true = (unasked_act m act n, more (step m act))
      one act n more false = more m

      go : (mark : Mark) → UnaskedMark mark → ((x : M) → Runs x (acts_for d ss)) → Runs m (with_mark d mark (acts_for d ss))
      go Plain n more = more m
      go (ForEach act) n more = one act n more true
      go (For o act) n more = one act n more (nat_eq d o)

  -- one list after another, and the front of one
  pub runs_then : (m : M) (xs ys : List Act) → Runs m xs → Runs (run_acts M step peek m xs) ys → Runs m (xs ++ ys)
  runs_then m [] ys a b = b
  runs_then m (x ∷ xs) ys a b = (a.0, runs_then (step m x) xs ys a.1 b)

  pub runs_front : (m : M) (xs ys : List Act) → Runs m (xs ++ ys) → Runs m xs
  runs_front m [] ys a = refl
  runs_front m (x ∷ xs) ys a = (a.0, runs_front (step m x) xs ys a.1)

  pub each_runs : (ss : List Seat) (ms : ℕ → M) (steps : List Step) → ((d : ℕ) → Runs (ms d) (acts_for d steps)) → RunEach M step peek ss ms steps
  each_runs [] ms steps f = tt
  each_runs (s ∷ ss) ms steps f = (f (device s), each_runs ss ms steps f)
