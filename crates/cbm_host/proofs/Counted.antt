-- What counts in the pieces of a request.
use Rattle.cbm_iec.specs.Profile.{bit_time}
use Rattle.std.proofs.Common.{◌≡◌, ℕ, ◌+◌, ◌≤◌, Bool, true, false, not, List, [], ◌∷◌, ◌++◌, Option, Some, None, refl, ap, ◌∙◌, arith}
use Rattle.std.specs.Prelude.{if◌then◌else◌}
use Rattle.cbm_iec.specs.declared.machine.Act.TheVariants.{Pulled, Attention, Heard, Said}
use Rattle.cbm_iec.specs.declared.machine.Act.{Act}
use Rattle.cbm_iec.specs.declared.event.Who.TheVariants.{Host, Drive}
use Rattle.cbm_iec.specs.declared.event.Who.{Who}
use Rattle.cbm_iec.specs.declared.lines.Line.TheVariants.{Atn, Clock, Data}
use Rattle.cbm_iec.specs.declared.lines.Way.TheVariants.{Pull, Free}
use Rattle.cbm_iec.specs.declared.lines.Held.{Held}
use Rattle.cbm_iec.specs.declared.party.Party.{Party}
use Rattle.cbm_iec.specs.declared.party.Role.TheVariants.{Listener}
use Rattle.cbm_session.proofs.joining.OneDrive.{one_frame, one_told, frame_is, pull_is}
use Rattle.cbm_session.proofs.reading.PieceReadings.{seat}
use Rattle.cbm_session.specs.Bits.{where_held, where_free, BitCell, cell_steps, cells_steps, held_after, byte_in_cells, number_of}
use Rattle.cbm_session.specs.Following.{alone}
use Rattle.cbm_session.specs.Frames.{Sent, Told, end_of, signal_steps, bit_steps, first_bit, is_last}
use Rattle.cbm_session.specs.Pieces.{Point, steps_of, PullPiece, Command, Byte}
use Rattle.cbm_session.specs.Seats.{Seat, device, reaction}
use Rattle.cbm_session.specs.Steps.{Mark, Step, Plain, ForEach, For, host, drive, for_one, with_mark, acts_for}
use Rattle.cbm_host.proofs.Along.{said_with, taken_in, last_in}
use Rattle.cbm_host.proofs.Frames.{cells_fit}
use Rattle.cbm_host.specs.Framed.{frame_for}
use Rattle.cbm_host.specs.Performed.{taken_with, last_with}

-- the steps with which something counts: who made them, and their marks
abbrev pub with_who : Who → Mark → List (Who × Mark) → List (Who × Mark)
with_who w Plain ms = ms
with_who w (ForEach act) ms = (w, ForEach act) ∷ ms
with_who w (For d act) ms = (w, For d act) ∷ ms

abbrev pub marks_of : List Step → List (Who × Mark)
marks_of [] = []
marks_of (s ∷ ss) = with_who s.event.who s.mark (marks_of ss)

-- what they come to: acts, and bytes that the host takes
abbrev pub acts_from : ℕ → List (Who × Mark) → List Act
acts_from d [] = []
acts_from d (m ∷ ms) = with_mark d m.1 (acts_from d ms)

abbrev pub taken_from : List (Who × Mark) → List ℕ
taken_from [] = []
taken_from (m ∷ ms) = taken_with (said_with m.0 m.1) ++ taken_from ms

abbrev pub last_from : Bool → List (Who × Mark) → Bool
last_from last [] = last
last_from last (m ∷ ms) = last_from (last_with (said_with m.0 m.1) last) ms

with_append : (w : Who) (m : Mark) (ms ns : List (Who × Mark)) → with_who w m (ms ++ ns) ≡ with_who w m ms ++ ns
with_append w Plain ms ns = refl
with_append w (ForEach act) ms ns = refl
with_append w (For d act) ms ns = refl

pub marks_append : (xs ys : List Step) → marks_of (xs ++ ys) ≡ marks_of xs ++ marks_of ys
marks_append [] ys = refl
marks_append (x ∷ xs) ys = ap (λ (l : List (Who × Mark)). with_who x.event.who x.mark l) (marks_append xs ys) ∙ with_append x.event.who x.mark (marks_of xs) (marks_of ys)

-- acts and bytes are those of the marks
mark_acts : (d : ℕ) (w : Who) (m : Mark) (ms : List (Who × Mark)) → with_mark d m (acts_from d ms) ≡ acts_from d (with_who w m ms)
mark_acts d w Plain ms = refl
mark_acts d w (ForEach act) ms = refl
mark_acts d w (For o act) ms = refl

pub acts_are : (d : ℕ) (ss : List Step) → acts_for d ss ≡ acts_from d (marks_of ss)
acts_are d [] = refl
acts_are d (s ∷ ss) = ap (λ (l : List Act). with_mark d s.mark l) (acts_are d ss) ∙ mark_acts d s.event.who s.mark (marks_of ss)

mark_taken : (w : Who) (m : Mark) (ms : List (Who × Mark)) → taken_with (said_with w m) ++ taken_from ms ≡ taken_from (with_who w m ms)
mark_taken Host Plain ms = refl
mark_taken (Drive d) Plain ms = refl
mark_taken w (ForEach act) ms = refl
mark_taken w (For o act) ms = refl

pub taken_are : (ss : List Step) → taken_in ss ≡ taken_from (marks_of ss)
taken_are [] = refl
taken_are (s ∷ ss) = ap (λ (l : List ℕ). taken_with (said_with s.event.who s.mark) ++ l) (taken_are ss) ∙ mark_taken s.event.who s.mark (marks_of ss)

mark_last : (w : Who) (m : Mark) (last : Bool) (ms : List (Who × Mark)) → last_from (last_with (said_with w m) last) ms ≡ last_from last (with_who w m ms)
mark_last Host Plain last ms = refl
mark_last (Drive d) Plain last ms = refl
mark_last w (ForEach act) last ms = refl
mark_last w (For o act) last ms = refl

pub last_are : (last : Bool) (ss : List Step) → last_in last ss ≡ last_from last (marks_of ss)
last_are last [] = refl
last_are last (s ∷ ss) = last_are (last_with (said_with s.event.who s.mark) last) ss ∙ mark_last s.event.who s.mark last (marks_of ss)

-- ---- each piece

held_none : (v : Bool) (s : Step) → s.mark ≡ Plain → marks_of (where_held v s) ≡ []
held_none true s e = ap (λ (m : Mark). with_who s.event.who m []) e
held_none false s e = refl

cells_none : (held : Bool) (cs : List BitCell) → marks_of (cells_steps held cs) ≡ []
cells_none held [] = refl
cells_none held (c ∷ cs) = marks_append (cell_steps held c) (cells_steps (not c.bit) cs) ∙ ap (λ (l : List (Who × Mark)). l ++ marks_of (cells_steps (not c.bit) cs)) (one held c.bit c.set c.free c.pull) ∙ cells_none (not c.bit) cs
  where
    one : (held bit : Bool) (set free pull : ℕ) → marks_of (cell_steps held (record { bit = bit; set = set; free = free; pull = pull })) ≡ []
    one true true set free pull = refl
    one false true set free pull = refl
    one true false set free pull = refl
    one false false set free pull = refl

pub bits_none : (b : Party) (at : ℕ) (held : Bool) (bits : List Bool) → marks_of (bit_steps b at held bits) ≡ []
bits_none b at true [] = refl
bits_none b at false [] = refl
bits_none b at true (true ∷ bits) = bits_none b (at + bit_time b.pace) false bits
bits_none b at false (true ∷ bits) = bits_none b (at + bit_time b.pace) false bits
bits_none b at true (false ∷ bits) = bits_none b (at + bit_time b.pace) true bits
bits_none b at false (false ∷ bits) = bits_none b (at + bit_time b.pace) true bits

-- a frame of the host counts as one act
frame_marks : (t : ℕ) (s : Seat) (eoi : Bool) (act : Act) (f : Sent) → marks_of (one_frame t s eoi act f) ≡ (Drive (device s), For (device s) act) ∷ []
frame_marks t s eoi act f = by_pulse eoi
  where
    tail : List Step
    tail = host f.start Clock Pull ∷ (cells_steps false f.cells ++ where_held (held_after false f.cells) (host (end_of f) Data Free))

    accept : Step
    accept = for_one (device s) act (drive (device s) (end_of f + reaction s) Data Pull)

    tail_none : marks_of (host f.start Clock Pull ∷ (cells_steps false f.cells ++ where_held (held_after false f.cells) (host (end_of f) Data Free))) ≡ []
    tail_none =
        marks_append (cells_steps false f.cells) (where_held (held_after false f.cells) (host (end_of f) Data Free))
        ∙ ap (λ (l : List (Who × Mark)). l ++ marks_of (where_held (held_after false f.cells) (host (end_of f) Data Free))) (cells_none false f.cells)
        ∙ held_none (held_after false f.cells) (host (end_of f) Data Free) refl

    all : marks_of ((host f.start Clock Pull ∷ (cells_steps false f.cells ++ where_held (held_after false f.cells) (host (end_of f) Data Free))) ++ for_one (device s) act (drive (device s) (end_of f + reaction s) Data Pull) ∷ []) ≡ (Drive (device s), For (device s) act) ∷ []
    all =
        marks_append (host f.start Clock Pull ∷ (cells_steps false f.cells ++ where_held (held_after false f.cells) (host (end_of f) Data Free))) (for_one (device s) act (drive (device s) (end_of f + reaction s) Data Pull) ∷ [])
        ∙ ap (λ (l : List (Who × Mark)). l ++ (Drive (device s), For (device s) act) ∷ []) tail_none

    by_pulse : (v : Bool) → marks_of (one_frame t s v act f) ≡ (Drive (device s), For (device s) act) ∷ []
    by_pulse true = all
    by_pulse false = all

pub pull_marks : (p : Point) (s : Seat) (at : ℕ) → marks_of (steps_of (alone p s) (PullPiece at)) ≡ (Host, ForEach Pulled) ∷ []
pull_marks p s at = ap (λ (l : List Step). marks_of l) (pull_is (alone p s) s at) ∙ go p.host.clock_low p.host.data_low s.own.clock_low s.own.data_low
  where
    go : (a b c e : Bool) → marks_of ((Rattle.cbm_session.specs.Steps.for_each Pulled (host at Atn Pull) ∷ (where_free a (host at Clock Pull) ++ where_held b (host at Data Free))) ++ (where_held c (drive (device s) (at + reaction s) Clock Free) ++ where_free e (drive (device s) (at + reaction s) Data Pull))) ≡ (Host, ForEach Pulled) ∷ []
    go true true true true = refl
    go true true true false = refl
    go true true false true = refl
    go true true false false = refl
    go true false true true = refl
    go true false true false = refl
    go true false false true = refl
    go true false false false = refl
    go false true true true = refl
    go false true true false = refl
    go false true false true = refl
    go false true false false = refl
    go false false true true = refl
    go false false true false = refl
    go false false false true = refl
    go false false false false = refl

pub command_marks : (p : Point) (s : Seat) (byte ready : ℕ) → 1 ≤ reaction s → let f = frame_for s.party false byte ready in
    marks_of (steps_of (alone p s) (Command f)) ≡ (Drive (device s), For (device s) (Attention (byte_in_cells f.cells))) ∷ []
command_marks p s byte ready some =
    let f = frame_for s.party false byte ready in
    ap (λ (l : List Step). marks_of l) (frame_is (ready + reaction s) s (Attention (byte_in_cells f.cells)) f false (omega arith) (cells_fit false 8 byte f.start)) ∙ frame_marks (ready + reaction s) s false (Attention (byte_in_cells f.cells)) f

pub byte_marks : (p : Point) (b : Party) (o : Held) (eoi : Bool) (byte ready : ℕ) → let f = frame_for b eoi byte ready in
    marks_of (steps_of (alone p (seat b Listener o)) (Byte eoi f)) ≡ (Drive b.device, For b.device (Heard (byte_in_cells f.cells) eoi)) ∷ []
byte_marks p b o false byte ready =
    let f = frame_for b false byte ready in
    ap (λ (l : List Step). marks_of l) (frame_is (ready + b.reaction) (seat b Listener o) (Heard (byte_in_cells f.cells) false) f false (omega arith) (cells_fit false 8 byte f.start)) ∙ frame_marks (ready + b.reaction) (seat b Listener o) false (Heard (byte_in_cells f.cells) false) f
byte_marks p b o true byte ready =
    let f = frame_for b true byte ready in
    ap (λ (l : List Step). marks_of l) (frame_is (ready + b.reaction) (seat b Listener o) (Heard (byte_in_cells f.cells) true) f true (omega arith, omega arith) (cells_fit false 8 byte f.start)) ∙ frame_marks (ready + b.reaction) (seat b Listener o) true (Heard (byte_in_cells f.cells) true) f

-- a byte of the talker, and CLOCK's release after the last one
signal_none : (x : Option (ℕ × ℕ)) → marks_of (signal_steps x) ≡ []
signal_none None = refl
signal_none (Some x) = refl

pub told_marks : (b : Party) (at : ℕ) (f : Told) → marks_of (one_told b at f) ≡ (Host, For b.device (Said (number_of f.bits) (is_last f))) ∷ []
told_marks b at f =
    marks_append (signal_steps f.signal) _ ∙ ap (λ (l : List (Who × Mark)). l ++ marks_of (bit_steps b (first_bit b f) false f.bits ++ for_one b.device (Said (number_of f.bits) (is_last f)) (host f.accept Data Pull) ∷ (if is_last f then drive b.device (f.accept + b.reaction) Clock Free ∷ [] else []))) (signal_none f.signal)
    ∙ marks_append (bit_steps b (first_bit b f) false f.bits) _ ∙ ap (λ (l : List (Who × Mark)). l ++ marks_of (for_one b.device (Said (number_of f.bits) (is_last f)) (host f.accept Data Pull) ∷ (if is_last f then drive b.device (f.accept + b.reaction) Clock Free ∷ [] else []))) (bits_none b (first_bit b f) false f.bits)
    ∙ over (is_last f)
  where
    over : (v : Bool) → marks_of (for_one b.device (Said (number_of f.bits) (is_last f)) (host f.accept Data Pull) ∷ (if v then drive b.device (f.accept + b.reaction) Clock Free ∷ [] else [])) ≡ (Host, For b.device (Said (number_of f.bits) (is_last f))) ∷ []
    over true = refl
    over false = refl
