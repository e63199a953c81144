-- The host performs its frames: a byte in attention or to a listener, with true or without.
use Rattle.std.proofs.Common.{◌≡◌, ℕ, zero, suc, ◌+◌, ◌-◌, ◌*◌, ◌/◌, Bool, true, false, not, List, [], ◌∷◌, ◌++◌, length, ap, sym, ◌∙◌, subst, arith, refl}
use Rattle.std.proofs.lemmas.List.{append_assoc}
use Rattle.std.proofs.lemmas.Bool.{ne_eqb}
use Rattle.std.specs.Prelude.{if◌then◌else◌, ◌==◌}
use Rattle.cbm_iec.specs.Hearing.{is_same}
use Rattle.cbm_iec.specs.declared.machine.Act.{Act}
use Rattle.cbm_iec.specs.declared.lines.Line.TheVariants.{Data}
use Rattle.cbm_iec.specs.declared.lines.Way.TheVariants.{Free}
use Rattle.cbm_session.proofs.joining.OneDrive.{one_frame}
use Rattle.cbm_session.specs.Bits.{where_held, BitCell, cell_steps, cells_steps, held_after, last_pull, SetFits, CellsFit}
use Rattle.cbm_session.specs.Frames.{end_of, SentFits}
use Rattle.cbm_session.specs.Seats.{Seat, reaction}
use Rattle.cbm_session.specs.Steps.{Step, host}
use Rattle.cbm_host.proofs.Composing.{performs_then}
use Rattle.cbm_host.specs.Engines.{Engined, accepted}
use Rattle.cbm_host.specs.Framed.{cells_for, start_for, frame_for}
use Rattle.cbm_host.specs.Performing.{Performs, ends, makes, sees}
use Rattle.cbm_host.specs.Sending.{starts_low, next_bit}
use Rattle.cbm_host.specs.Waits.{phase}
use Rattle.cbm_host.specs.declared.frame.Bits.{Bits}
use Rattle.cbm_host.specs.declared.frame.Frame.{Frame}
use Rattle.cbm_host.specs.declared.frame.Frame.TheVariants.{Readying, Setting, Showing, Clearing, Sent}
use Rattle.cbm_host.specs.declared.stage.Afterwards.{Afterwards}
use Rattle.cbm_host.specs.declared.stage.Stage.TheVariants.{Framing}

abbrev pub bits : ℕ → ℕ → Bool → Bits
bits left count low = record { left = left; count = count; low = low }

-- the bits keep the bounds of a frame
set_fits : (held low : Bool) (t : ℕ) → SetFits held (not low) t t
set_fits true true t = refl
set_fits true false t = omega arith
set_fits false true t = omega arith
set_fits false false t = refl

pub cells_fit : (held : Bool) (n l t : ℕ) → CellsFit held t (cells_for n l t)
cells_fit held zero l t = tt
cells_fit held (suc n) l t = (record { set = set_fits held (starts_low l) t; free = omega arith; settled = omega arith; pulled = omega arith }, cells_fit (not (not (starts_low l))) n (l / 2) (t + phase + phase))

pub cells_end : (n l t : ℕ) → last_pull t (cells_for n l t) ≡ t + 40 * n
cells_end zero l t = omega arith
cells_end (suc n) l t = let k = cells_end n (l / 2) (t + phase + phase) in k ∙ omega arith

pub cells_count : (n l t : ℕ) → length (cells_for n l t) ≡ n
cells_count zero l t = refl
cells_count (suc n) l t = ap suc (cells_count n (l / 2) (t + phase + phase))

pub frame_fits : (s : Seat) (eoi : Bool) (byte ready : ℕ) → SentFits (s ∷ []) eoi (frame_for s.party eoi byte ready)
frame_fits s true byte ready = record { start = omega arith; eight = cells_count 8 byte (start_for s.party true ready); cells = cells_fit false 8 byte (start_for s.party true ready) }
frame_fits s false byte ready = record { start = (omega arith, omega arith); eight = cells_count 8 byte (start_for s.party false ready); cells = cells_fit false 8 byte (start_for s.party false ready) }

module _ (afterwards : Afterwards) (left : List ℕ) (most : ℕ) where
  -- in a frame
  abbrev pub framing : Frame → Engined
  framing f = record { stage = Framing f afterwards; left = left; most = most }

  -- the next bit, by whether DATA is held for it
  abbrev bit_frame : Bool → ℕ → Bits → Frame
  bit_frame low t b = if is_same b.low low then Showing (t + phase) b else Setting t b

  abbrev cell : Bool → ℕ → BitCell
  cell low t = record { bit = not low; set = t; free = t + phase; pull = t + phase + phase }

  -- one bit
  cell_performs : (held low : Bool) (t n l : ℕ) (more : List Step) (e2 : Engined) → Performs (framing (next_bit (t + phase + phase) (bits (l / 2) (suc n - 1) low))) more e2
      → Performs (framing (bit_frame low t (bits l (suc n) held))) (cell_steps held (cell low t) ++ more) e2
  cell_performs true true t n l more e2 k = makes refl refl (makes refl refl k)
  cell_performs false false t n l more e2 k = makes refl refl (makes refl refl k)
  cell_performs true false t n l more e2 k = makes refl refl (makes refl refl (makes refl refl k))
  cell_performs false true t n l more e2 k = makes refl refl (makes refl refl (makes refl refl k))

  not_not : (v : Bool) → not (not v) ≡ v
  not_not true = refl
  not_not false = refl

  -- so many bits, and DATA's release after them
  abbrev bit_steps : Bool → ℕ → ℕ → ℕ → List Step
  bit_steps held n l t = cells_steps held (cells_for n l t) ++ where_held (held_after held (cells_for n l t)) (host (last_pull t (cells_for n l t)) Data Free)

  bits_perform : (n : ℕ) (held : Bool) (t l : ℕ) → Performs (framing (next_bit t (bits l n held))) (bit_steps held n l t) (framing Sent)
  bits_perform zero true t l = makes refl refl (ends refl)
  bits_perform zero false t l = ends refl
  bits_perform (suc n) held t l =
      let rest = bits_perform n (starts_low l) (t + phase + phase) (l / 2) in
      let less : suc n - 1 ≡ n = omega arith in
      let next = subst (λ (m : ℕ). Performs (framing (next_bit (t + phase + phase) (bits (l / 2) m (starts_low l)))) (bit_steps (starts_low l) n (l / 2) (t + phase + phase)) (framing Sent)) (sym less) rest in
      let all = cell_performs held (starts_low l) t n l (bit_steps (starts_low l) n (l / 2) (t + phase + phase)) (framing Sent) next in
      let again = subst (λ (v : Bool). Performs (framing (bit_frame (starts_low l) t (bits l (suc n) held))) (cell_steps held (cell (starts_low l) t) ++ bit_steps v n (l / 2) (t + phase + phase)) (framing Sent)) (sym (not_not (starts_low l))) all in
      let some : (suc n == 0) ≡ false = ne_eqb (suc n) 0 (λ (x : suc n ≡ 0). omega (arith, x)) in
      subst (λ (v : Bool). Performs (framing (if v then (if held then Clearing t else Sent) else bit_frame (starts_low l) t (bits l (suc n) held))) (bit_steps held (suc n) l t) (framing Sent)) (sym some)
      (subst (λ (zs : List Step). Performs (framing (bit_frame (starts_low l) t (bits l (suc n) held))) zs (framing Sent))
      (sym (append_assoc (cell_steps held (cell (starts_low l) t)) (cells_steps (not (not (starts_low l))) (cells_for n (l / 2) (t + phase + phase))) (where_held (held_after (not (not (starts_low l))) (cells_for n (l / 2) (t + phase + phase))) (host (last_pull (t + phase + phase) (cells_for n (l / 2) (t + phase + phase))) Data Free))))
      again)

  -- a whole frame, up to the accept
  pub frame_performs : (s : Seat) (act : Act) (byte ready : ℕ) → let f = frame_for s.party false byte ready in
      Performs (framing (Readying ready byte false)) (one_frame (ready + reaction s) s false act f) (accepted (end_of f + reaction s) afterwards (framing Sent))
  frame_performs s act byte ready =
      let f = frame_for s.party false byte ready in
      makes refl refl (sees tt (makes refl refl (performs_then (bits_perform 8 false f.start byte) (sees tt (ends refl)))))

  -- the last one
  pub last_performs : (s : Seat) (act : Act) (byte ready : ℕ) → let f = frame_for s.party true byte ready in
      Performs (framing (Readying ready byte true)) (one_frame (ready + reaction s) s true act f) (accepted (end_of f + reaction s) afterwards (framing Sent))
  last_performs s act byte ready =
      let f = frame_for s.party true byte ready in
      makes refl refl (sees tt (sees tt (sees tt (makes refl refl (performs_then (bits_perform 8 false f.start byte) (sees tt (ends refl)))))))
