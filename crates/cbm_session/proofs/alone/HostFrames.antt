-- A drive alone with the host follows a frame: what it follows among drives, where there are none.
use Rattle.std.proofs.Common.{◌≡◌, ℕ, zero, ◌+◌, ◌≤◌, inl, Bool, true, false, not, List, [], ◌∷◌, ◌++◌, Option, Some, None, ap, sym, ◌∙◌, subst, arith, refl, eq-eqb}
use Rattle.std.specs.Prelude.{if◌then◌else◌, nat_eq}
use Rattle.cbm_iec.specs.Changes.{lines_after}
use Rattle.cbm_iec.specs.Ports.{told, told_act}
use Rattle.cbm_iec.specs.declared.machine.Act.{Act}
use Rattle.cbm_iec.specs.declared.ear.Ear.TheVariants.{Holding}
use Rattle.cbm_iec.specs.declared.event.Who.TheVariants.{Host, Drive}
use Rattle.cbm_iec.specs.declared.event.Who.{Who}
use Rattle.cbm_iec.specs.declared.lines.Line.TheVariants.{Clock, Data}
use Rattle.cbm_iec.specs.declared.lines.Way.TheVariants.{Pull, Free}
use Rattle.cbm_iec.specs.declared.lines.Held.{Held}
use Rattle.cbm_iec.specs.declared.lines.Lines.{Lines}
use Rattle.cbm_iec.specs.declared.party.Party.{Party}
use Rattle.cbm_iec.specs.declared.party.Role.{Role}
use Rattle.cbm_iec.specs.declared.port.Port.{Port}
use Rattle.cbm_iec.specs.declared.port.Side.TheVariants.{Hearing}
use Rattle.cbm_session.proofs.alone.Frames.{wires, stands, told_by, held_again}
use Rattle.cbm_session.proofs.among.Bits.{quiet}
use Rattle.cbm_session.proofs.among.Bytes.{frame_with_end}
use Rattle.cbm_session.proofs.among.Frames.{in_hold, holds, after_a_byte, frame_among}
use Rattle.cbm_session.proofs.joining.OneDrive.{one_frame}
use Rattle.cbm_session.proofs.joining.Seating.{Sits}
use Rattle.cbm_session.proofs.joining.Talkers.{true_false}
use Rattle.cbm_session.specs.Among as among
use Rattle.cbm_session.specs.Among.{Rest, wires_of, after_the_host, CountsFor, ComesAfter, FirstIsAfter, FollowsAmong}
use Rattle.cbm_session.specs.Bits.{where_held, BitCell, cell_steps, cells_steps, held_after, byte_in_cells}
use Rattle.cbm_session.specs.Following.{Counts, IsLaterBy, IsLater, reaction_steps, Follows, ends, tells, reacts}
use Rattle.cbm_session.specs.Frames.{Sent, end_of, pulse, SentFits}
use Rattle.cbm_session.specs.Seats.{lines, Seat, device, reaction}
use Rattle.cbm_session.specs.Steps.{Mark, Step, host, drive, for_one, moment_of, Plain, ForEach, For}

-- a step of the host or of drive d, which counts for no other
abbrev AloneBy : ℕ → Who → Mark → Type 0
AloneBy d Host Plain = Unit {0}
AloneBy d Host (ForEach act) = Unit {0}
AloneBy d Host (For o act) = nat_eq d o ≡ true
AloneBy d (Drive o) mark = nat_eq d o ≡ true

abbrev AllAlone : ℕ → List Step → Type 0
AllAlone d [] = Unit {0}
AllAlone d (s ∷ ss) = AloneBy d s.event.who s.mark × AllAlone d ss

alone_right : (d : ℕ) (xs ys : List Step) → AllAlone d (xs ++ ys) → AllAlone d ys
alone_right d [] ys a = a
alone_right d (x ∷ xs) ys a = alone_right d xs ys a.1

alone_append : (d : ℕ) (xs ys : List Step) → AllAlone d xs → AllAlone d ys → AllAlone d (xs ++ ys)
alone_append d [] ys a b = b
alone_append d (x ∷ xs) ys a b = (a.0, alone_append d xs ys a.1 b)

counts_alone : (d : ℕ) (mark : Mark) (act : Option Act) → AloneBy d Host mark → CountsFor d mark act → Counts mark act
counts_alone d Plain act a c = c
counts_alone d (ForEach x) act a c = c
counts_alone d (For o x) act a c = c ∙ ap (λ (v : Bool). if v then Some x else None) a

later_by : (t m : ℕ) (w : Who) → ComesAfter t w m → IsLaterBy t w m
later_by t m Host h = h
later_by t m (Drive o) h = tt

later : (t : ℕ) (ss : List Step) → FirstIsAfter t ss → IsLater t ss
later t [] h = tt
later t (s ∷ ss) h = later_by t (moment_of s) s.event.who h

-- What a drive follows among others of which none does a thing it follows alone.
module _ (peek : Option (ℕ × Bool)) where
  pub among_alone : {r r2 : Rest} {q q2 : Port} {ss : List Step} → FollowsAmong peek r q ss r2 q2 → r ≡ quiet q.others → AllAlone q.party.device ss → Follows peek q ss q2
  among_alone (among.ends a e) o h = ends e
  among_alone {r} {r2} {q} {q2} (among.tells {t} {line} {way} {mark} {ss} i k f) o h =
      let heard : wires_of (after_the_host line way r) ≡ lines_after q.others line way = ap (λ (x : Rest). wires_of (after_the_host line way x)) o in
      let next : after_the_host line way r ≡ quiet (wires_of (after_the_host line way r)) = ap (λ (x : Rest). after_the_host line way x) o ∙ ap (λ (l : Lines). quiet l) (sym heard) in
      tells i (counts_alone q.party.device mark (told_act (lines_after q.others line way) q) h.0 (subst (λ (l : Lines). CountsFor q.party.device mark (told_act l q)) heard k))
      (subst (λ (l : Lines). Follows peek (told t l q) ss q2) heard (among_alone f next h.1))
  among_alone {r} {r2} {q} (among.hears {o} a i k f) e h = absurd (true_false (nat_eq q.party.device o) h.0 a)
  among_alone {r} {r2} {q} (among.reacts t more d e sh l f) o h =
      reacts t more d e sh (later t more l) (among_alone f o (alone_right q.party.device (reaction_steps t peek q) more (subst (AllAlone q.party.device) e h)))

-- a frame's steps are the host's and the drive's
cells_alone : (d : ℕ) (held : Bool) (cs : List BitCell) → AllAlone d (cells_steps held cs)
cells_alone d held [] = tt
cells_alone d held (c ∷ cs) = alone_append d (cell_steps held c) (cells_steps (not c.bit) cs) (one held c.bit c.set c.free c.pull) (cells_alone d (not c.bit) cs)
  where
    one : (held bit : Bool) (set free pull : ℕ) → AllAlone d (cell_steps held (record { bit = bit; set = set; free = free; pull = pull }))
    one true true set free pull = (tt, (tt, (tt, tt)))
    one false true set free pull = (tt, (tt, tt))
    one true false set free pull = (tt, (tt, tt))
    one false false set free pull = (tt, (tt, (tt, tt)))

frame_alone : (t : ℕ) (s : Seat) (eoi : Bool) (act : Act) (f : Sent) → AllAlone (device s) (one_frame t s eoi act f)
frame_alone t s eoi act f =
    (tt, (same, alone_append d (pulse t eoi s) (rest ++ accept) (pulsed eoi) (alone_append d rest accept (tt, alone_append d (cells_steps false f.cells) (where_held (held_after false f.cells) (host (end_of f) Data Free)) (cells_alone d false f.cells) (freed (held_after false f.cells))) (same, tt))))
  where
    d : ℕ
    d = device s

    same : nat_eq (device s) (device s) ≡ true
    same = eq-eqb (device s) (device s) refl

    rest : List Step
    rest = host f.start Clock Pull ∷ (cells_steps false f.cells ++ where_held (held_after false f.cells) (host (end_of f) Data Free))

    accept : List Step
    accept = for_one (device s) act (drive (device s) (end_of f + reaction s) Data Pull) ∷ []

    pulsed : (v : Bool) → AllAlone (device s) (pulse t v s)
    pulsed true = (same, (same, tt))
    pulsed false = tt

    freed : (v : Bool) → AllAlone (device s) (where_held v (host (end_of f) Data Free))
    freed true = (tt, tt)
    freed false = tt

module _ (peek : Option (ℕ × Bool)) (b : Party) (role : Role) (own : Held) (f : Sent) (some : 1 ≤ b.reaction) (prompt : b.reaction ≤ 60) where
  abbrev alone_seat : Seat
  alone_seat = record { party = b; role = role; own = own }

  sits : Sits b.device (alone_seat ∷ []) alone_seat
  sits = inl (refl, eq-eqb b.device b.device refl, tt)

  -- in attention and to a listener
  pub frame_follows : (atn : Bool) → SentFits (alone_seat ∷ []) false f
      → Follows peek (stands b role (lines false true) (wires atn true false) (Hearing Holding)) (one_frame (f.ready + b.reaction) alone_seat false (told_by peek b role atn (byte_in_cells f.cells) false) f) (held_again peek b role atn (byte_in_cells f.cells))
  frame_follows atn h =
      let k = frame_among peek alone_seat alone_seat [] atn f (some, prompt, tt) h sits in
      let none : k.0 ≡ zero = omega (arith, k.1) in
      let all = subst (λ (n : ℕ). FollowsAmong peek (in_hold atn n) (holds peek b role false atn n) (one_frame (f.ready + b.reaction) alone_seat false (told_by peek b role atn (byte_in_cells f.cells) false) f) (in_hold atn n) (after_a_byte peek b role false atn (byte_in_cells f.cells) n)) none k.2 in
      among_alone peek all refl (frame_alone (f.ready + b.reaction) alone_seat false (told_by peek b role atn (byte_in_cells f.cells) false) f)

  -- to a listener, with the end signalled
  pub last_frame_follows : SentFits (alone_seat ∷ []) true f
      → Follows peek (stands b role (lines false true) (wires false true false) (Hearing Holding)) (one_frame (f.ready + b.reaction) alone_seat true (told_by peek b role false (byte_in_cells f.cells) true) f) (held_again peek b role false (byte_in_cells f.cells))
  last_frame_follows h =
      let all = frame_with_end peek alone_seat alone_seat [] f (some, prompt, tt) h sits zero refl in
      among_alone peek all refl (frame_alone (f.ready + b.reaction) alone_seat true (told_by peek b role false (byte_in_cells f.cells) true) f)
