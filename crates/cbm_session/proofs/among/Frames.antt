-- A drive among others follows a frame of the host.
use Rattle.std.proofs.Common.{◌≡◌, ℕ, zero, suc, ◌+◌, ◌≤◌, Bool, true, false, List, [], ◌∷◌, ◌++◌, length, Option, inl, inr, ap, sym, ◌∙◌, subst, append_assoc, arith, refl}
use Rattle.std.proofs.lemmas.List.{append-nil}
use Rattle.cbm_iec.specs.declared.ear.Ear.TheVariants.{Holding, Freeing, Accepting, Timed}
use Rattle.cbm_iec.specs.declared.lines.Line.TheVariants.{Clock, Data}
use Rattle.cbm_iec.specs.declared.lines.Way.TheVariants.{Pull, Free}
use Rattle.cbm_iec.specs.declared.party.Party.{Party}
use Rattle.cbm_iec.specs.declared.party.Role.{Role}
use Rattle.cbm_iec.specs.declared.port.Port.{Port}
use Rattle.cbm_iec.specs.declared.port.Side.TheVariants.{Hearing}
use Rattle.cbm_session.proofs.alone.Frames.{wires, stands, gathers, accepted_role, told_by, shifted, shifted_is}
use Rattle.cbm_session.proofs.among.Accepts.{up, accepting_follows}
use Rattle.cbm_session.proofs.among.Bits.{quiet, cells_follows}
use Rattle.cbm_session.proofs.among.Changes.{Changes, all_change, in_order, last_or, last_is}
use Rattle.cbm_session.proofs.among.Releases.{freeing_follows}
use Rattle.cbm_session.proofs.frames.Phases.{Each, ReactsBy, react_by, starts, none_joined, commands_go_in_parts}
use Rattle.cbm_session.proofs.joining.Merging.{InOrder}
use Rattle.cbm_session.proofs.joining.Seating.{Sits}
use Rattle.cbm_session.specs.Among.{Rest, some, FollowsAmong, ends, tells}
use Rattle.cbm_session.specs.Bits.{where_held, BitCell, cells_steps, held_after, last_pull, byte_in_cells}
use Rattle.cbm_session.specs.Frames.{Sent, wire, end_of, SentFits}
use Rattle.cbm_session.specs.Laws.{SeatsReact, releases, from_start, accepts, frame_in_parts}
use Rattle.cbm_session.specs.Pieces.{Point, Command, Fits, steps_of, obeying}
use Rattle.cbm_session.specs.Seats.{Seat, lines, device, reaction, slowest}
use Rattle.cbm_session.specs.Steps.{Mark, Step, host, Plain, For}

pub up_is : (m k : ℕ) → up m k ≡ m + k
up_is zero k = omega arith
up_is (suc m) k = up_is m (suc k) ∙ omega arith

pub each_sits : (P : Seat → Type 0) (d : ℕ) (ss : List Seat) (s : Seat) → Each P ss → Sits d ss s → P s
each_sits P d [] s e h = elim h [ ]
each_sits P d (x ∷ xs) s e (inl h) = subst P h.0 e.0
each_sits P d (x ∷ xs) s e (inr h) = each_sits P d xs s e.1 h.1

-- in hold the host holds CLOCK, and so many other drives DATA
abbrev pub in_hold : Bool → ℕ → Rest
in_hold atn k = record { host = wires atn true false; clocks = zero; datas = k }

module _ (peek : Option (ℕ × Bool)) (b : Party) (role : Role) (eoi : Bool) where
  -- a drive in hold, and after a byte
  abbrev pub holds : Bool → ℕ → Port
  holds atn k = stands b role (lines false true) (wires atn true (some k)) (Hearing Holding)

  abbrev pub after_a_byte : Bool → ℕ → ℕ → Port
  after_a_byte atn byte k = stands b (accepted_role peek b role atn byte) (lines false true) (wires atn true (some k)) (Hearing Holding)

  abbrev pub byte_mark : Bool → ℕ → ℕ → Mark
  byte_mark atn byte o = For o (told_by peek b role atn byte eoi)

  accepts_follow : (atn : Bool) (byte at m : ℕ) (ss : List Step) → Changes Pull (byte_mark atn byte) b.device (at + b.reaction) ss m true → InOrder ss
      → FollowsAmong peek (in_hold atn zero) (stands b role (lines false false) (wires atn true false) (Hearing (Accepting (at + b.reaction) eoi byte))) ss (in_hold atn m) (after_a_byte atn byte m)
  accepts_follow atn byte at m ss c i =
      subst (λ (n : ℕ). FollowsAmong peek (in_hold atn zero) (stands b role (lines false false) (wires atn true false) (Hearing (Accepting (at + b.reaction) eoi byte))) ss (in_hold atn n) (after_a_byte atn byte n)) (up_is m zero ∙ omega arith)
      (subst (λ (zs : List Step). FollowsAmong peek (in_hold atn zero) (stands b role (lines false false) (wires atn true false) (Hearing (Accepting (at + b.reaction) eoi byte))) zs (in_hold atn (up m zero)) (after_a_byte atn byte (up m zero))) (append-nil ss)
      (accepting_follows peek b role eoi byte (in_hold atn (up m zero)) (after_a_byte atn byte (up m zero)) [] atn (at + b.reaction) m zero ss c i tt (ends refl refl)))

  end_follows : (atn held : Bool) (byte at m : ℕ) (ss : List Step) → Changes Pull (byte_mark atn byte) b.device (at + b.reaction) ss m true → InOrder ss
      → FollowsAmong peek (quiet (wires atn true held)) (stands b role (lines false false) (wires atn true held) (Hearing (Accepting (at + b.reaction) eoi byte))) (where_held held (host at Data Free) ++ ss) (in_hold atn m) (after_a_byte atn byte m)
  end_follows true true byte at m ss c i = tells (omega arith) refl (accepts_follow true byte at m ss c i)
  end_follows false true byte at m ss c i = tells (omega arith) refl (accepts_follow false byte at m ss c i)
  end_follows atn false byte at m ss c i = accepts_follow atn byte at m ss c i

  -- from the first pull of CLOCK
  pub body_follows : (atn : Bool) (start m : ℕ) (cells : List BitCell) (ss : List Step) → length cells ≡ 8 → Changes Pull (byte_mark atn (byte_in_cells cells)) b.device (last_pull start cells + b.reaction) ss m true → InOrder ss
      → FollowsAmong peek (quiet (wires atn true false)) (gathers b role atn false eoi 0 0) ((cells_steps false cells ++ where_held (held_after false cells) (host (last_pull start cells) Data Free)) ++ ss) (in_hold atn m) (after_a_byte atn (byte_in_cells cells) m)
  body_follows atn start m [] ss l c i = absurd (omega (arith, l))
  body_follows atn start m (c1 ∷ cells) ss l c i =
      let tail = where_held (held_after false (c1 ∷ cells)) (host (last_pull start (c1 ∷ cells)) Data Free) in
      let end : FollowsAmong peek (quiet (wires atn true (held_after false (c1 ∷ cells)))) (stands b role (lines false false) (wires atn true (held_after false (c1 ∷ cells))) (Hearing (Accepting (last_pull 0 (c1 ∷ cells) + b.reaction) eoi (shifted peek b role 0 (c1 ∷ cells))))) (tail ++ ss) (in_hold atn m) (after_a_byte atn (byte_in_cells (c1 ∷ cells)) m) =
      subst (λ (n : ℕ). FollowsAmong peek (quiet (wires atn true (held_after false (c1 ∷ cells)))) (stands b role (lines false false) (wires atn true (held_after false (c1 ∷ cells))) (Hearing (Accepting (last_pull 0 (c1 ∷ cells) + b.reaction) eoi n))) (tail ++ ss) (in_hold atn m) (after_a_byte atn (byte_in_cells (c1 ∷ cells)) m)) (sym (shifted_is peek b role (c1 ∷ cells) l))
      (end_follows atn (held_after false (c1 ∷ cells)) (byte_in_cells (c1 ∷ cells)) (last_pull start (c1 ∷ cells)) m ss c i) in
      subst (λ (zs : List Step). FollowsAmong peek (quiet (wires atn true false)) (gathers b role atn false eoi 0 0) zs (in_hold atn m) (after_a_byte atn (byte_in_cells (c1 ∷ cells)) m)) (sym (append_assoc (cells_steps false (c1 ∷ cells)) tail ss))
      (cells_follows peek b role (in_hold atn m) atn eoi false 0 0 c1 cells (tail ++ ss) (after_a_byte atn (byte_in_cells (c1 ∷ cells)) m) (omega (arith, l)) end)

  -- the start, before 200 after T
  start_follows : (atn : Bool) (t start m : ℕ) (rest : List Step) (byte : ℕ) → start ≤ t + 199 → FollowsAmong peek (quiet (wires atn true false)) (gathers b role atn false false 0 0) rest (in_hold atn m) (after_a_byte atn byte m)
      → FollowsAmong peek (quiet (wires atn false false)) (stands b role (lines false false) (wires atn false false) (Hearing (Timed (t + 200 + b.reaction)))) (host start Clock Pull ∷ rest) (in_hold atn m) (after_a_byte atn byte m)
  start_follows true t start m rest byte l f = tells (omega (arith, l)) refl f
  start_follows false t start m rest byte l f = tells (omega (arith, l)) refl f

  -- CLOCK is freed
  pub ready_follows : (atn : Bool) (n ready : ℕ) (rest : List Step) (r2 : Rest) (q2 : Port)
      → FollowsAmong peek (record { host = wires atn false false; clocks = zero; datas = n }) (stands b role (lines false true) (wires atn false (some n)) (Hearing (Freeing (ready + b.reaction)))) rest r2 q2
      → FollowsAmong peek (in_hold atn n) (holds atn n) (host ready Clock Free ∷ rest) r2 q2
  ready_follows true zero ready rest r2 q2 f = tells tt refl f
  ready_follows false zero ready rest r2 q2 f = tells tt refl f
  ready_follows true (suc n) ready rest r2 q2 f = tells tt refl f
  ready_follows false (suc n) ready rest r2 q2 f = tells tt refl f

-- A frame without the end signalled: one of several drives that hold DATA follows it, and then they all hold DATA again.
pub frame_among : (peek : Option (ℕ × Bool)) (s x : Seat) (xs : List Seat) (atn : Bool) (f : Sent) → SeatsReact (x ∷ xs) → SentFits (x ∷ xs) false f → Sits (device s) (x ∷ xs) s
    → (n : ℕ) × (suc n ≡ length (x ∷ xs)) × FollowsAmong peek (in_hold atn n) (holds peek s.party s.role false atn n) (frame_in_parts (x ∷ xs) false (told_by peek s.party s.role atn (byte_in_cells f.cells) false) f) (in_hold atn n) (after_a_byte peek s.party s.role false atn (byte_in_cells f.cells) n)
frame_among peek s x xs atn f r fits sits =
    let act = told_by peek s.party s.role atn (byte_in_cells f.cells) false in
    let rel = all_change Free (λ o. Plain) f.ready x xs s sits in
    let acc = all_change Pull (λ o. For o act) (end_of f) x xs s sits in
    let same : acc.0 ≡ rel.0 = omega (arith, rel.1, acc.1) in
    let begin : wire (x ∷ xs) f + 1 ≤ f.start = starts false (x ∷ xs) f fits.start in
    let soon = fits.start.1 in
    let by = each_sits (ReactsBy (slowest (x ∷ xs))) (device s) (x ∷ xs) s (react_by (slowest (x ∷ xs)) (x ∷ xs) r (omega arith)) sits in
    let slow = by.2 in
    let accs = accepts (x ∷ xs) f act in
    let bits = cells_steps false f.cells ++ where_held (held_after false f.cells) (host (end_of f) Data Free) in
    let goal : ℕ → List Step → Type 0 = λ t zs. FollowsAmong peek (quiet (wires atn false false)) (stands s.party s.role (lines false false) (wires atn false false) (Hearing (Timed (t + 200 + s.party.reaction)))) zs (in_hold atn rel.0) (after_a_byte peek s.party s.role false atn (byte_in_cells f.cells) rel.0) in
    let body : goal (wire (x ∷ xs) f) (from_start f ++ accs) =
    start_follows peek s.party s.role false atn (wire (x ∷ xs) f) f.start rel.0 (bits ++ accs) (byte_in_cells f.cells) (omega (arith, soon))
    (body_follows peek s.party s.role false atn f.start rel.0 f.cells accs fits.eight (subst (λ (n : ℕ). Changes Pull (λ o. For o act) (device s) (end_of f + reaction s) accs n true) same acc.2) (in_order Pull (λ o. For o act) (end_of f) x xs)) in
    let timed : goal (last_or f.ready (releases (x ∷ xs) f)) (from_start f ++ accs) = subst (λ (t : ℕ). goal t (from_start f ++ accs)) (sym (last_is Free (λ o. Plain) f.ready x xs)) body in
    let parts : frame_in_parts (x ∷ xs) false act f ≡ host f.ready Clock Free ∷ (releases (x ∷ xs) f ++ (from_start f ++ accs)) =
    ap (λ (zs : List Step). host f.ready Clock Free ∷ (releases (x ∷ xs) f ++ (zs ++ (from_start f ++ accs)))) (none_joined [] (x ∷ xs)) in (
      rel.0,
      rel.1,
      subst (λ (zs : List Step). FollowsAmong peek (in_hold atn rel.0) (holds peek s.party s.role false atn rel.0) zs (in_hold atn rel.0) (after_a_byte peek s.party s.role false atn (byte_in_cells f.cells) rel.0)) (sym parts)
          (ready_follows peek s.party s.role false atn rel.0 f.ready (releases (x ∷ xs) f ++ (from_start f ++ accs)) (in_hold atn rel.0) (after_a_byte peek s.party s.role false atn (byte_in_cells f.cells) rel.0)
          (freeing_follows peek s.party s.role (in_hold atn rel.0) (after_a_byte peek s.party s.role false atn (byte_in_cells f.cells) rel.0) (from_start f ++ accs) atn (f.ready + s.party.reaction) f.ready rel.0 (releases (x ∷ xs) f) rel.2 (in_order Free (λ o. Plain) f.ready x xs) (omega (arith, begin, slow)) timed)),
    )

-- in attention, in hold: the host holds ATN and CLOCK, the drive and so many others DATA
abbrev pub held_rest : ℕ → Rest
held_rest n = in_hold true n

abbrev pub held_port : Seat → ℕ → Port
held_port s n = stands s.party s.role (lines false true) (wires true true (some n)) (Hearing Holding)

in_seats : (peek : Option (ℕ × Bool)) (seats : List Seat) (s : Seat) (n : ℕ) (f : Sent) → SeatsReact seats → Sits (device s) seats s → suc n ≡ length seats → SentFits seats false f
    → FollowsAmong peek (held_rest n) (held_port s n) (frame_in_parts seats false (told_by peek s.party s.role true (byte_in_cells f.cells) false) f) (held_rest n) (held_port (obeying (byte_in_cells f.cells) s) n)
in_seats peek [] s n f r h e fits = elim h [ ]
in_seats peek (x ∷ xs) s n f r h e fits =
    let k = frame_among peek s x xs true f r fits h in
    let same : k.0 ≡ n = omega (arith, k.1, e) in
    subst (λ (m : ℕ). FollowsAmong peek (held_rest m) (held_port s m) (frame_in_parts (x ∷ xs) false (told_by peek s.party s.role true (byte_in_cells f.cells) false) f) (held_rest m) (held_port (obeying (byte_in_cells f.cells) s) m)) same k.2

-- One of several drives follows each byte of an attention: told the host's changes and those of all others, it makes its own part, is told the byte, and stands in hold again
-- with the role that the byte makes.
pub follows_commands : (peek : Option (ℕ × Bool)) (p : Point) (s : Seat) (n : ℕ) (f : Sent) → SeatsReact p.seats → Sits (device s) p.seats s → suc n ≡ length p.seats → Fits p (Command f)
    → FollowsAmong peek (held_rest n) (held_port s n) (steps_of p (Command f)) (held_rest n) (held_port (obeying (byte_in_cells f.cells) s) n)
follows_commands peek p s n f r h e fits =
    subst (λ (zs : List Step). FollowsAmong peek (held_rest n) (held_port s n) zs (held_rest n) (held_port (obeying (byte_in_cells f.cells) s) n)) (sym (commands_go_in_parts p f r fits)) (in_seats peek p.seats s n f r h e fits.3)
