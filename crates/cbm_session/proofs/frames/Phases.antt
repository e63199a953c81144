-- A frame of the host goes in parts: lists that lie on two sides of a moment are joined side by side.
use Rattle.std.proofs.Common.{◌≡◌, ℕ, ◌+◌, ◌≤◌, ◌<◌, inl, inr, Bool, true, false, List, [], ◌∷◌, ◌++◌, map, ap, sym, ◌∙◌, subst, arith, refl}
use Rattle.std.proofs.Math.Nat.{le-max_left, le-max_right}
use Rattle.std.proofs.lemmas.Bool.Decides.{leb_tells}
use Rattle.std.proofs.lemmas.List.{append-nil}
use Rattle.std.specs.Prelude.{if◌then◌else◌}
use Rattle.cbm_iec.specs.declared.machine.Act.TheVariants.{Attention, Heard}
use Rattle.cbm_iec.specs.declared.machine.Act.{Act}
use Rattle.cbm_iec.specs.declared.lines.Line.TheVariants.{Clock, Data}
use Rattle.cbm_iec.specs.declared.lines.Way.TheVariants.{Pull, Free}
use Rattle.cbm_session.proofs.frames.Accepted.{listen_react}
use Rattle.cbm_session.proofs.joining.Merging.{merge_here, merge_there, merge_nil, NoneBefore, AllBefore, by_head, none_merge, none_sooner}
use Rattle.cbm_session.proofs.joining.OneDrive.{AllUpTo, cells_upto, upto_append, last_after}
use Rattle.cbm_session.proofs.joining.Orders.{sending_order}
use Rattle.cbm_session.specs.Bits.{where_held, cells_steps, held_after, byte_in_cells}
use Rattle.cbm_session.specs.Frames.{Sent, wire, lasting, longest_lasting, end_of, pulse, hearing, sending, StartFits, SentFits}
use Rattle.cbm_session.specs.Laws.{SeatsReact, releases, pulses, from_start, accepts, frame_in_parts, CommandsGoInParts, BytesGoInParts}
use Rattle.cbm_session.specs.Seats.{Seat, device, reaction, slowest, is_listener, listeners}
use Rattle.cbm_session.specs.Steps.{Step, host, drive, for_one, moment_of, merge, merge_all}

pub merge_split : (c : ℕ) (x1 x2 y1 y2 : List Step) → AllBefore c x1 → NoneBefore c x2 → AllBefore c y1 → NoneBefore c y2 → merge (x1 ++ x2) (y1 ++ y2) ≡ merge x1 y1 ++ merge x2 y2
merge_split c [] x2 [] y2 a b d e = refl
merge_split c [] [] (y ∷ ys) y2 a b d e = refl
merge_split c [] (x ∷ xs) (y ∷ ys) y2 a b d e =
    let late = b.0 in let soon = d.0 in
    merge_there x xs y (ys ++ y2) (omega (arith, late, soon)) ∙ ap (λ (zs : List Step). y ∷ zs) (merge_split c [] (x ∷ xs) ys y2 tt b d.1 e)
merge_split c (x ∷ xs) x2 [] [] a b d e = ap (λ (zs : List Step). x ∷ zs) (merge_split c xs x2 [] [] a.1 b tt tt)
merge_split c (x ∷ xs) x2 [] (y ∷ ys) a b d e =
    let soon = a.0 in let late = e.0 in
    merge_here x (xs ++ x2) y ys (omega (arith, late, soon)) ∙ ap (λ (zs : List Step). x ∷ zs) (merge_split c xs x2 [] (y ∷ ys) a.1 b tt e)
merge_split c (x ∷ xs) x2 (y ∷ ys) y2 a b d e = elim (leb_tells (moment_of x) (moment_of y)) [
  | inl h ↦ merge_here x (xs ++ x2) y (ys ++ y2) h.1 ∙ ap (λ (zs : List Step). x ∷ zs) (merge_split c xs x2 (y ∷ ys) y2 a.1 b d e)
      ∙ ap (λ (zs : List Step). zs ++ merge x2 y2) (sym (merge_here x xs y ys h.1))
  | inr h ↦ merge_there x (xs ++ x2) y (ys ++ y2) h.1 ∙ ap (λ (zs : List Step). y ∷ zs) (merge_split c (x ∷ xs) x2 ys y2 a b d.1 e)
      ∙ ap (λ (zs : List Step). zs ++ merge x2 y2) (sym (merge_there x xs y ys h.1))
]

pub before_merge : (m : ℕ) (xs ys : List Step) → AllBefore m xs → AllBefore m ys → AllBefore m (merge xs ys)
before_merge m [] ys a b = b
before_merge m (x ∷ xs) [] a b = subst (AllBefore m) (sym (merge_nil (x ∷ xs))) a
before_merge m (x ∷ xs) (y ∷ ys) a b = by_head (AllBefore m) x xs y ys (λ h. (a.0, before_merge m xs (y ∷ ys) a.1 b)) (λ h. (b.0, before_merge m (x ∷ xs) ys a b.1))

-- it holds of each of these drives
abbrev pub Each : (Seat → Type 0) → List Seat → Type 0
Each P [] = Unit {0}
Each P (s ∷ ss) = P s × Each P ss

pub each : (P Q : Seat → Type 0) (ss : List Seat) → ((s : Seat) → P s → Q s) → Each P ss → Each Q ss
each P Q [] f h = tt
each P Q (s ∷ ss) f h = (f s h.0, each P Q ss f h.1)

pub before_all : (m : ℕ) (l : List Step) (own : Seat → List Step) (ss : List Seat) → AllBefore m l → Each (λ s. AllBefore m (own s)) ss → AllBefore m (merge_all l (map own ss))
before_all m l own [] a h = a
before_all m l own (s ∷ ss) a h = before_merge m l (merge_all (own s) (map own ss)) a (before_all m (own s) own ss h.0 h.1)

pub none_all : (m : ℕ) (l : List Step) (own : Seat → List Step) (ss : List Seat) → NoneBefore m l → Each (λ s. NoneBefore m (own s)) ss → NoneBefore m (merge_all l (map own ss))
none_all m l own [] a h = a
none_all m l own (s ∷ ss) a h = none_merge m l (merge_all (own s) (map own ss)) a (none_all m (own s) own ss h.0 h.1)

pub split_all : (m : ℕ) (h1 h2 : List Step) (a b : Seat → List Step) (ss : List Seat) → AllBefore m h1 → NoneBefore m h2 → Each (λ s. AllBefore m (a s)) ss → Each (λ s. NoneBefore m (b s)) ss
    → merge_all (h1 ++ h2) (map (λ s. a s ++ b s) ss) ≡ merge_all h1 (map a ss) ++ merge_all h2 (map b ss)
split_all m h1 h2 a b [] x y u v = refl
split_all m h1 h2 a b (s ∷ ss) x y u v =
    ap (λ (zs : List Step). merge (h1 ++ h2) zs) (split_all m (a s) (b s) a b ss u.0 v.0 u.1 v.1)
    ∙ merge_split m h1 h2 (merge_all (a s) (map a ss)) (merge_all (b s) (map b ss)) x y (before_all m (a s) a ss u.0 u.1) (none_all m (b s) b ss v.0 v.1)

-- drives with nothing to do
pub none_joined : (l : List Step) (ss : List Seat) → merge_all l (map (λ (s : Seat). []) ss) ≡ l
none_joined l [] = refl
none_joined l (s ∷ ss) = ap (λ (zs : List Step). merge l zs) (none_joined [] ss) ∙ merge_nil l

-- the bounds of the drives' reactions
abbrev pub ReactsBy : ℕ → Seat → Type 0
ReactsBy n s = (1 ≤ reaction s) × (reaction s ≤ 60) × (reaction s ≤ n)

pub react_by : (n : ℕ) (hs : List Seat) → SeatsReact hs → slowest hs ≤ n → Each (ReactsBy n) hs
react_by n [] h l = tt
react_by n (s ∷ []) h l = ((h.0, h.1, l), tt)
react_by n (s ∷ u ∷ us) h l =
    let a = le-max_left (reaction s) (slowest (u ∷ us)) in
    let b = le-max_right (reaction s) (slowest (u ∷ us)) in
    ((h.0, h.1, omega (arith, a, l)), react_by n (u ∷ us) h.2 (omega (arith, b, l)))

-- none lasts longer than the longest
pub lasts_by : (n : ℕ) (hs : List Seat) → longest_lasting hs ≤ n → Each (λ s. lasting s ≤ n) hs
lasts_by n [] l = tt
lasts_by n (s ∷ []) l = (l, tt)
lasts_by n (s ∷ u ∷ us) l =
    let a = le-max_left (lasting s) (longest_lasting (u ∷ us)) in
    let b = le-max_right (lasting s) (longest_lasting (u ∷ us)) in
    (omega (arith, a, l), lasts_by n (u ∷ us) (omega (arith, b, l)))

-- a drive's part after its release, by what bounds it
tail_none : (c t : ℕ) (eoi : Bool) (act : Act) (f : Sent) (s : Seat) → c ≤ t + 200 + reaction s → c ≤ end_of f + reaction s
    → NoneBefore c (pulse t eoi s ++ for_one (device s) act (drive (device s) (end_of f + reaction s) Data Pull) ∷ [])
tail_none c t true act f s a b = (a, (omega (arith, a), (b, tt)))
tail_none c t false act f s a b = (b, tt)

pulse_before : (c t : ℕ) (eoi : Bool) (s : Seat) → t + 200 + lasting s < c → AllBefore c (pulse t eoi s)
pulse_before c t true s h = (omega (arith, h), (h, tt))
pulse_before c t false s h = tt

upto_before : (m : ℕ) (ss : List Step) → AllUpTo m ss → AllBefore (m + 1) ss
upto_before m [] h = tt
upto_before m (s ∷ ss) h = (omega (arith, h.0), upto_before m ss h.1)

pub freed_upto : (held : Bool) (m : ℕ) → AllUpTo m (where_held held (host m Data Free))
freed_upto true m = (omega arith, tt)
freed_upto false m = tt

pub starts : (eoi : Bool) (hs : List Seat) (f : Sent) → StartFits hs eoi f → wire hs f + 1 ≤ f.start
starts true hs f h = let k : wire hs f + 200 + longest_lasting hs + 1 ≤ f.start = h in omega (arith, k)
starts false hs f h = h.0

pulses_before : (eoi : Bool) (hs : List Seat) (f : Sent) (s : Seat) → StartFits hs eoi f → lasting s ≤ longest_lasting hs → AllBefore f.start (pulse (wire hs f) eoi s)
pulses_before true hs f s h r = let k : wire hs f + 200 + longest_lasting hs + 1 ≤ f.start = h in pulse_before f.start (wire hs f) true s (omega (arith, k, r))
pulses_before false hs f s h r = tt

module _ (hs : List Seat) (eoi : Bool) (act : Act) (f : Sent) (r : SeatsReact hs) (fits : SentFits hs eoi f) where
  start : wire hs f + 1 ≤ f.start
  start = starts eoi hs f fits.start

  last : f.start ≤ end_of f
  last = last_after false f.start f.cells fits.cells

  by : Each (ReactsBy (slowest hs)) hs
  by = react_by (slowest hs) hs r (omega arith)

  abbrev release : Seat → List Step
  release s = drive (device s) (f.ready + reaction s) Data Free ∷ []

  abbrev pulsing : Seat → List Step
  pulsing s = pulse (wire hs f) eoi s

  abbrev accept : Seat → List Step
  accept s = for_one (device s) act (drive (device s) (end_of f + reaction s) Data Pull) ∷ []

  body_none : NoneBefore f.start (from_start f)
  body_none = let o = sending_order hs eoi f fits (omega (arith, start)) in (omega arith, o.1.0)

  body_before : AllBefore (end_of f + 1) (from_start f)
  body_before = upto_before (end_of f) (from_start f) (last, upto_append (end_of f) (cells_steps false f.cells) (where_held (held_after false f.cells) (host (end_of f) Data Free)) (cells_upto (end_of f) false f.start f.cells fits.cells (omega arith)) (freed_upto (held_after false f.cells) (end_of f)))

  abbrev rest : Seat → List Step
  rest s = pulsing s ++ accept s

  abbrev own : Seat → List Step
  own s = hearing (wire hs f) eoi act f s

  -- how late each part of a drive lies
  own_none : Each (λ s. NoneBefore (f.ready + 1) (own s)) hs
  own_none = each (ReactsBy (slowest hs)) (λ s. NoneBefore (f.ready + 1) (own s)) hs
      (λ s h. let a = h.0 in let x = start in let y = last in (omega (arith, a), tail_none (f.ready + 1) (wire hs f) eoi act f s (omega (arith, a)) (omega (arith, a, x, y)))) by

  release_before : Each (λ s. AllBefore (wire hs f + 1) (release s)) hs
  release_before = each (ReactsBy (slowest hs)) (λ s. AllBefore (wire hs f + 1) (release s)) hs (λ s h. let a = h.2 in (omega (arith, a), tt)) by

  rest_none : Each (λ s. NoneBefore (wire hs f + 1) (rest s)) hs
  rest_none = each (ReactsBy (slowest hs)) (λ s. NoneBefore (wire hs f + 1) (rest s)) hs
      (λ s h. let x = start in let y = last in tail_none (wire hs f + 1) (wire hs f) eoi act f s (omega arith) (omega (arith, x, y))) by

  pulse_done : Each (λ s. AllBefore f.start (pulsing s)) hs
  pulse_done = each (λ s. lasting s ≤ longest_lasting hs) (λ s. AllBefore f.start (pulsing s)) hs (λ s h. pulses_before eoi hs f s fits.start h) (lasts_by (longest_lasting hs) hs (omega arith))

  accept_none : (m : ℕ) → m ≤ end_of f + 1 → Each (λ s. NoneBefore m (accept s)) hs
  accept_none m l = each (ReactsBy (slowest hs)) (λ s. NoneBefore m (accept s)) hs (λ s h. let a = h.0 in (omega (arith, a, l), tt)) by

  nothing_before : (m : ℕ) (ss : List Seat) → Each (λ s. AllBefore m []) ss
  nothing_before m [] = tt
  nothing_before m (s ∷ ss) = (tt, nothing_before m ss)

  -- the bits before the accepts
  bits_first : merge_all (from_start f) (map accept hs) ≡ from_start f ++ accepts hs f act
  bits_first =
      ap (λ (zs : List Step). merge_all zs (map accept hs)) (sym (append-nil (from_start f)))
      ∙ split_all (end_of f + 1) (from_start f) [] (λ s. []) accept hs body_before tt (nothing_before (end_of f + 1) hs) (accept_none (end_of f + 1) (omega arith))
      ∙ ap (λ (zs : List Step). zs ++ accepts hs f act) (none_joined (from_start f) hs)

  -- the pulses before these
  pulses_first : merge_all (from_start f) (map rest hs) ≡ pulses hs (wire hs f) eoi ++ (from_start f ++ accepts hs f act)
  pulses_first =
      let y = last in
      split_all f.start [] (from_start f) pulsing accept hs tt body_none pulse_done (accept_none f.start (omega (arith, y)))
      ∙ ap (λ (zs : List Step). pulses hs (wire hs f) eoi ++ zs) bits_first

  -- the releases before these
  releases_first : merge_all (from_start f) (map own hs) ≡ releases hs f ++ (pulses hs (wire hs f) eoi ++ (from_start f ++ accepts hs f act))
  releases_first =
      split_all (wire hs f + 1) [] (from_start f) release rest hs tt (none_sooner (wire hs f + 1) f.start (from_start f) start body_none) release_before rest_none
      ∙ ap (λ (zs : List Step). releases hs f ++ zs) pulses_first

  pub frame_goes : merge_all (sending f) (map own hs) ≡ frame_in_parts hs eoi act f
  frame_goes =
      let x = start in
      split_all (f.ready + 1) (host f.ready Clock Free ∷ []) (from_start f) (λ s. []) own hs (omega arith, tt) (none_sooner (f.ready + 1) f.start (from_start f) (omega (arith, x)) body_none) (nothing_before (f.ready + 1) hs) own_none
      ∙ ap (λ (zs : List Step). zs ++ merge_all (from_start f) (map own hs)) (none_joined (host f.ready Clock Free ∷ []) hs)
      ∙ ap (λ (zs : List Step). host f.ready Clock Free ∷ zs) releases_first

pub commands_go_in_parts : CommandsGoInParts
commands_go_in_parts p f r h = frame_goes p.seats false (Attention (byte_in_cells f.cells)) f r h.3

-- those who don't listen do nothing
skip_none : (l : List Step) (ls : List (List Step)) → merge l (merge_all [] ls) ≡ merge_all l ls
skip_none l [] = merge_nil l
skip_none l (x ∷ xs) = refl

only_listeners : (l : List Step) (own : Seat → List Step) (ss : List Seat)
    → merge_all l (map (λ s. if is_listener s.role then own s else []) ss) ≡ merge_all l (map own (listeners ss))
only_listeners l own [] = refl
only_listeners l own (s ∷ ss) = elim (is_listener s.role) as (λ v. merge l (merge_all (if v then own s else []) (map (λ x. if is_listener x.role then own x else []) ss)) ≡ merge_all l (map own (if v then s ∷ listeners ss else listeners ss))) [
  | true ↦ ap (λ (zs : List Step). merge l zs) (only_listeners (own s) own ss)
  | false ↦ ap (λ (zs : List Step). merge l zs) (only_listeners [] own ss) ∙ skip_none l (map own (listeners ss))
]

pub bytes_go_in_parts : BytesGoInParts
bytes_go_in_parts p eoi f r h =
    only_listeners (sending f) (λ s. hearing (wire (listeners p.seats) f) eoi (Heard (byte_in_cells f.cells) eoi) f s) p.seats
    ∙ frame_goes (listeners p.seats) eoi (Heard (byte_in_cells f.cells) eoi) f (listen_react p.seats r) h.3
