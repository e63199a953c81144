-- With one drive: the events of each piece, written as one list.
use Rattle.cbm_iec.specs.declared.pace.Pace.{Pace}
use Rattle.cbm_session.proofs.Paces.{pulse_upto, by_eight}
use Rattle.cbm_iec.specs.Profile.{eoi_pulse, bit_time}
use Rattle.std.proofs.Common.{◌≡◌, ℕ, ◌+◌, ◌*◌, ◌≤◌, ◌<◌, Bool, true, false, not, List, [], ◌∷◌, ◌++◌, length, Option, Some, None, ap, ◌∙◌, arith, refl}
use Rattle.std.specs.Prelude.{if◌then◌else◌, nat_le}
use Rattle.cbm_iec.specs.declared.machine.Act.TheVariants.{Released, Said}
use Rattle.cbm_iec.specs.declared.machine.Act.{Act}
use Rattle.cbm_iec.specs.declared.lines.Line.TheVariants.{Atn, Clock, Data}
use Rattle.cbm_iec.specs.declared.lines.Way.TheVariants.{Pull, Free}
use Rattle.cbm_iec.specs.declared.party.Party.{Party}
use Rattle.cbm_iec.specs.declared.party.Role.TheVariants.{Absent, Listener, Talker}
use Rattle.cbm_iec.specs.declared.party.Role.{Role}
use Rattle.cbm_session.proofs.joining.Merging.{merge_here, merge_there, AllBefore}
use Rattle.cbm_session.specs.Bits.{where_held, where_free, BitCell, cell_steps, cells_steps, held_after, last_pull, CellsFit, number_of}
use Rattle.cbm_session.specs.Frames.{Sent, Told, wire, lasting, longest_lasting, end_of, pulse_from, pulse_to, pulse, hearing, sending, is_last, signal_steps, first_bit, bit_steps, telling, taking, SentFits, SignalFits, ToldFits}
use Rattle.cbm_session.specs.Joins.{NotBefore}
use Rattle.cbm_session.specs.Pieces.{Point, host_part, let_go, own_part, PullPiece, ToListener, ToNobody}
use Rattle.cbm_session.specs.Seats.{Seat, device, reaction}
use Rattle.cbm_session.specs.Steps.{Step, host, drive, for_each, for_one, moment_of, merge}

-- all of these are at m or before
abbrev pub AllUpTo : ℕ → List Step → Type 0
AllUpTo m [] = Unit {0}
AllUpTo m (s ∷ ss) = (moment_of s ≤ m) × AllUpTo m ss

pub upto_append : (m : ℕ) (xs ys : List Step) → AllUpTo m xs → AllUpTo m ys → AllUpTo m (xs ++ ys)
upto_append m [] ys a b = b
upto_append m (x ∷ xs) ys a b = (a.0, upto_append m xs ys a.1 b)

-- a host's list goes before one step that isn't sooner
merge_last : (xs : List Step) (y : Step) → AllUpTo (moment_of y) xs → merge xs (y ∷ []) ≡ xs ++ y ∷ []
merge_last [] y a = refl
merge_last (x ∷ xs) y a = merge_here x xs y [] a.0 ∙ ap (λ (zs : List Step). x ∷ zs) (merge_last xs y a.1)

pub last_after : (held : Bool) (pull : ℕ) (cs : List BitCell) → CellsFit held pull cs → pull ≤ last_pull pull cs
last_after held pull [] h = omega arith
last_after held pull (c ∷ cs) h = let k = last_after (not c.bit) c.pull cs h.1 in let m = h.0 in omega (arith, k, m.free, m.pulled)

-- each bit of the host lasts 40 at least, so whatever a drive's pace is its pulse ends before the last bit
cells_last : (held : Bool) (pull : ℕ) (cs : List BitCell) → CellsFit held pull cs → pull + 40 * length cs ≤ last_pull pull cs
cells_last held pull [] h = omega arith
cells_last held pull (c ∷ cs) h = let k = cells_last (not c.bit) c.pull cs h.1 in let m = h.0 in omega (arith, k, m.free, m.pulled)

pub pulse_within : (hs : List Seat) (f : Sent) → SentFits hs true f → (e : Pace) → wire hs f + 200 + eoi_pulse e ≤ end_of f
pulse_within hs f h e =
    let k = cells_last false f.start f.cells h.cells in
    let g : wire hs f + 200 + longest_lasting hs + 1 ≤ f.start = h.start in
    omega (arith, k, g, h.eight, pulse_upto e)

cell_upto : (m : ℕ) (held bit : Bool) (set free pull : ℕ) → set ≤ m → free ≤ m → pull ≤ m → AllUpTo m (cell_steps held (record { bit = bit; set = set; free = free; pull = pull }))
cell_upto m true true set free pull a b c = (a, (b, (c, tt)))
cell_upto m false false set free pull a b c = (a, (b, (c, tt)))
cell_upto m true false set free pull a b c = (b, (c, tt))
cell_upto m false true set free pull a b c = (b, (c, tt))

pub cells_upto : (m : ℕ) (held : Bool) (pull : ℕ) (cs : List BitCell) → CellsFit held pull cs → last_pull pull cs ≤ m → AllUpTo m (cells_steps held cs)
cells_upto m held pull [] h l = tt
cells_upto m held pull (c ∷ cs) h l =
    let k = last_after (not c.bit) c.pull cs h.1 in
    let f = h.0 in
    upto_append m (cell_steps held c) (cells_steps (not c.bit) cs) (cell_upto m held c.bit c.set c.free c.pull (omega (arith, k, l, f.settled, f.pulled)) (omega (arith, k, l, f.pulled)) (omega (arith, k, l)))
    (cells_upto m (not c.bit) c.pull cs h.1 l)

-- a frame of the host to one drive, with T the moment when DATA is free on the wire
abbrev pub one_frame : ℕ → Seat → Bool → Act → Sent → List Step
one_frame t s eoi act f =
    host f.ready Clock Free ∷ drive (device s) (f.ready + reaction s) Data Free ∷ (pulse t eoi s
    ++ ((host f.start Clock Pull ∷ (cells_steps false f.cells ++ where_held (held_after false f.cells) (host (end_of f) Data Free)))
    ++ for_one (device s) act (drive (device s) (end_of f + reaction s) Data Pull) ∷ []))

-- the drive has let go of DATA, and its pulse is over, before the start
abbrev pub StartsAfter : ℕ → Seat → Bool → Sent → Type 0
StartsAfter t s true f = (f.ready + reaction s ≤ t) × (t + 200 + lasting s + 1 ≤ f.start)
StartsAfter t s false f = f.ready + reaction s + 1 ≤ f.start

held_upto : (m at : ℕ) (held : Bool) → at ≤ m → AllUpTo m (where_held held (host at Data Free))
held_upto m at true h = (h, tt)
held_upto m at false h = tt

module _ (t : ℕ) (s : Seat) (act : Act) (f : Sent) where
  abbrev tail : List Step
  tail = cells_steps false f.cells ++ where_held (held_after false f.cells) (host (end_of f) Data Free)

  abbrev start : Step
  start = host f.start Clock Pull

  abbrev freed : Step
  freed = drive (device s) (f.ready + reaction s) Data Free

  abbrev accept : Step
  accept = for_one (device s) act (drive (device s) (end_of f + reaction s) Data Pull)

  abbrev low : Step
  low = drive (device s) (pulse_from t s) Data Pull

  abbrev high : Step
  high = drive (device s) (pulse_to t s) Data Free

  all : CellsFit false f.start f.cells → AllUpTo (end_of f + reaction s) (start ∷ tail)
  all g =
      let k = last_after false f.start f.cells g in (
        omega (arith, k),
        upto_append (end_of f + reaction s) (cells_steps false f.cells) (where_held (held_after false f.cells) (host (end_of f) Data Free)) (cells_upto (end_of f + reaction s) false f.start f.cells g (omega arith))
            (held_upto (end_of f + reaction s) (end_of f) (held_after false f.cells) (omega arith)),
      )

  pub frame_is : (eoi : Bool) → StartsAfter t s eoi f → CellsFit false f.start f.cells → merge (sending f) (hearing t eoi act f s) ≡ one_frame t s eoi act f
  frame_is false early cells =
      merge_here (host f.ready Clock Free) (start ∷ tail) freed (accept ∷ []) (omega arith)
      ∙ ap (λ (zs : List Step). host f.ready Clock Free ∷ zs)
      (merge_there start tail freed (accept ∷ []) (omega (arith, early))
      ∙ ap (λ (zs : List Step). freed ∷ zs) (merge_last (start ∷ tail) accept (all cells)))
  frame_is true early cells =
      let free = early.0 in
      let over = early.1 in
      merge_here (host f.ready Clock Free) (start ∷ tail) freed (low ∷ high ∷ accept ∷ []) (omega arith)
      ∙ ap (λ (zs : List Step). host f.ready Clock Free ∷ zs)
      (merge_there start tail freed (low ∷ high ∷ accept ∷ []) (omega (arith, free, over))
      ∙ ap (λ (zs : List Step). freed ∷ zs)
      (merge_there start tail low (high ∷ accept ∷ []) (omega (arith, over))
      ∙ ap (λ (zs : List Step). low ∷ zs)
      (merge_there start tail high (accept ∷ []) (omega (arith, over)) ∙ ap (λ (zs : List Step). high ∷ zs) (merge_last (start ∷ tail) accept (all cells)))))

-- a list goes before another that isn't sooner
pub merge_front : (m : ℕ) (xs ys : List Step) → AllUpTo m xs → NotBefore m ys → merge xs ys ≡ xs ++ ys
merge_front m [] ys a b = refl
merge_front m (x ∷ xs) [] a b = ap (λ (zs : List Step). x ∷ zs) (merge_front m xs [] a.1 b)
merge_front m (x ∷ xs) (y ∷ ys) a b = merge_here x xs y ys (omega (arith, a.0, b)) ∙ ap (λ (zs : List Step). x ∷ zs) (merge_front m xs (y ∷ ys) a.1 b)

-- and after one that is sooner
pub merge_after_it : (x : Step) (xs ys zs : List Step) → AllBefore (moment_of x) ys → merge (x ∷ xs) (ys ++ zs) ≡ ys ++ merge (x ∷ xs) zs
merge_after_it x xs [] zs a = refl
merge_after_it x xs (y ∷ ys) zs a = merge_there x xs y (ys ++ zs) a.0 ∙ ap (λ (us : List Step). y ∷ us) (merge_after_it x xs ys zs a.1)

-- a pull: the host's changes, then the drive's
pub upto_free : (m : ℕ) (held : Bool) (s : Step) → moment_of s ≤ m → AllUpTo m (where_free held s)
upto_free m true s h = tt
upto_free m false s h = (h, tt)

pub upto_held : (m : ℕ) (held : Bool) (s : Step) → moment_of s ≤ m → AllUpTo m (where_held held s)
upto_held m true s h = (h, tt)
upto_held m false s h = tt

not_either : (m : ℕ) (a b : Bool) (s t : Step) → m ≤ moment_of s → m ≤ moment_of t → NotBefore m (where_held a s ++ where_free b t)
not_either m true b s t h k = h
not_either m false true s t h k = tt
not_either m false false s t h k = k

pub pull_is : (p : Point) (s : Seat) (at : ℕ) → merge (host_part p (PullPiece at)) (own_part p (PullPiece at) s) ≡ host_part p (PullPiece at) ++ own_part p (PullPiece at) s
pull_is p s at =
    merge_front at (host_part p (PullPiece at)) (own_part p (PullPiece at) s)
    (omega arith, upto_append at (where_free p.host.clock_low (host at Clock Pull)) (where_held p.host.data_low (host at Data Free)) (upto_free at p.host.clock_low (host at Clock Pull) (omega arith)) (upto_held at p.host.data_low (host at Data Free) (omega arith)))
    (not_either at s.own.clock_low s.own.data_low (drive (device s) (at + reaction s) Clock Free) (drive (device s) (at + reaction s) Data Pull) (omega arith) (omega arith))

-- a release to a listener, and to nobody
pub listener_is : (p : Point) (s : Seat) (at : ℕ) → s.role ≡ Listener → merge (host_part p (ToListener at)) (own_part p (ToListener at) s) ≡ for_each Released (host at Atn Free) ∷ []
listener_is p s at e = let none : own_part p (ToListener at) s ≡ [] = ap (λ (r : Role). elim r as (λ q. List Step) [ Absent ↦ let_go at s | Listener ↦ [] | Talker ↦ [] ]) e in ap (λ (zs : List Step). merge (for_each Released (host at Atn Free) ∷ []) zs) none

pub nobody_is : (p : Point) (s : Seat) (at clock : ℕ) → merge (host_part p (ToNobody at clock)) (own_part p (ToNobody at clock) s)
    ≡ for_each Released (host at Atn Free) ∷ (if nat_le clock (at + reaction s)
    then host clock Clock Free ∷ drive (device s) (at + reaction s) Data Free ∷ []
    else drive (device s) (at + reaction s) Data Free ∷ host clock Clock Free ∷ [])
nobody_is p s at clock =
    merge_here (for_each Released (host at Atn Free)) (host clock Clock Free ∷ []) (drive (device s) (at + reaction s) Data Free) [] (omega arith)
    ∙ ap (λ (zs : List Step). for_each Released (host at Atn Free) ∷ zs) (go (nat_le clock (at + reaction s)))
  where
    go : (v : Bool) → (elim v as (λ w. List Step) [ true ↦ host clock Clock Free ∷ drive (device s) (at + reaction s) Data Free ∷ [] | false ↦ drive (device s) (at + reaction s) Data Free ∷ host clock Clock Free ∷ [] ])
        ≡ (if v then host clock Clock Free ∷ drive (device s) (at + reaction s) Data Free ∷ [] else drive (device s) (at + reaction s) Data Free ∷ host clock Clock Free ∷ [])
    go true = refl
    go false = refl

-- a frame of the drive
abbrev pub one_told : Party → ℕ → Told → List Step
one_told b at f =
    drive b.device at Clock Free ∷ host f.free Data Free ∷ (signal_steps f.signal
    ++ (bit_steps b (first_bit b f) false f.bits
    ++ for_one b.device (Said (number_of f.bits) (is_last f)) (host f.accept Data Pull) ∷ (if is_last f then drive b.device (f.accept + b.reaction) Clock Free ∷ [] else [])))

pub bits_before : (b : Party) (at m : ℕ) (held : Bool) (bits : List Bool) → at + bit_time b.pace * length bits < m → AllBefore m (bit_steps b at held bits)
bits_before b at m true [] h = (omega (arith, h), (omega (arith, h), tt))
bits_before b at m false [] h = (omega (arith, h), tt)
bits_before b at m true (true ∷ bits) h = (omega (arith, h), (omega (arith, h), (omega (arith, h), bits_before b (at + bit_time b.pace) m false bits (omega (arith, h)))))
bits_before b at m false (true ∷ bits) h = (omega (arith, h), (omega (arith, h), bits_before b (at + bit_time b.pace) m false bits (omega (arith, h))))
bits_before b at m true (false ∷ bits) h = (omega (arith, h), (omega (arith, h), bits_before b (at + bit_time b.pace) m true bits (omega (arith, h))))
bits_before b at m false (false ∷ bits) h = (omega (arith, h), (omega (arith, h), (omega (arith, h), bits_before b (at + bit_time b.pace) m true bits (omega (arith, h)))))

merge_over : (m : ℕ) (xs zs ys : List Step) → AllUpTo m xs → NotBefore m ys → merge (xs ++ zs) ys ≡ xs ++ merge zs ys
merge_over m [] zs ys a b = refl
merge_over m (x ∷ xs) zs [] a b = ap (λ (us : List Step). x ∷ us) (merge_over m xs zs [] a.1 b)
merge_over m (x ∷ xs) zs (y ∷ ys) a b = merge_here x (xs ++ zs) y ys (omega (arith, a.0, b)) ∙ ap (λ (us : List Step). x ∷ us) (merge_over m xs zs (y ∷ ys) a.1 b)

bits_first : (b : Party) (at : ℕ) (held : Bool) (bits : List Bool) (zs : List Step) → NotBefore at (bit_steps b at held bits ++ zs)
bits_first b at held [] zs = omega arith
bits_first b at held (bit ∷ bits) zs = omega arith

signal_upto : (r free : ℕ) (sg : Option (ℕ × ℕ)) → SignalFits free sg → AllUpTo ((elim sg [ None ↦ free | Some x ↦ x.1 ]) + r) (host free Data Free ∷ signal_steps sg)
signal_upto r free None h = (omega arith, tt)
signal_upto r free (Some (pull, again)) h = (omega (arith, h.0, h.1), (omega (arith, h.0, h.1), (omega arith, tt)))

last_is : (x : Step) (v : Bool) (y : Step) → moment_of x ≤ moment_of y → merge (x ∷ []) (if v then y ∷ [] else []) ≡ x ∷ (if v then y ∷ [] else [])
last_is x true y h = merge_here x [] y [] h
last_is x false y h = refl

pub told_is : (b : Party) (at : ℕ) (f : Told) → ToldFits b at f → merge (taking b f) (telling b at f) ≡ one_told b at f
told_is b at f h =
    let accept = for_one b.device (Said (number_of f.bits) (is_last f)) (host f.accept Data Pull) in
    let bits = bit_steps b (first_bit b f) false f.bits in
    let last = if is_last f then drive b.device (f.accept + b.reaction) Clock Free ∷ [] else [] in
    let free = h.free in
    let eight = h.eight in
    let taken = h.accept in
    merge_there (host f.free Data Free) (signal_steps f.signal ++ accept ∷ []) (drive b.device at Clock Free) (bits ++ last) (omega (arith, free))
    ∙ ap (λ (zs : List Step). drive b.device at Clock Free ∷ zs)
    (merge_over (first_bit b f) (host f.free Data Free ∷ signal_steps f.signal) (accept ∷ []) (bits ++ last) (signal_upto b.reaction f.free f.signal h.signal) (bits_first b (first_bit b f) false f.bits last)
    ∙ ap (λ (zs : List Step). host f.free Data Free ∷ (signal_steps f.signal ++ zs))
    (merge_after_it accept [] bits last (bits_before b (first_bit b f) f.accept false f.bits (omega (arith, eight, taken, by_eight b.pace eight)))
    ∙ ap (λ (zs : List Step). bits ++ zs) (last_is accept (is_last f) (drive b.device (f.accept + b.reaction) Clock Free) (omega arith))))
