-- The host's part of each piece is in order.
use Rattle.cbm_iec.specs.declared.party.Party.{Party}
use Rattle.cbm_session.specs.Pieces.{silent_end}
use Rattle.cbm_session.proofs.joining.Silents.{silent_from}
use Rattle.std.proofs.Common.{append_assoc, not, ℕ, ◌+◌, ◌≤◌, Bool, true, false, List, [], ◌∷◌, ◌++◌, Option, Some, None, sym, subst, arith}
use Rattle.cbm_iec.specs.declared.machine.Act.TheVariants.{Pulled, Released}
use Rattle.cbm_iec.specs.declared.lines.Line.TheVariants.{Atn, Clock, Data}
use Rattle.cbm_iec.specs.declared.lines.Way.TheVariants.{Pull, Free}
use Rattle.cbm_session.proofs.joining.Merging.{NoneBefore, InOrder}
use Rattle.cbm_session.proofs.joining.OneDrive.{last_after}
use Rattle.cbm_session.proofs.joining.Owning.{none_append}
use Rattle.cbm_session.proofs.reading.Decoding.{next}
use Rattle.cbm_session.proofs.reading.OneReading.{freed_order, taking_order}
use Rattle.cbm_session.specs.Bits.{where_held, where_free, BitCell, cell_steps, cells_steps, held_after, last_pull, SetFits, CellsFit}
use Rattle.cbm_session.specs.Frames.{Sent, end_of, sending, StartFits, SentFits}
use Rattle.cbm_session.specs.Pieces.{Whole, Point, freed_steps, host_part, FreedFits, Fits, PullPiece, Command, Byte, ToListener, ToNobody, ToTalker, Nothing, Talk}
use Rattle.cbm_session.specs.Seats.{Seat, talker_of, listeners}
use Rattle.cbm_session.specs.Steps.{Step, host, for_each}

-- the host's part of a piece is in order
cells_none : (m : ℕ) (held : Bool) (pull : ℕ) (cs : List BitCell) → CellsFit held pull cs → m ≤ pull → NoneBefore m (cells_steps held cs)
cells_none m held pull [] h l = tt
cells_none m held pull (c ∷ cs) h l = go held c.bit c.set c.free c.pull h.0.set h.0.free h.0.pulled (cells_none m (not c.bit) c.pull cs h.1 (far h.0.free h.0.pulled))
  where
    far : pull + 20 ≤ c.free → c.free + 20 ≤ c.pull → m ≤ c.pull
    far a b = omega (arith, a, b, l)

    go : (held bit : Bool) (set free next : ℕ) → SetFits held bit pull set → pull + 20 ≤ free → free + 20 ≤ next → NoneBefore m (cells_steps (not bit) cs)
        → NoneBefore m (cell_steps held (record { bit = bit; set = set; free = free; pull = next }) ++ cells_steps (not bit) cs)
    go true true set free next s a b n = (omega (arith, l, s), (omega (arith, l, a), (omega (arith, l, a, b), n)))
    go false false set free next s a b n = (omega (arith, l, s), (omega (arith, l, a), (omega (arith, l, a, b), n)))
    go true false set free next s a b n = (omega (arith, l, a), (omega (arith, l, a, b), n))
    go false true set free next s a b n = (omega (arith, l, a), (omega (arith, l, a, b), n))

cells_order : (held : Bool) (pull : ℕ) (cs : List BitCell) (tail : List Step) → CellsFit held pull cs → InOrder tail → ((m : ℕ) → m ≤ last_pull pull cs → NoneBefore m tail) → InOrder (cells_steps held cs ++ tail)
cells_order held pull [] tail h o n = o
cells_order held pull (c ∷ cs) tail h o n =
    let rest = cells_order (not c.bit) c.pull cs tail h.1 o n in
    subst InOrder (sym (append_assoc (cell_steps held c) (cells_steps (not c.bit) cs) tail)) (go held c.bit c.set c.free c.pull h.0.settled h.0.pulled rest)
  where
    far : c.pull ≤ last_pull c.pull cs
    far = last_after (not c.bit) c.pull cs h.1

    late : (m : ℕ) → m ≤ c.pull → NoneBefore m (cells_steps (not c.bit) cs ++ tail)
    late m l = let k = far in none_append m (cells_steps (not c.bit) cs) tail (cells_none m (not c.bit) c.pull cs h.1 l) (n m (omega (arith, l, k)))

    go : (held bit : Bool) (set free next : ℕ) → set + 20 ≤ free → free + 20 ≤ c.pull → InOrder (cells_steps (not c.bit) cs ++ tail)
        → InOrder (cell_steps held (record { bit = bit; set = set; free = free; pull = c.pull }) ++ (cells_steps (not c.bit) cs ++ tail))
    go true true set free next s b r = let x = late set (omega (arith, s, b)) in let y = late free (omega (arith, b)) in let z = late c.pull (omega arith) in ((omega (arith, s), (omega (arith, s, b), x)), ((omega (arith, b), y), (z, r)))
    go false false set free next s b r = let x = late set (omega (arith, s, b)) in let y = late free (omega (arith, b)) in let z = late c.pull (omega arith) in ((omega (arith, s), (omega (arith, s, b), x)), ((omega (arith, b), y), (z, r)))
    go true false set free next s b r = let y = late free (omega (arith, b)) in let z = late c.pull (omega arith) in ((omega (arith, b), y), (z, r))
    go false true set free next s b r = let y = late free (omega (arith, b)) in let z = late c.pull (omega arith) in ((omega (arith, b), y), (z, r))

pub sending_order : (hs : List Seat) (eoi : Bool) (f : Sent) → SentFits hs eoi f → f.ready ≤ f.start → InOrder (sending f)
sending_order hs eoi f h l = (
  (l, none_append f.ready (cells_steps false f.cells) tail (cells_none f.ready false f.start f.cells h.cells l) (tail_late f.ready (omega (arith, l, far)))),
  (none_append f.start (cells_steps false f.cells) tail (cells_none f.start false f.start f.cells h.cells (omega arith)) (tail_late f.start far), cells_order false f.start f.cells tail h.cells (tail_order (held_after false f.cells)) tail_late),
)
  where
    tail : List Step
    tail = where_held (held_after false f.cells) (host (end_of f) Data Free)

    far : f.start ≤ end_of f
    far = last_after false f.start f.cells h.cells

    tail_order : (v : Bool) → InOrder (where_held v (host (end_of f) Data Free))
    tail_order true = (tt, tt)
    tail_order false = tt

    late_by : (v : Bool) (m : ℕ) → m ≤ end_of f → NoneBefore m (where_held v (host (end_of f) Data Free))
    late_by true m k = (k, tt)
    late_by false m k = tt

    tail_late : (m : ℕ) → m ≤ end_of f → NoneBefore m tail
    tail_late m k = late_by (held_after false f.cells) m k

pub starts_late : (hs : List Seat) (eoi : Bool) (f : Sent) → StartFits hs eoi f → f.ready ≤ f.start
starts_late hs true f h = omega (arith, h)
starts_late hs false f h = let k = h.0 in omega (arith, k)

pull_order : (at : ℕ) (c d : Bool) → InOrder (for_each Pulled (host at Atn Pull) ∷ (where_free c (host at Clock Pull) ++ where_held d (host at Data Free)))
pull_order at true true = ((omega arith, tt), (tt, tt))
pull_order at true false = (tt, tt)
pull_order at false true = ((omega arith, (omega arith, tt)), ((omega arith, tt), (tt, tt)))
pull_order at false false = ((omega arith, tt), (tt, tt))

turn_order : (at clock : ℕ) (more : List Step) → at ≤ clock → NoneBefore at more → InOrder (host clock Clock Free ∷ more) → InOrder (host at Data Pull ∷ for_each Released (host at Atn Free) ∷ host clock Clock Free ∷ more)
turn_order at clock more l n o = ((omega arith, (omega (arith, l), n)), ((omega (arith, l), n), o))

freed_late : (at clock : ℕ) (b : Party) (x : Option ℕ) → at ≤ clock → FreedFits (silent_end b clock) x → NoneBefore at (freed_steps x)
freed_late at clock b None l h = tt
freed_late at clock b (Some g) l h = (omega (arith, l, h, silent_from b clock), tt)

pub host_order : (p : Point) (w : Whole) → Fits p w → InOrder (host_part p w)
host_order p (PullPiece at) h = pull_order at p.host.clock_low p.host.data_low
host_order p (Command f) h = sending_order p.seats false f h.3 (starts_late p.seats false f h.3.start)
host_order p (Byte eoi f) h = sending_order (listeners p.seats) eoi f h.3 (starts_late (listeners p.seats) eoi f h.3.start)
host_order p (ToListener at) h = (tt, tt)
host_order p (ToNobody at clock) h = ((h.1, tt), (tt, tt))
host_order p (ToTalker at clock) h = turn_order at clock [] (omega (arith, h.1)) tt (tt, tt)
host_order p (Nothing at clock freed) h = turn_order at clock (freed_steps freed) (omega (arith, h.1)) (freed_late at clock (talker_of p.seats) freed (omega (arith, h.1)) h.2) (freed_order clock (talker_of p.seats) freed h.2)
host_order p (Talk at f) h = taking_order (talker_of p.seats) f at h.1
