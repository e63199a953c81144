-- What the others hold is counted over the steps of a piece: after it as many drives hold each line, and the host holds such lines, as the point there says.
use Rattle.std.proofs.Common.{◌≡◌, ℕ, zero, suc, ◌+◌, inl, inr, Bool, true, false, not, List, [], ◌∷◌, ◌++◌, map, ap, sym, ◌∙◌, subst, arith, refl}
use Rattle.std.proofs.lemmas.Bool.Decides.{leb_tells}
use Rattle.std.proofs.lemmas.Bool.{eqb-true}
use Rattle.std.specs.Prelude.{if◌then◌else◌, nat_eq}
use Rattle.cbm_iec.specs.Changes.{is_pull}
use Rattle.cbm_iec.specs.declared.event.Who.TheVariants.{Host, Drive}
use Rattle.cbm_iec.specs.declared.event.Who.{Who}
use Rattle.cbm_iec.specs.declared.lines.Line.TheVariants.{Atn, Clock, Data}
use Rattle.cbm_iec.specs.declared.lines.Line.{Line}
use Rattle.cbm_iec.specs.declared.lines.Way.TheVariants.{Pull, Free}
use Rattle.cbm_iec.specs.declared.lines.Way.{Way}
use Rattle.cbm_iec.specs.declared.lines.Held.{Held}
use Rattle.cbm_iec.specs.declared.lines.Lines.{Lines}
use Rattle.cbm_iec.specs.declared.party.Party.{Party}
use Rattle.cbm_session.proofs.alone.Frames.{wires}
use Rattle.cbm_session.proofs.alone.Sessions.{keep_host, host_of, lines_by, held_one, lines_held, host_before, host_merge, AllHost, cut_atn}
use Rattle.cbm_session.proofs.among.Alternating.{Alters, Makes, makes_front, SeatMakes, part_makes, host_lines, whole_lines}
use Rattle.cbm_session.proofs.among.Standing.{IsSound, rest_next, rest_afterwards}
use Rattle.cbm_session.proofs.frames.Phases.{Each, each, before_merge, merge_split}
use Rattle.cbm_session.proofs.joining.Merging.{merge_nil, by_head, InOrder, none_merge, before_yes, before_no, cut_front, front_before, cut_is}
use Rattle.cbm_session.proofs.joining.Orders.{host_order}
use Rattle.cbm_session.proofs.joining.Owning.{AllOwned, part_owned, part_order, owned_mine, host_mine}
use Rattle.cbm_session.proofs.joining.Seating.{Sits}
use Rattle.cbm_session.proofs.joining.Showing.{AllMine, order_all}
use Rattle.cbm_session.proofs.joining.Talkers.{standing_drives}
use Rattle.cbm_session.proofs.reading.Decoding.{IsMine, IsAnothers, Shows}
use Rattle.cbm_session.proofs.reading.OneReading.{piece_shows}
use Rattle.cbm_session.proofs.reading.PieceReadings.{next_seat, next_seats}
use Rattle.cbm_session.specs.Among.{Rest, counted, after_another}
use Rattle.cbm_session.specs.Buses.{is_held, one_where, holding, rest_at}
use Rattle.cbm_session.specs.Following.{in_attention}
use Rattle.cbm_session.specs.Frames.{is_last}
use Rattle.cbm_session.specs.Pieces.{Whole, Piece, Point, host_part, own_part, steps_of, before, piece_steps, Fits, PieceFits, held_by, seat_with, whole_point, point_after, PullPiece, Command, Byte, ToListener, ToNobody, ToTalker, Nothing, Talk, Full, Cut}
use Rattle.cbm_session.specs.Seats.{lines, Seat, device}
use Rattle.cbm_session.specs.Steps.{Step, moment_of, merge, merge_all}

-- how many drives but d hold a line after a change of some line, after a step, and after steps
abbrev pub count_line : Line → Line → Way → ℕ → ℕ
count_line Atn changed way n = n
count_line Clock Atn way n = n
count_line Clock Clock way n = counted way n
count_line Clock Data way n = n
count_line Data Atn way n = n
count_line Data Clock way n = n
count_line Data Data way n = counted way n

abbrev pub stepped : ℕ → Line → Who → Line → Way → ℕ → ℕ
stepped d line Host changed way n = n
stepped d line (Drive o) changed way n = if nat_eq d o then n else count_line line changed way n

abbrev pub counted_by : ℕ → Line → ℕ → List Step → ℕ
counted_by d line n [] = n
counted_by d line n (s ∷ ss) = counted_by d line (stepped d line s.event.who s.event.change.line s.event.change.way n) ss

abbrev pub rest_of : Lines → ℕ → ℕ → Rest
rest_of host clocks datas = record { host = host; clocks = clocks; datas = datas }

-- what the rest holds is these counts and the host's lines, each by itself
pub rest_is : (d : ℕ) (r : Rest) (ss : List Step) → rest_afterwards d r ss ≡ rest_of (lines_by r.host (host_of ss)) (counted_by d Clock r.clocks ss) (counted_by d Data r.datas ss)
rest_is d r [] = refl
rest_is d r (s ∷ ss) = rest_is d (rest_next d s.event.who l y r) ss ∙ go s.event.who
  where
    l : Line
    l = s.event.change.line

    y : Way
    y = s.event.change.way

    other : (v : Bool) (l : Line) → rest_of (lines_by (if v then r else after_another l y r).host (host_of ss)) (counted_by d Clock (if v then r else after_another l y r).clocks ss) (counted_by d Data (if v then r else after_another l y r).datas ss)
        ≡ rest_of (lines_by r.host (host_of ss)) (counted_by d Clock (if v then r.clocks else count_line Clock l y r.clocks) ss) (counted_by d Data (if v then r.datas else count_line Data l y r.datas) ss)
    other true l = refl
    other false Atn = refl
    other false Clock = refl
    other false Data = refl

    go : (w : Who) → rest_of (lines_by (rest_next d w l y r).host (host_of ss)) (counted_by d Clock (rest_next d w l y r).clocks ss) (counted_by d Data (rest_next d w l y r).datas ss)
        ≡ rest_of (lines_by r.host (keep_host w s (host_of ss))) (counted_by d Clock (stepped d Clock w l y r.clocks) ss) (counted_by d Data (stepped d Data w l y r.datas) ss)
    go Host = refl
    go (Drive o) = other (nat_eq d o) l

-- Steps take a count from a to b, whatever else is counted beside them.
abbrev pub Runs : ℕ → Line → List Step → ℕ → ℕ → Type 0
Runs d line [] a b = a ≡ b
Runs d line (s ∷ ss) a b = (c : ℕ) × ((n : ℕ) → stepped d line s.event.who s.event.change.line s.event.change.way (a + n) ≡ c + n) × Runs d line ss c b

pub runs_count : (d : ℕ) (line : Line) (ss : List Step) (a b : ℕ) → Runs d line ss a b → counted_by d line a ss ≡ b
runs_count d line [] a b h = h
runs_count d line (s ∷ ss) a b h =
    let none : h.0 + 0 ≡ h.0 = omega arith in
    let alone : a + 0 ≡ a = omega arith in
    let same : stepped d line s.event.who s.event.change.line s.event.change.way a ≡ h.0 =
    ap (λ (m : ℕ). stepped d line s.event.who s.event.change.line s.event.change.way m) (sym alone) ∙ h.1 0 ∙ none in
    ap (λ (m : ℕ). counted_by d line m ss) same ∙ runs_count d line ss h.0 b h.2

-- on either side of others
beside_left : (k : ℕ) (d : ℕ) (line : Line) (ss : List Step) (a b : ℕ) → Runs d line ss a b → Runs d line ss (k + a) (k + b)
beside_left k d line [] a b h = ap (λ (m : ℕ). k + m) h
beside_left k d line (s ∷ ss) a b h = (k + h.0, (λ n. moved n), beside_left k d line ss h.0 b h.2)
  where
    moved : (n : ℕ) → stepped d line s.event.who s.event.change.line s.event.change.way (k + a + n) ≡ k + h.0 + n
    moved n =
        let before_it : k + a + n ≡ a + (k + n) = omega arith in
        let after_that : h.0 + (k + n) ≡ k + h.0 + n = omega arith in
        ap (λ (m : ℕ). stepped d line s.event.who s.event.change.line s.event.change.way m) before_it ∙ h.1 (k + n) ∙ after_that

pub runs_subst : (d : ℕ) (line : Line) (ss : List Step) (a b a2 b2 : ℕ) → a ≡ a2 → b ≡ b2 → Runs d line ss a b → Runs d line ss a2 b2
runs_subst d line ss a b a2 b2 e f h = subst (λ (m : ℕ). Runs d line ss a2 m) f (subst (λ (m : ℕ). Runs d line ss m b) e h)

-- counts of two lists add up over their join
pub runs_merge : (d : ℕ) (line : Line) (xs ys : List Step) (a b u v : ℕ) → Runs d line xs a b → Runs d line ys u v → Runs d line (merge xs ys) (a + u) (b + v)
runs_merge d line [] ys a b u v h g = subst (λ (m : ℕ). Runs d line ys (a + u) (m + v)) h (beside_left a d line ys u v g)
runs_merge d line (x ∷ xs) [] a b u v h g =
    subst (λ (zs : List Step). Runs d line zs (a + u) (b + v)) (sym (merge_nil (x ∷ xs)))
    (runs_subst d line (x ∷ xs) (u + a) (u + b) (a + u) (b + v) (omega arith) (omega (arith, g)) (beside_left u d line (x ∷ xs) a b h))
runs_merge d line (x ∷ xs) (y ∷ ys) a b u v h g =
    by_head (λ (zs : List Step). Runs d line zs (a + u) (b + v)) x xs y ys
    (λ e. (h.0 + u, (λ n. here n), runs_merge d line xs (y ∷ ys) h.0 b u v h.2 g))
    (λ e. (a + g.0, (λ n. there n), runs_merge d line (x ∷ xs) ys a b g.0 v h g.2))
  where
    here : (n : ℕ) → stepped d line x.event.who x.event.change.line x.event.change.way (a + u + n) ≡ h.0 + u + n
    here n =
        let before_it : a + u + n ≡ a + (u + n) = omega arith in
        let after_that : h.0 + (u + n) ≡ h.0 + u + n = omega arith in
        ap (λ (m : ℕ). stepped d line x.event.who x.event.change.line x.event.change.way m) before_it ∙ h.1 (u + n) ∙ after_that

    there : (n : ℕ) → stepped d line y.event.who y.event.change.line y.event.change.way (a + u + n) ≡ a + g.0 + n
    there n =
        let before_it : a + u + n ≡ u + (a + n) = omega arith in
        let after_that : g.0 + (a + n) ≡ a + g.0 + n = omega arith in
        ap (λ (m : ℕ). stepped d line y.event.who y.event.change.line y.event.change.way m) before_it ∙ g.1 (a + n) ∙ after_that

-- steps of the host and of drive d count nothing
pub runs_mine : (d : ℕ) (line : Line) (ss : List Step) → AllMine d ss → Runs d line ss zero zero
runs_mine d line [] a = refl
runs_mine d line (s ∷ ss) a = (zero, (λ n. same s.event.who n a.0), runs_mine d line ss a.1)
  where
    same : (w : Who) (n : ℕ) → IsMine d w → stepped d line w s.event.change.line s.event.change.way (0 + n) ≡ 0 + n
    same Host n h = refl
    same (Drive o) n h = ap (λ (v : Bool). if v then 0 + n else count_line line s.event.change.line s.event.change.way (0 + n)) h

-- steps of another drive that go by turns count what it holds
turned : (way : Way) (v : Bool) (n : ℕ) → v ≡ not (is_pull way) → counted way (one_where v + n) ≡ one_where (is_pull way) + n
turned Pull true n e = cc
turned Pull false n e = omega arith
turned Free true n e =
    let more : 1 + n ≡ suc n = omega arith in
    let none : n ≡ 0 + n = omega arith in
    ap (λ (m : ℕ). counted Free m) more ∙ none
turned Free false n e = cc

altered : (line changed : Line) (way : Way) (h : Held) (n : ℕ) → Alters h changed way → count_line line changed way (one_where (is_held line h) + n) ≡ one_where (is_held line (held_one h changed way)) + n
altered line Atn way h n a = elim a [ ]
altered Atn Clock way h n a = refl
altered Atn Data way h n a = refl
altered Clock Clock way h n a = turned way h.clock_low n a
altered Clock Data way h n a = refl
altered Data Clock way h n a = refl
altered Data Data way h n a = turned way h.data_low n a

pub runs_makes : (d o : ℕ) (line : Line) (ss : List Step) (h h2 : Held) → nat_eq d o ≡ false → AllOwned o ss → Makes h ss h2 → Runs d line ss (one_where (is_held line h)) (one_where (is_held line h2))
runs_makes d o line [] h h2 e a m = ap (λ (k : Held). one_where (is_held line k)) (sym m)
runs_makes d o line (s ∷ ss) h h2 e a m = (one_where (is_held line (held_one h l y)), (λ n. same n), runs_makes d o line ss (held_one h l y) h2 e a.2 m.1)
  where
    l : Line
    l = s.event.change.line

    y : Way
    y = s.event.change.way

    same : (n : ℕ) → stepped d line s.event.who l y (one_where (is_held line h) + n) ≡ one_where (is_held line (held_one h l y)) + n
    same n =
        let k = one_where (is_held line h) + n in
        ap (λ (w : Who). stepped d line w l y k) a.0
        ∙ ap (λ (v : Bool). if v then k else count_line line l y k) e
        ∙ altered line l y h n m.0

-- what is asked of each drive: its own steps, which go by turns from what it holds to what it holds after them
abbrev pub Turns : (Seat → List Step) → (Seat → Seat) → Seat → Type 0
Turns own next x = AllOwned (device x) (own x) × Makes x.own (own x) (next x).own

abbrev pub KeepsDevices : (Seat → Seat) → Type 0
KeepsDevices next = (x : Seat) → device (next x) ≡ device x

module _ (d : ℕ) (line : Line) (own : Seat → List Step) (next : Seat → Seat) (keeps : KeepsDevices next) where
  runs_all : (l : List Step) (a b : ℕ) (xs : List Seat) → Runs d line l a b → Each (λ x. Turns own next x) xs → Runs d line (merge_all l (map own xs)) (a + holding line d xs) (b + holding line d (map next xs))
  runs_all l a b [] h t = runs_subst d line l a b (a + 0) (b + 0) (omega arith) (omega arith) h
  runs_all l a b (x ∷ xs) h t = runs_merge d line l (merge_all (own x) (map own xs)) a b (holding line d (x ∷ xs)) (holding line d (map next (x ∷ xs))) h (go (nat_eq d (device x)) refl (λ n m k. runs_all (own x) n m xs k t.1))
    where
      after_that : (v : Bool) → nat_eq d (device x) ≡ v → holding line d (map next (x ∷ xs)) ≡ (if v then holding line d (map next xs) else one_where (is_held line (next x).own) + holding line d (map next xs))
      after_that v e = ap (λ (w : Bool). if w then holding line d (map next xs) else one_where (is_held line (next x).own) + holding line d (map next xs)) (ap (λ (o : ℕ). nat_eq d o) (keeps x) ∙ e)

      before_it : (v : Bool) → nat_eq d (device x) ≡ v → holding line d (x ∷ xs) ≡ (if v then holding line d xs else one_where (is_held line x.own) + holding line d xs)
      before_it v e = ap (λ (w : Bool). if w then holding line d xs else one_where (is_held line x.own) + holding line d xs) e

      go : (v : Bool) → nat_eq d (device x) ≡ v → ((n m : ℕ) → Runs d line (own x) n m → Runs d line (merge_all (own x) (map own xs)) (n + holding line d xs) (m + holding line d (map next xs)))
          → Runs d line (merge_all (own x) (map own xs)) (holding line d (x ∷ xs)) (holding line d (map next (x ∷ xs)))
      go true e f =
          let here : 0 + holding line d xs ≡ holding line d xs = omega arith in
          let there : 0 + holding line d (map next xs) ≡ holding line d (map next xs) = omega arith in
          runs_subst d line (merge_all (own x) (map own xs)) (0 + holding line d xs) (0 + holding line d (map next xs)) (holding line d (x ∷ xs)) (holding line d (map next (x ∷ xs))) (here ∙ sym (before_it true e)) (there ∙ sym (after_that true e))
          (f 0 0 (runs_mine d line (own x) (owned_mine d (device x) (own x) e t.0.0)))
      go false e f =
          runs_subst d line (merge_all (own x) (map own xs)) (one_where (is_held line x.own) + holding line d xs) (one_where (is_held line (next x).own) + holding line d (map next xs)) (holding line d (x ∷ xs)) (holding line d (map next (x ∷ xs))) (sym (before_it false e)) (sym (after_that false e))
          (f (one_where (is_held line x.own)) (one_where (is_held line (next x).own)) (runs_makes d (device x) line (own x) x.own (next x).own e t.0.0 t.0.1))

  -- As many hold the line after the joined steps as the seats after them say.
  pub counts_all : (hs : List Step) (xs : List Seat) → AllMine d hs → Each (λ x. Turns own next x) xs → counted_by d line (holding line d xs) (merge_all hs (map own xs)) ≡ holding line d (map next xs)
  counts_all hs xs m t =
      let a = holding line d xs in
      let b = holding line d (map next xs) in
      let ss = merge_all hs (map own xs) in
      runs_count d line ss a b (runs_subst d line ss (0 + a) (0 + b) a b (omega arith) (omega arith) (runs_all hs 0 0 xs (runs_mine d line hs m) t))

-- a cut of a join of lists in order is the join of their cuts
cut_merge : (c : ℕ) (xs ys : List Step) → InOrder xs → InOrder ys → before c (merge xs ys) ≡ merge (before c xs) (before c ys)
cut_merge c xs ys a b =
    let x = cut_front c xs a in
    let y = cut_front c ys b in
    ap (λ (zs : List Step). before c (merge zs ys)) x.1
    ∙ ap (λ (zs : List Step). before c (merge (before c xs ++ x.0) zs)) y.1
    ∙ ap (λ (zs : List Step). before c zs) (merge_split c (before c xs) x.0 (before c ys) y.0 (front_before c xs) x.2 (front_before c ys) y.2)
    ∙ cut_is c (merge (before c xs) (before c ys)) (merge x.0 y.0) (before_merge c (before c xs) (before c ys) (front_before c xs) (front_before c ys)) (none_merge c x.0 y.0 x.2 y.2)

pub cut_all : (c : ℕ) (own : Seat → List Step) → ((x : Seat) → InOrder (own x)) → (l : List Step) (xs : List Seat) → InOrder l → before c (merge_all l (map own xs)) ≡ merge_all (before c l) (map (λ x. before c (own x)) xs)
cut_all c own f l [] o = refl
cut_all c own f l (x ∷ xs) o =
    cut_merge c l (merge_all (own x) (map own xs)) o (order_all own f (own x) xs (f x))
    ∙ ap (λ (zs : List Step). merge (before c l) zs) (cut_all c own f (own x) xs (f x))

mine_before : (d c : ℕ) (ss : List Step) → AllMine d ss → AllMine d (before c ss)
mine_before d c [] a = tt
mine_before d c (s ∷ ss) a = elim (leb_tells (suc (moment_of s)) c) [
  | inl x ↦ subst (AllMine d) (sym (before_yes c s ss (omega (arith, x.1)))) (a.0, mine_before d c ss a.1)
  | inr x ↦ subst (AllMine d) (sym (before_no c s ss (omega (arith, x.1)))) (mine_before d c ss a.1)
]

owned_before : (o c : ℕ) (ss : List Step) → AllOwned o ss → AllOwned o (before c ss)
owned_before o c [] a = tt
owned_before o c (s ∷ ss) a = elim (leb_tells (suc (moment_of s)) c) [
  | inl x ↦ subst (AllOwned o) (sym (before_yes c s ss (omega (arith, x.1)))) (a.0, a.1, owned_before o c ss a.2)
  | inr x ↦ subst (AllOwned o) (sym (before_no c s ss (omega (arith, x.1)))) (owned_before o c ss a.2)
]

-- The host's steps of a piece are its part, among any number of drives.
pub all_host : (ss : List Step) → AllMine 0 ss → AllMine 1 ss → AllHost ss
all_host [] a b = tt
all_host (s ∷ ss) a b = (go s.event.who a.0 b.0, all_host ss a.1 b.1)
  where
    go : (w : Who) → IsMine 0 w → IsMine 1 w → w ≡ Host
    go Host h k = refl
    go (Drive o) h k =
        let x : 0 ≡ o = eqb-true 0 o h in
        let y : 1 ≡ o = eqb-true 1 o k in
        absurd (omega (arith, x, y))

shown_host : (d : ℕ) (ss m : List Step) → Shows d ss m → host_of ss ≡ host_of m
shown_host d [] m h = ap (λ (zs : List Step). host_of zs) (sym h)
shown_host d (s ∷ ss) m (inl h) = go s.event.who h.0.who (shown_host d ss m h.1)
  where
    go : (w : Who) → IsAnothers d w → host_of ss ≡ host_of m → keep_host w s (host_of ss) ≡ host_of m
    go Host k e = elim k [ ]
    go (Drive o) k e = e
shown_host d (s ∷ ss) m (inr h) = ap (λ (zs : List Step). keep_host s.event.who s zs) (shown_host d ss h.0 h.3) ∙ ap (λ (zs : List Step). host_of zs) (sym h.1)

host_steps : (d : ℕ) (p : Point) (w : Whole) (s : Seat) → Fits p w → Sits d p.seats s → host_of (steps_of p w) ≡ host_part p w
host_steps d p w s h t =
    shown_host d (steps_of p w) (merge (host_part p w) (own_part p w s)) (piece_shows d p w s h t)
    ∙ host_merge (device s) (host_part p w) (own_part p w s) (all_host (host_part p w) (host_mine 0 p w) (host_mine 1 p w)) (part_owned p w s)

next_device : (w : Whole) → KeepsDevices (λ x. next_seat w x)
next_device (PullPiece at) x = refl
next_device (Command f) x = refl
next_device (Byte eoi f) x = ap (λ (b : Party). b.device) (standing_drives (lines false false) x)
next_device (ToListener at) x = ap (λ (b : Party). b.device) (standing_drives (lines false false) x)
next_device (ToNobody at clock) x = ap (λ (b : Party). b.device) (standing_drives (lines false false) x)
next_device (ToTalker at clock) x = ap (λ (b : Party). b.device) (standing_drives (lines true false) x)
next_device (Nothing at clock freed) x = ap (λ (b : Party). b.device) (standing_drives (lines false false) x)
next_device (Talk at f) x = ap (λ (b : Party). b.device) (standing_drives (lines (not (is_last f)) false) x)

whole_turns : (p : Point) (w : Whole) (s : Seat) → IsSound p s → Fits p w → Each (λ x. Turns (λ y. own_part p w y) (λ y. next_seat w y) x) p.seats
whole_turns p w s i h = each (λ x. SeatMakes p w x) (λ x. Turns (λ y. own_part p w y) (λ y. next_seat w y) x) p.seats (λ x m. (part_owned p w x, m)) (part_makes p w i.own h)

-- and after a cut one
abbrev kept : Point → Whole → ℕ → Seat → Seat
kept p w c x = seat_with x.role (held_by x.own (before c (own_part p w x))) x

cut_turns : (p : Point) (w : Whole) (c : ℕ) (s : Seat) → IsSound p s → Fits p w → Each (λ x. Turns (λ y. before c (own_part p w y)) (λ y. kept p w c y) x) p.seats
cut_turns p w c s i h = each (λ x. SeatMakes p w x) (λ x. Turns (λ y. before c (own_part p w y)) (λ y. kept p w c y) x) p.seats (λ x m. (owned_before (device x) c (own_part p w x) (part_owned p w x), front x m)) (part_makes p w i.own h)
  where
    front : (x : Seat) → SeatMakes p w x → Makes x.own (before c (own_part p w x)) (held_by x.own (before c (own_part p w x)))
    front x m =
        let f = cut_front c (own_part p w x) (part_order p w h x) in
        makes_front x.own (next_seat w x).own (before c (own_part p w x)) f.0 (subst (λ (zs : List Step). Makes x.own zs (next_seat w x).own) f.1 m)

-- What the others hold after all steps of a piece is what they hold at the point there.
same_rest : (l l2 : Lines) (a b u v : ℕ) → l ≡ l2 → a ≡ b → u ≡ v → rest_of l a u ≡ rest_of l2 b v
same_rest l l2 a b u v e f g = ap (λ (x : Lines). rest_of x a u) e ∙ ap (λ (n : ℕ). rest_of l2 n u) f ∙ ap (λ (n : ℕ). rest_of l2 b n) g

pub rest_after : (p : Point) (s : Seat) (k : Piece) → IsSound p s → PieceFits p k → rest_afterwards (device s) (rest_at (device s) p) (piece_steps p k) ≡ rest_at (device s) (point_after p k)
rest_after p s (Full w) i h =
    let d = device s in
    let ss = steps_of p w in
    let p2 = whole_point p w in
    rest_is d (rest_at d p) ss
    ∙ same_rest (lines_by (host_lines p) (host_of ss)) (host_lines p2) (counted_by d Clock (holding Clock d p.seats) ss) (holding Clock d p2.seats) (counted_by d Data (holding Data d p.seats) ss) (holding Data d p2.seats)
    (ap (λ (zs : List Step). lines_by (host_lines p) zs) (host_steps d p w s h i.seated.sits) ∙ whole_lines p w i.host h) (count Clock) (count Data)
  where
    count : (line : Line) → counted_by (device s) line (holding line (device s) p.seats) (steps_of p w) ≡ holding line (device s) (whole_point p w).seats
    count line =
        counts_all (device s) line (λ x. own_part p w x) (λ x. next_seat w x) (next_device w) (host_part p w) p.seats (host_mine (device s) p w) (whole_turns p w s i h)
        ∙ ap (λ (xs : List Seat). holding line (device s) xs) (sym (next_seats p w))
rest_after p s (Cut w c) i h =
    let d = device s in
    let ss = before c (steps_of p w) in
    let p2 = point_after p (Cut w c) in
    rest_is d (rest_at d p) ss
    ∙ same_rest (lines_by (host_lines p) (host_of ss)) (host_lines p2) (counted_by d Clock (holding Clock d p.seats) ss) (holding Clock d p2.seats) (counted_by d Data (holding Data d p.seats) ss) (holding Data d p2.seats)
    (ap (λ (zs : List Step). lines_by (host_lines p) zs) (host_before c (steps_of p w) ∙ ap (λ (zs : List Step). before c zs) (host_steps d p w s h.0 i.seated.sits)) ∙ after_the_host) (count Clock) (count Data)
  where
    after_the_host : lines_by (host_lines p) (before c (host_part p w)) ≡ wires false (held_by p.host (before c (host_part p w))).clock_low (held_by p.host (before c (host_part p w))).data_low
    after_the_host =
        lines_held (in_attention p.place) p.host (before c (host_part p w))
        ∙ ap (λ (v : Bool). wires v (held_by p.host (before c (host_part p w))).clock_low (held_by p.host (before c (host_part p w))).data_low) (cut_atn p w c h.1 h.0)

    count : (line : Line) → counted_by (device s) line (holding line (device s) p.seats) (before c (steps_of p w)) ≡ holding line (device s) (map (λ x. kept p w c x) p.seats)
    count line =
        ap (λ (zs : List Step). counted_by (device s) line (holding line (device s) p.seats) zs) (cut_all c (λ x. own_part p w x) (part_order p w h.0) (host_part p w) p.seats (host_order p w h.0))
        ∙ counts_all (device s) line (λ x. before c (own_part p w x)) (λ x. kept p w c x) (λ x. refl) (before c (host_part p w)) p.seats (mine_before (device s) c (host_part p w) (host_mine (device s) p w)) (cut_turns p w c s i h.0)
