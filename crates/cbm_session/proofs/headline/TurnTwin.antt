-- A turnaround in which there is a byte to say and one in which there is none: on any bus they go together up to the talker's answer, and part there.
use Rattle.std.proofs.Common.{eq-eqb, true}
use Rattle.cbm_iec.specs.declared.pace.Pace.TheVariants.{Profile, Kernal}
use Rattle.cbm_iec.specs.declared.pace.Pace.{Pace}
use Rattle.cbm_session.proofs.among.Around.{every_merge}
use Rattle.cbm_session.proofs.among.Calm.{Every}
use Rattle.cbm_session.proofs.among.Turns.{silent_sooner}
use Rattle.cbm_session.proofs.joining.Silents.{silent_from}
use Rattle.std.proofs.Common.{◌≡◌, ℕ, ◌+◌, ◌≤◌, ◌<◌, ◌⊎◌, inl, inr, false, List, [], ◌∷◌, ◌++◌, map, Option, Some, None, ap, sym, ◌∙◌, subst, arith, refl}
use Rattle.std.proofs.lemmas.Bool.Decides.{leb_tells}
use Rattle.std.specs.Prelude.{nat_eq}
use Rattle.cbm_iec.specs.declared.machine.Act.TheVariants.{Released}
use Rattle.cbm_iec.specs.declared.event.Event.{Event}
use Rattle.cbm_iec.specs.declared.event.Who.TheVariants.{Host, Drive}
use Rattle.cbm_iec.specs.declared.event.Who.{Who}
use Rattle.cbm_iec.specs.declared.lines.Line.TheVariants.{Atn, Clock, Data}
use Rattle.cbm_iec.specs.declared.lines.Way.TheVariants.{Pull, Free}
use Rattle.cbm_iec.specs.declared.party.Role.TheVariants.{Absent, Listener, Talker}
use Rattle.cbm_iec.specs.declared.party.Role.{Role}
use Rattle.cbm_session.proofs.among.Around.{NotHost, ForOthers, merge_drives}
use Rattle.cbm_session.proofs.among.Points.{only_talker}
use Rattle.cbm_session.proofs.among.Standing.{IsSound}
use Rattle.cbm_session.proofs.among.Turns.{from_role, late_drives}
use Rattle.cbm_session.proofs.frames.Phases.{each}
use Rattle.cbm_session.proofs.headline.TalkSwap.{Twin}
use Rattle.cbm_session.proofs.joining.Merging.{merge_here, merge_there}
use Rattle.cbm_session.proofs.joining.Seating.{Apart, Sits}
use Rattle.cbm_session.proofs.reading.PieceReadings.{turn_first}
use Rattle.cbm_session.specs.Joins.{NotBefore}
use Rattle.cbm_session.specs.Pieces.{silent_end, silent_at, silent_part, Point, own_part, steps_of, let_go, freed_steps, FreedFits, ToTalker, Nothing}
use Rattle.cbm_session.specs.Seats.{Seat, device, reaction, is_talker}
use Rattle.cbm_session.specs.Steps.{Step, events_of, host, drive, for_each, moment_of, merge, merge_all}

-- a step of drive d, and one of another drive
abbrev pub IsOwn : ℕ → Who → Type 0
IsOwn d Host = ⊥
IsOwn d (Drive o) = nat_eq d o ≡ true

abbrev pub Foreign : ℕ → Step → Type 0
Foreign d s = elim s.event.who as (λ w. Type 0) [ Host ↦ ⊥ | Drive o ↦ nat_eq d o ≡ false ]

-- Two lists that part where one has a step of drive d at m, and the other a step of a drive from m up to n.
abbrev pub Parts : ℕ → ℕ → ℕ → List Step → List Step → Type 0
Parts d m n [] ys = ⊥
Parts d m n (x ∷ xs) [] = ⊥
Parts d m n (x ∷ xs) (y ∷ ys) = ((x ≡ y) × (moment_of x ≤ m) × Parts d m n xs ys) ⊎ ((moment_of x ≡ m) × (m ≤ moment_of y) × (moment_of y ≤ n) × IsOwn d x.event.who × NotHost y.event.who × (x.event ≡ y.event → ⊥))

-- two lists that are the same but for what the second has after n
abbrev pub Alike : ℕ → ℕ → ℕ → List Step → List Step → Type 0
Alike d m n [] [] = Unit {0}
Alike d m n [] (y ∷ ys) = n < moment_of y
Alike d m n (x ∷ xs) [] = ⊥
Alike d m n (x ∷ xs) (y ∷ ys) = (x ≡ y) × ((moment_of x ≤ m) ⊎ Foreign d x) × Alike d m n xs ys

pub alike : (d m n : ℕ) (xs : List Step) → Every (Foreign d) xs → Alike d m n xs xs
alike d m n [] a = tt
alike d m n (x ∷ xs) a = (refl, inr a.0, alike d m n xs a.1)

own_drive : (d : ℕ) (w : Who) → IsOwn d w → NotHost w
own_drive d Host h = h
own_drive d (Drive o) h = tt

foreign_drive : (d : ℕ) (s : Step) → Foreign d s → NotHost s.event.who
foreign_drive d s h = go s.event.who h
  where
    go : (w : Who) → (elim w as (λ v. Type 0) [ Host ↦ ⊥ | Drive o ↦ nat_eq d o ≡ false ]) → NotHost w
    go Host k = k
    go (Drive o) k = tt

foreign_differs : (d : ℕ) (x b : Step) → IsOwn d x.event.who → Foreign d b → x.event ≡ b.event → ⊥
foreign_differs d x b h k e = go x.event.who b.event.who h k (ap (λ (v : Event). v.who) e)
  where
    go : (w v : Who) → IsOwn d w → (elim v as (λ u. Type 0) [ Host ↦ ⊥ | Drive o ↦ nat_eq d o ≡ false ]) → w ≡ v → ⊥
    go Host v a c e = a
    go (Drive o) Host a c e = c
    go (Drive o) (Drive u) a c e = let both : true ≡ false = sym a ∙ subst (λ (w : Who). elim w as (λ z. Type 0) [ Host ↦ ⊥ | Drive i ↦ nat_eq d i ≡ false ]) (sym e) c in absurd cc

pub twin_parts : (t d m n : ℕ) (xs ys : List Step) → Parts d m n xs ys → Twin t xs ys
twin_parts t d m n [] ys p = elim p [ ]
twin_parts t d m n (x ∷ xs) [] p = elim p [ ]
twin_parts t d m n (x ∷ xs) (y ∷ ys) (inl p) = inl (ap (λ (s : Step). s.event) p.0, twin_parts t d m n xs ys p.2)
twin_parts t d m n (x ∷ xs) (y ∷ ys) (inr p) = inr (go x.event.who y.event.who (own_drive d x.event.who p.3) p.4, p.5)
  where
    go : (w v : Who) → NotHost w → NotHost v → Rattle.cbm_session.proofs.headline.TalkSwap.Apart t w (moment_of x) v (moment_of y)
    go Host v a b = elim a [ ]
    go (Drive o) Host a b = elim b [ ]
    go (Drive o) (Drive u) a b = tt

-- and read backwards
pub twin_back : (t d m n : ℕ) (xs ys : List Step) → Parts d m n xs ys → Twin t ys xs
twin_back t d m n [] ys p = elim p [ ]
twin_back t d m n (x ∷ xs) [] p = elim p [ ]
twin_back t d m n (x ∷ xs) (y ∷ ys) (inl p) = inl (sym (ap (λ (s : Step). s.event) p.0), twin_back t d m n xs ys p.2)
twin_back t d m n (x ∷ xs) (y ∷ ys) (inr p) = inr (go y.event.who x.event.who p.4 (own_drive d x.event.who p.3), λ e. p.5 (sym e))
  where
    go : (w v : Who) → NotHost w → NotHost v → Rattle.cbm_session.proofs.headline.TalkSwap.Apart t w (moment_of y) v (moment_of x)
    go Host v a b = elim a [ ]
    go (Drive o) Host a b = elim b [ ]
    go (Drive o) (Drive u) a b = tt

-- so their events aren't the same
pub parts_differ : (d m n : ℕ) (xs ys : List Step) (us vs : List Event) → Parts d m n xs ys → events_of xs ++ us ≡ events_of ys ++ vs → ⊥
parts_differ d m n [] ys us vs p e = p
parts_differ d m n (x ∷ xs) [] us vs p e = p
parts_differ d m n (x ∷ xs) (y ∷ ys) us vs (inl p) e = parts_differ d m n xs ys us vs p.2 cc
parts_differ d m n (x ∷ xs) (y ∷ ys) us vs (inr p) e = let k : x.event ≡ y.event = cc in p.5 k

-- the second joined with a list that stands after n
one_late : (d m n : ℕ) (b : Step) (bs xs ys : List Step) → m ≤ n → n < moment_of b → Parts d m n xs ys → Parts d m n xs (merge (b ∷ bs) ys)
one_late d m n b bs [] ys w l p = elim p [ ]
one_late d m n b bs (x ∷ xs) [] w l p = elim p [ ]
one_late d m n b bs (x ∷ xs) (y ∷ ys) w l (inl p) =
    let same : moment_of x ≡ moment_of y = ap (λ (s : Step). moment_of s) p.0 in
    let soon = p.1 in
    subst (λ (v : List Step). Parts d m n (x ∷ xs) v) (sym (merge_there b bs y ys (omega (arith, w, l, soon, same)))) (inl (p.0, p.1, one_late d m n b bs xs ys w l p.2))
one_late d m n b bs (x ∷ xs) (y ∷ ys) w l (inr p) =
    let now = p.2 in
    subst (λ (v : List Step). Parts d m n (x ∷ xs) v) (sym (merge_there b bs y ys (omega (arith, l, now)))) (inr p)

pub parts_first : (d m n : ℕ) (fs gs xs ys : List Step) → m ≤ n → Alike d m n fs gs → Parts d m n xs ys → Parts d m n (merge fs xs) (merge gs ys)
parts_first d m n [] [] xs ys w a p = p
parts_first d m n [] (b ∷ bs) xs ys w a p = one_late d m n b bs xs ys w a p
parts_first d m n (f ∷ fs) [] xs ys w a p = elim a [ ]
parts_first d m n (f ∷ fs) (g ∷ gs) xs ys w a p = subst (λ (v : Step). Parts d m n (merge (f ∷ fs) xs) (merge (v ∷ gs) ys)) a.0 (go xs ys p (λ us vs q. parts_first d m n fs gs us vs w a.2 q))
  where
    go : (xs ys : List Step) → Parts d m n xs ys → ((us vs : List Step) → Parts d m n us vs → Parts d m n (merge fs us) (merge gs vs)) → Parts d m n (merge (f ∷ fs) xs) (merge (f ∷ gs) ys)
    go [] ys p next = elim p [ ]
    go (x ∷ xs) [] p next = elim p [ ]
    go (x ∷ xs) (y ∷ ys) (inl p) next =
        let soon = p.1 in
        let same : moment_of x ≡ moment_of y = ap (λ (s : Step). moment_of s) p.0 in
        elim (leb_tells (moment_of f) (moment_of x)) [
          | inl u ↦ (
              let k = u.1 in
              subst (λ (v : List Step). Parts d m n v (merge (f ∷ gs) (y ∷ ys))) (sym (merge_here f fs x xs k))
              (subst (λ (v : List Step). Parts d m n (f ∷ merge fs (x ∷ xs)) v) (sym (merge_here f gs y ys (omega (arith, k, same)))) (inl (refl, omega (arith, k, soon), next (x ∷ xs) (y ∷ ys) (inl p))))
              )
          | inr u ↦ (
              let k = u.1 in
              subst (λ (v : List Step). Parts d m n v (merge (f ∷ gs) (y ∷ ys))) (sym (merge_there f fs x xs k))
              (subst (λ (v : List Step). Parts d m n (x ∷ merge (f ∷ fs) xs) v) (sym (merge_there f gs y ys (omega (arith, k, same)))) (inl (p.0, p.1, go xs ys p.2 next)))
              )
        ]
    go (x ∷ xs) (y ∷ ys) (inr p) next =
        let now = p.0 in
        let now2 = p.1 in
        let now3 = p.2 in
        elim (leb_tells (moment_of f) (moment_of x)) [
          | inl u ↦ (
              let k = u.1 in
              subst (λ (v : List Step). Parts d m n v (merge (f ∷ gs) (y ∷ ys))) (sym (merge_here f fs x xs k))
              (subst (λ (v : List Step). Parts d m n (f ∷ merge fs (x ∷ xs)) v) (sym (merge_here f gs y ys (omega (arith, k, now, now2)))) (inl (refl, omega (arith, k, now), next (x ∷ xs) (y ∷ ys) (inr p))))
              )
          | inr u ↦ (
              let k = u.1 in
              subst (λ (v : List Step). Parts d m n v (merge (f ∷ gs) (y ∷ ys))) (sym (merge_there f fs x xs k))
              (elim (leb_tells (moment_of f) (moment_of y)) [
                | inl q ↦ (
                    let j = q.1 in
                    let other : Foreign d f = is_foreign a.1 (omega (arith, k, now)) in
                    subst (λ (v : List Step). Parts d m n (x ∷ merge (f ∷ fs) xs) v) (sym (merge_here f gs y ys j)) (inr (now, omega (arith, k, now), omega (arith, j, now3), p.3, foreign_drive d f other, foreign_differs d x f p.3 other))
                    )
                | inr q ↦ subst (λ (v : List Step). Parts d m n (x ∷ merge (f ∷ fs) xs) v) (sym (merge_there f gs y ys q.1)) (inr p)
              ])
              )
        ]
      where
        is_foreign : (moment_of f ≤ m) ⊎ Foreign d f → m < moment_of f → Foreign d f
        is_foreign (inl h) l = absurd (omega (arith, h, l))
        is_foreign (inr h) l = h

-- and with other drives' steps that stand after both
pub parts_after : (d m n : ℕ) (xs ys bs : List Step) → Every (Foreign d) bs → Parts d m n xs ys → Parts d m n (merge xs bs) (merge ys bs)
parts_after d m n [] ys bs o p = elim p [ ]
parts_after d m n (x ∷ xs) [] bs o p = elim p [ ]
parts_after d m n (x ∷ xs) (y ∷ ys) bs o p = go bs o p (λ cs w q. parts_after d m n xs ys cs w q)
  where
    go : (bs : List Step) → Every (Foreign d) bs → Parts d m n (x ∷ xs) (y ∷ ys) → ((cs : List Step) → Every (Foreign d) cs → Parts d m n xs ys → Parts d m n (merge xs cs) (merge ys cs)) → Parts d m n (merge (x ∷ xs) bs) (merge (y ∷ ys) bs)
    go [] o (inl p) next = inl (p.0, p.1, next [] tt p.2)
    go [] o (inr p) next = inr p
    go (b ∷ bs) o (inl p) next =
        let soon = p.1 in
        let same : moment_of x ≡ moment_of y = ap (λ (s : Step). moment_of s) p.0 in
        elim (leb_tells (moment_of x) (moment_of b)) [
          | inl u ↦ (
              let k = u.1 in
              subst (λ (v : List Step). Parts d m n v (merge (y ∷ ys) (b ∷ bs))) (sym (merge_here x xs b bs k))
              (subst (λ (v : List Step). Parts d m n (x ∷ merge xs (b ∷ bs)) v) (sym (merge_here y ys b bs (omega (arith, k, same)))) (inl (p.0, p.1, next (b ∷ bs) o p.2)))
              )
          | inr u ↦ (
              let k = u.1 in
              subst (λ (v : List Step). Parts d m n v (merge (y ∷ ys) (b ∷ bs))) (sym (merge_there x xs b bs k))
              (subst (λ (v : List Step). Parts d m n (b ∷ merge (x ∷ xs) bs) v) (sym (merge_there y ys b bs (omega (arith, k, same)))) (inl (refl, omega (arith, k, soon), go bs o.1 (inl p) next)))
              )
        ]
    go (b ∷ bs) o (inr p) next =
        let now = p.0 in
        let now2 = p.1 in
        let now3 = p.2 in
        elim (leb_tells (moment_of x) (moment_of b)) [
          | inl u ↦ (
              let k = u.1 in
              subst (λ (v : List Step). Parts d m n v (merge (y ∷ ys) (b ∷ bs))) (sym (merge_here x xs b bs k))
              (elim (leb_tells (moment_of y) (moment_of b)) [
                | inl q ↦ subst (λ (v : List Step). Parts d m n (x ∷ merge xs (b ∷ bs)) v) (sym (merge_here y ys b bs q.1)) (inr p)
                | inr q ↦ (
                    let j = q.1 in
                    subst (λ (v : List Step). Parts d m n (x ∷ merge xs (b ∷ bs)) v) (sym (merge_there y ys b bs j)) (inr (now, omega (arith, k, now), omega (arith, j, now3), p.3, foreign_drive d b o.0, foreign_differs d x b p.3 o.0))
                    )
              ])
              )
          | inr u ↦ (
              let k = u.1 in
              subst (λ (v : List Step). Parts d m n v (merge (y ∷ ys) (b ∷ bs))) (sym (merge_there x xs b bs k))
              (subst (λ (v : List Step). Parts d m n (b ∷ merge (x ∷ xs) bs) v) (sym (merge_there y ys b bs (omega (arith, k, now, now2)))) (inl (refl, omega (arith, k, now), go bs o.1 (inr p) next)))
              )
        ]

-- The parts of a bus of which those of one drive part, and all others are the same.
same_lists : (d : ℕ) (own own2 : Seat → List Step) (xs : List Seat) → ForOthers d (λ x. own x ≡ own2 x) xs → Apart d xs → map own xs ≡ map own2 xs
same_lists d own own2 [] h a = refl
same_lists d own own2 (x ∷ xs) h a = ap (λ (l : List Step). l ∷ map own xs) (h.0 a.0) ∙ ap (λ (l : List (List Step)). own2 x ∷ l) (same_lists d own own2 xs h.1 a.1)

parts_rest : (d m n : ℕ) (fs gs : List Step) (ls : List Step) → Every (Foreign d) ls → Parts d m n fs gs → Parts d m n (merge fs ls) (merge gs ls)
parts_rest d m n fs gs ls o p = parts_after d m n fs gs ls o p

foreign_all : (d : ℕ) (own : Seat → List Step) (l : List Step) (xs : List Seat) → Every (Foreign d) l → ForOthers d (λ x. Every (Foreign d) (own x)) xs → Apart d xs → Every (Foreign d) (merge_all l (map own xs))
foreign_all d own l [] a h p = a
foreign_all d own l (x ∷ xs) a h p = every_merge (Foreign d) l (merge_all (own x) (map own xs)) a (foreign_all d own (own x) xs (h.0 p.0) h.1 p.1)

pub parts_of_bus : (m n d : ℕ) (own own2 : Seat → List Step) (fs gs : List Step) (xs : List Seat) (s : Seat) → m ≤ n → Alike d m n fs gs → ForOthers d (λ x. own x ≡ own2 x) xs → ForOthers d (λ x. Every (Foreign d) (own x)) xs → Sits d xs s → Parts d m n (own s) (own2 s) → Parts d m n (merge_all fs (map own xs)) (merge_all gs (map own2 xs))
parts_of_bus m n d own own2 fs gs [] s w a h o i p = elim i [ ]
parts_of_bus m n d own own2 fs gs (x ∷ []) s w a h o (inl i) p = parts_first d m n fs gs (own x) (own2 x) w a (subst (λ (v : Seat). Parts d m n (own v) (own2 v)) (sym i.0) p)
parts_of_bus m n d own own2 fs gs (x ∷ y ∷ ys) s w a h o (inl i) p =
    let here : Parts d m n (own x) (own2 x) = subst (λ (v : Seat). Parts d m n (own v) (own2 v)) (sym i.0) p in
    let rest = merge_all (own y) (map own ys) in
    parts_first d m n fs gs (merge_all (own x) (map own (y ∷ ys))) (merge_all (own2 x) (map own2 (y ∷ ys))) w a
    (subst (λ (l : List (List Step)). Parts d m n (merge_all (own x) (map own (y ∷ ys))) (merge_all (own2 x) l)) (same_lists d own own2 (y ∷ ys) h.1 i.2)
    (parts_rest d m n (own x) (own2 x) rest (foreign_all d own (own y) ys (o.1.0 i.2.0) o.1.1 i.2.1) here))
parts_of_bus m n d own own2 fs gs (x ∷ xs) s w a h o (inr i) p =
    parts_first d m n fs gs (merge_all (own x) (map own xs)) (merge_all (own2 x) (map own2 xs)) w a
    (parts_of_bus m n d own own2 (own x) (own2 x) xs s w (subst (λ (l : List Step). Alike d m n (own x) l) (h.0 i.0) (alike d m n (own x) (o.0 i.0))) h.1 o.1 i.1 p)

-- The turnaround of a bus: the host's two changes, and what comes after them.
abbrev pub turn_begins : ℕ → List Step → List Step
turn_begins at ys = host at Data Pull ∷ for_each Released (host at Atn Free) ∷ ys

abbrev pub leads : Point → ℕ → ℕ → List Step
leads p at clock = merge_all (host clock Clock Free ∷ []) (map (λ x. own_part p (ToTalker at clock) x) p.seats)

abbrev pub mutes : Point → ℕ → ℕ → Option ℕ → List Step
mutes p at clock freed = merge_all (host clock Clock Free ∷ freed_steps freed) (map (λ x. own_part p (Nothing at clock freed) x) p.seats)

turn_is : (own : Seat → List Step) (at : ℕ) (hs : List Step) (seats : List Seat) → NotBefore at (merge_all [] (map own seats)) → merge_all (turn_begins at hs) (map own seats) ≡ turn_begins at (merge_all hs (map own seats))
turn_is own at hs seats late =
    merge_drives own (turn_begins at hs) seats ∙ turn_first at hs (merge_all [] (map own seats)) late ∙ ap (λ (zs : List Step). turn_begins at zs) (sym (merge_drives own hs seats))

pub lead_steps : (p : Point) (at clock : ℕ) → at ≤ clock → steps_of p (ToTalker at clock) ≡ turn_begins at (leads p at clock)
lead_steps p at clock late =
    turn_is (λ x. own_part p (ToTalker at clock) x) at (host clock Clock Free ∷ []) p.seats
    (late_drives at (λ x. own_part p (ToTalker at clock) x) p.seats
    (λ (x : Seat). from_role at x.role (let_go at x) (drive (device x) (clock + reaction x) Clock Pull ∷ drive (device x) (clock + reaction x) Data Free ∷ []) (omega arith, tt) (omega (arith, late), (omega (arith, late), tt))))

pub mute_steps : (p : Point) (at clock : ℕ) (freed : Option ℕ) → at ≤ clock → steps_of p (Nothing at clock freed) ≡ turn_begins at (mutes p at clock freed)
mute_steps p at clock freed late =
    turn_is (λ x. own_part p (Nothing at clock freed) x) at (host clock Clock Free ∷ freed_steps freed) p.seats
    (late_drives at (λ x. own_part p (Nothing at clock freed) x) p.seats
    (λ (x : Seat). from_role at x.role (let_go at x) (silent_part x.party.pace (device x) (clock + reaction x)) (omega arith, tt) (silent_sooner x.party.pace (device x) at (clock + reaction x) (omega (arith, late)))))

module _ (p : Point) (s : Seat) (sound : IsSound p s) (talks : s.role ≡ Talker) (at clock : ℕ) where
  others_same : (freed : Option ℕ) → ForOthers (device s) (λ x. own_part p (ToTalker at clock) x ≡ own_part p (Nothing at clock freed) x) p.seats
  others_same freed =
      each (λ x. nat_eq (device s) (device x) ≡ false → is_talker x.role ≡ false) (λ x. nat_eq (device s) (device x) ≡ false → own_part p (ToTalker at clock) x ≡ own_part p (Nothing at clock freed) x) p.seats
      (λ x k n. go x x.role (k n)) (only_talker (device s) p.seats s sound.seated.one sound.seated.sits (ap is_talker talks))
    where
      go : (x : Seat) (r : Role) → is_talker r ≡ false
          → (elim r as (λ q. List Step) [ Absent ↦ let_go at x | Listener ↦ [] | Talker ↦ drive (device x) (clock + reaction x) Clock Pull ∷ drive (device x) (clock + reaction x) Data Free ∷ [] ])
          ≡ (elim r as (λ q. List Step) [ Absent ↦ let_go at x | Listener ↦ [] | Talker ↦ silent_part x.party.pace (device x) (clock + reaction x) ])
      go x Absent n = refl
      go x Listener n = refl
      go x Talker n = absurd cc

  lead_own : own_part p (ToTalker at clock) s ≡ drive (device s) (clock + reaction s) Clock Pull ∷ drive (device s) (clock + reaction s) Data Free ∷ []
  lead_own = ap (λ (r : Role). elim r as (λ q. List Step) [ Absent ↦ let_go at s | Listener ↦ [] | Talker ↦ drive (device s) (clock + reaction s) Clock Pull ∷ drive (device s) (clock + reaction s) Data Free ∷ [] ]) talks

  mute_own : (freed : Option ℕ) → own_part p (Nothing at clock freed) s ≡ silent_part s.party.pace (device s) (clock + reaction s)
  mute_own freed = ap (λ (r : Role). elim r as (λ q. List Step) [ Absent ↦ let_go at s | Listener ↦ [] | Talker ↦ silent_part s.party.pace (device s) (clock + reaction s) ]) talks

  two_lines : Clock ≡ Data → ⊥
  two_lines e = cc

  abbrev pub due : ℕ
  due = clock + reaction s

  abbrev pub last : ℕ
  last = silent_end s.party clock

  freed_later : (freed : Option ℕ) → FreedFits last freed → Alike (device s) due last (host clock Clock Free ∷ []) (host clock Clock Free ∷ freed_steps freed)
  freed_later None f = (refl, inl (omega arith), tt)
  freed_later (Some g) f = (refl, inl (omega arith), omega (arith, f))

  others_foreign : ForOthers (device s) (λ x. Every (Foreign (device s)) (own_part p (ToTalker at clock) x)) p.seats
  others_foreign =
      each (λ x. nat_eq (device s) (device x) ≡ false → is_talker x.role ≡ false) (λ x. nat_eq (device s) (device x) ≡ false → Every (Foreign (device s)) (own_part p (ToTalker at clock) x)) p.seats
      (λ x k n. go x x.role (k n) n) (only_talker (device s) p.seats s sound.seated.one sound.seated.sits (ap is_talker talks))
    where
      go : (x : Seat) (r : Role) → is_talker r ≡ false → nat_eq (device s) (device x) ≡ false
          → Every (Foreign (device s)) (elim r as (λ q. List Step) [ Absent ↦ let_go at x | Listener ↦ [] | Talker ↦ drive (device x) (clock + reaction x) Clock Pull ∷ drive (device x) (clock + reaction x) Data Free ∷ [] ])
      go x Absent n h = (h, tt)
      go x Listener n h = tt
      go x Talker n h = absurd cc

  mine : nat_eq (device s) (device s) ≡ true
  mine = eq-eqb (device s) (device s) refl

  own_parts : (e : Pace) → Parts (device s) due (silent_at e due) (drive (device s) due Clock Pull ∷ drive (device s) due Data Free ∷ []) (silent_part e (device s) due)
  own_parts Profile = inr (refl, omega arith, omega arith, mine, tt, λ e. two_lines (ap (λ (v : Event). v.change.line) e))
  own_parts Kernal = inl (refl, omega arith, inr (refl, omega arith, omega arith, mine, tt, λ e. two_lines (sym (ap (λ (v : Event). v.change.line) e))))

  pub lead_mute : (freed : Option ℕ) → FreedFits last freed → Parts (device s) due last (leads p at clock) (mutes p at clock freed)
  lead_mute freed f =
      parts_of_bus due last (device s) (λ x. own_part p (ToTalker at clock) x) (λ x. own_part p (Nothing at clock freed) x) (host clock Clock Free ∷ []) (host clock Clock Free ∷ freed_steps freed) p.seats s (silent_from s.party clock) (freed_later freed f) (others_same freed) others_foreign sound.seated.sits
      (subst (λ (v : List Step). Parts (device s) due last v (own_part p (Nothing at clock freed) s)) (sym lead_own)
      (subst (λ (v : List Step). Parts (device s) due last (drive (device s) due Clock Pull ∷ drive (device s) due Data Free ∷ []) v) (sym (mute_own freed)) (own_parts s.party.pace)))
