-- The bits of a frame of the host put off: from one of CLOCK's changes on all may come later; and after a change of DATA nothing comes at its moment.
use Rattle.std.proofs.Common.{◌≡◌, ℕ, zero, suc, ◌+◌, ◌≤◌, ◌⊎◌, inl, inr, Bool, true, false, not, List, [], ◌∷◌, ◌++◌, length, ap, sym, ◌∙◌, subst, append_assoc, arith, refl}
use Rattle.cbm_iec.specs.declared.lines.Line.TheVariants.{Clock, Data}
use Rattle.cbm_iec.specs.declared.lines.Way.TheVariants.{Pull, Free}
use Rattle.cbm_session.proofs.among.Calm.{Every}
use Rattle.cbm_session.proofs.joining.Merging.{NoneBefore}
use Rattle.cbm_session.specs.Bits.{where_held, BitCell, CellsFit, SetFits, data_for, cell_steps, cells_steps, held_after, last_pull}
use Rattle.cbm_session.specs.Steps.{Step, moment_of, host}

-- so many bits after a pull of CLOCK, DATA left as it is
abbrev pub fresh : Bool → ℕ → ℕ → List BitCell
fresh held zero pull = []
fresh held (suc n) pull = (record { bit = not held; set = pull; free = pull + 20; pull = pull + 40 }) ∷ fresh held n (pull + 40)

pub fresh_length : (held : Bool) (n pull : ℕ) → length (fresh held n pull) ≡ n
fresh_length held zero pull = refl
fresh_length held (suc n) pull = ap (λ (k : ℕ). suc k) (fresh_length held n (pull + 40))

pub fresh_fits : (held : Bool) (n pull : ℕ) → CellsFit held pull (fresh held n pull)
fresh_fits held zero pull = tt
fresh_fits held (suc n) pull = (record { set = fits held; free = omega arith; settled = omega arith; pulled = omega arith }, again held (fresh_fits held n (pull + 40)))
  where
    fits : (v : Bool) → SetFits v (not v) pull pull
    fits true = refl
    fits false = refl

    again : (v : Bool) → CellsFit v (pull + 40) (fresh v n (pull + 40)) → CellsFit (not (not v)) (pull + 40) (fresh v n (pull + 40))
    again true h = h
    again false h = h

-- a list of bits with what comes after the last one
abbrev pub cells_whole : Bool → ℕ → List BitCell → List Step
cells_whole held pull cs = cells_steps held cs ++ where_held (held_after held cs) (host (last_pull pull cs) Data Free)

last_held : (v : Bool) (m at : ℕ) → m ≤ at → NoneBefore m (where_held v (host at Data Free))
last_held true m at l = (l, tt)
last_held false m at l = tt

-- they come no sooner than the pull before them
pub cells_from : (held : Bool) (pull m : ℕ) (cs : List BitCell) → CellsFit held pull cs → m ≤ pull → NoneBefore m (cells_whole held pull cs)
cells_from held pull m [] h l = last_held held m pull l
cells_from held pull m (c ∷ cs) h l =
    let a = h.0.free in
    let b = h.0.pulled in
    go held c.bit h.0.set (cells_from (not c.bit) c.pull m cs h.1 (omega (arith, a, b, l))) (omega (arith, a, l)) (omega (arith, a, b, l))
  where
    go : (held bit : Bool) → SetFits held bit pull c.set → NoneBefore m (cells_whole (not bit) c.pull cs) → m ≤ c.free → m ≤ c.pull → NoneBefore m ((cell_steps held (record { bit = bit; set = c.set; free = c.free; pull = c.pull }) ++ cells_steps (not bit) cs) ++ where_held (held_after (not bit) cs) (host (last_pull c.pull cs) Data Free))
    go true true s n a b = (omega (arith, s, l), (a, (b, n)))
    go false true s n a b = (a, (b, n))
    go true false s n a b = (a, (b, n))
    go false false s n a b = (omega (arith, s, l), (a, (b, n)))

-- A change of CLOCK among them, with all from there on put off.
pub record LaterCells (held : Bool) (pull : ℕ) (cs : List BitCell) (pre : List Step) (t : ℕ) : Type 0 where
  pub cells : List BitCell
  pub fits : CellsFit held pull cells
  pub same : length cells ≡ length cs
  pub first : Step
  pub others : List Step
  pub is : cells_whole held pull cells ≡ pre ++ first ∷ others
  pub late : NoneBefore (suc t) (first ∷ others)

-- the change of DATA of a bit, where there is one
abbrev set_steps : Bool → BitCell → List Step
set_steps held c = data_for (λ way. host c.set Data way) held c.bit

abbrev OfData : Step → Type 0
OfData s = s.event.change.line ≡ Data

set_data : (held : Bool) (c : BitCell) → Every OfData (set_steps held c)
set_data held c = go held c.bit
  where
    go : (held bit : Bool) → Every OfData (data_for (λ way. host c.set Data way) held bit)
    go true true = (refl, tt)
    go false true = tt
    go true false = tt
    go false false = (refl, tt)

whole_is : (held : Bool) (pull : ℕ) (c : BitCell) (cs : List BitCell) → cells_whole held pull (c ∷ cs) ≡ set_steps held c ++ host c.free Clock Free ∷ host c.pull Clock Pull ∷ cells_whole (not c.bit) c.pull cs
whole_is held pull c cs = go held c.bit
  where
    go : (held bit : Bool) → (((data_for (λ way. host c.set Data way) held bit ++ host c.free Clock Free ∷ host c.pull Clock Pull ∷ []) ++ cells_steps (not bit) cs) ++ where_held (held_after (not bit) cs) (host (last_pull c.pull cs) Data Free))
        ≡ data_for (λ way. host c.set Data way) held bit ++ host c.free Clock Free ∷ host c.pull Clock Pull ∷ cells_whole (not bit) c.pull cs
    go true true = refl
    go false true = refl
    go true false = refl
    go false false = refl

-- where a change of CLOCK stands in a bit, or after it
abbrev AtClock : List Step → Step → Step → List Step → List Step → Step → List Step → Type 0
AtClock ds f p rest pre s post = ((pre ≡ ds) × (s ≡ f)) ⊎ (((pre ≡ ds ++ f ∷ []) × (s ≡ p)) ⊎ ((l : List Step) × ((pre ≡ ds ++ f ∷ p ∷ l) × (rest ≡ l ++ s ∷ post))))

at_clock : (ds : List Step) (f p : Step) (rest pre : List Step) (s : Step) (post : List Step) → Every OfData ds → s.event.change.line ≡ Clock → ds ++ f ∷ p ∷ rest ≡ pre ++ s ∷ post → AtClock ds f p rest pre s post
at_clock [] f p rest [] s post a c e = inl (refl, (let same : f ≡ s = cc in sym same))
at_clock [] f p rest (x ∷ []) s post a c e = inr (inl ((let same : f ≡ x = cc in ap (λ (v : Step). v ∷ []) (sym same)), (let same : p ≡ s = cc in sym same)))
at_clock [] f p rest (x ∷ y ∷ pre) s post a c e =
    let one : f ≡ x = cc in
    let two : p ≡ y = cc in
    let left : rest ≡ pre ++ s ∷ post = cc in
    inr (inr (pre, (ap (λ (v : Step). v ∷ y ∷ pre) (sym one) ∙ ap (λ (v : Step). f ∷ v ∷ pre) (sym two), left)))
at_clock (d ∷ ds) f p rest [] s post a c e =
    let same : d ≡ s = cc in
    let k : Data ≡ Clock = sym a.0 ∙ ap (λ (v : Step). v.event.change.line) same ∙ c in
    absurd cc
at_clock (d ∷ ds) f p rest (x ∷ pre) s post a c e =
    let same : d ≡ x = cc in
    let tail : ds ++ f ∷ p ∷ rest ≡ pre ++ s ∷ post = cc in
    elim (at_clock ds f p rest pre s post a.1 c tail) [
      | inl k ↦ inl (ap (λ (v : Step). v ∷ pre) (sym same) ∙ ap (λ (l : List Step). d ∷ l) k.0, k.1)
      | inr k ↦ elim k [
        | inl k ↦ inr (inl (ap (λ (v : Step). v ∷ pre) (sym same) ∙ ap (λ (l : List Step). d ∷ l) k.0, k.1))
        | inr k ↦ inr (inr (k.0, (ap (λ (v : Step). v ∷ pre) (sym same) ∙ ap (λ (l : List Step). d ∷ l) k.1.0, k.1.1)))
      ]
    ]

no_clock : (held : Bool) (pull : ℕ) (pre : List Step) (s : Step) (post : List Step) → where_held held (host pull Data Free) ≡ pre ++ s ∷ post → s.event.change.line ≡ Clock → ⊥
no_clock true pull [] s post e c = (let same : host pull Data Free ≡ s = cc in let k : Data ≡ Clock = ap (λ (v : Step). v.event.change.line) same ∙ c in cc)
no_clock true pull (x ∷ []) s post e c = cc
no_clock true pull (x ∷ y ∷ pre) s post e c = cc
no_clock false pull [] s post e c = cc
no_clock false pull (x ∷ pre) s post e c = cc

pub later_cells : (held : Bool) (pull : ℕ) (cs : List BitCell) (pre : List Step) (s : Step) (post : List Step) → CellsFit held pull cs → cells_whole held pull cs ≡ pre ++ s ∷ post → s.event.change.line ≡ Clock → LaterCells held pull cs pre (moment_of s)
later_cells held pull [] pre s post h e c = absurd (no_clock held pull pre s post e c)
later_cells held pull (c ∷ cs) pre s post h e k = elim (at_clock (set_steps held c) f p rest pre s post (set_data held c) k (sym (whole_is held pull c cs) ∙ e)) [
  | inl x ↦ subst (λ (v : Step). LaterCells held pull (c ∷ cs) pre (moment_of v)) (sym x.1) (subst (λ (l : List Step). LaterCells held pull (c ∷ cs) l c.free) (sym x.0) at_free)
  | inr x ↦ elim x [
    | inl x ↦ subst (λ (v : Step). LaterCells held pull (c ∷ cs) pre (moment_of v)) (sym x.1) (subst (λ (l : List Step). LaterCells held pull (c ∷ cs) l c.pull) (sym x.0) at_pull)
    | inr x ↦ subst (λ (l : List Step). LaterCells held pull (c ∷ cs) l (moment_of s)) (sym x.1.0) (after_that x.0 (later_cells (not c.bit) c.pull cs x.0 s post h.1 x.1.1 k))
  ]
]
  where
    f : Step
    f = host c.free Clock Free

    p : Step
    p = host c.pull Clock Pull

    rest : List Step
    rest = cells_whole (not c.bit) c.pull cs

    at_free : LaterCells held pull (c ∷ cs) (set_steps held c) c.free
    at_free =
        let c2 : BitCell = record { bit = c.bit; set = c.set; free = c.free + 1; pull = c.free + 21 } in
        let more = fresh (not c.bit) (length cs) (c.free + 21) in
        let a = h.0.free in
        let b = h.0.settled in
        record {
          cells = c2 ∷ more;
          fits = (record { set = h.0.set; free = omega (arith, a); settled = omega (arith, b); pulled = omega arith }, fresh_fits (not c.bit) (length cs) (c.free + 21));
          same = ap (λ (n : ℕ). suc n) (fresh_length (not c.bit) (length cs) (c.free + 21));
          first = host (c.free + 1) Clock Free;
          others = host (c.free + 21) Clock Pull ∷ cells_whole (not c.bit) (c.free + 21) more;
          is = whole_is held pull c2 more;
          late = (omega arith, (omega arith, cells_from (not c.bit) (c.free + 21) (suc c.free) more (fresh_fits (not c.bit) (length cs) (c.free + 21)) (omega arith)));
        }

    at_pull : LaterCells held pull (c ∷ cs) (set_steps held c ++ f ∷ []) c.pull
    at_pull =
        let c2 : BitCell = record { bit = c.bit; set = c.set; free = c.free; pull = c.pull + 1 } in
        let more = fresh (not c.bit) (length cs) (c.pull + 1) in
        let b = h.0.pulled in
        record {
          cells = c2 ∷ more;
          fits = (record { set = h.0.set; free = h.0.free; settled = h.0.settled; pulled = omega (arith, b) }, fresh_fits (not c.bit) (length cs) (c.pull + 1));
          same = ap (λ (n : ℕ). suc n) (fresh_length (not c.bit) (length cs) (c.pull + 1));
          first = host (c.pull + 1) Clock Pull;
          others = cells_whole (not c.bit) (c.pull + 1) more;
          is = whole_is held pull c2 more ∙ sym (append_assoc (set_steps held c) (f ∷ []) (host (c.pull + 1) Clock Pull ∷ cells_whole (not c.bit) (c.pull + 1) more));
          late = (omega arith, cells_from (not c.bit) (c.pull + 1) (suc c.pull) more (fresh_fits (not c.bit) (length cs) (c.pull + 1)) (omega arith));
        }

    after_that : (l : List Step) → LaterCells (not c.bit) c.pull cs l (moment_of s) → LaterCells held pull (c ∷ cs) (set_steps held c ++ f ∷ p ∷ l) (moment_of s)
    after_that l z = record {
      cells = c ∷ z.cells;
      fits = (h.0, z.fits);
      same = ap (λ (n : ℕ). suc n) z.same;
      first = z.first;
      others = z.others;
      is = whole_is held pull c z.cells ∙ ap (λ (x : List Step). set_steps held c ++ f ∷ p ∷ x) z.is ∙ sym (append_assoc (set_steps held c) (f ∷ p ∷ l) (z.first ∷ z.others));
      late = z.late;
    }

-- After a change of DATA among them all comes later.
data_alone : (held : Bool) (pull : ℕ) (pre : List Step) (s : Step) (post : List Step) → where_held held (host pull Data Free) ≡ pre ++ s ∷ post → NoneBefore (suc (moment_of s)) post
data_alone true pull [] s [] e = tt
data_alone true pull [] s (x ∷ post) e = absurd cc
data_alone true pull (x ∷ []) s post e = absurd cc
data_alone true pull (x ∷ y ∷ pre) s post e = absurd cc
data_alone false pull [] s post e = absurd cc
data_alone false pull (x ∷ pre) s post e = absurd cc

pub after_the_data : (held : Bool) (pull : ℕ) (cs : List BitCell) (pre : List Step) (s : Step) (post : List Step) → CellsFit held pull cs → cells_whole held pull cs ≡ pre ++ s ∷ post → s.event.change.line ≡ Data → NoneBefore (suc (moment_of s)) post
after_the_data held pull [] pre s post h e k = data_alone held pull pre s post e
after_the_data held pull (c ∷ cs) pre s post h e k = go held c.bit h.0.settled (λ l e2. after_the_data (not c.bit) c.pull cs l s post h.1 e2 k) pre (sym (whole_is held pull c cs) ∙ e)
  where
    f : Step
    f = host c.free Clock Free

    p : Step
    p = host c.pull Clock Pull

    rest : List Step
    rest = cells_whole (not c.bit) c.pull cs

    from_clock : ((l : List Step) → rest ≡ l ++ s ∷ post → NoneBefore (suc (moment_of s)) post) → (pre : List Step) → f ∷ p ∷ rest ≡ pre ++ s ∷ post → NoneBefore (suc (moment_of s)) post
    from_clock next [] e = (let same : f ≡ s = cc in let c : Clock ≡ Data = ap (λ (v : Step). v.event.change.line) same ∙ k in absurd cc)
    from_clock next (x ∷ []) e = (let same : p ≡ s = cc in let c : Clock ≡ Data = ap (λ (v : Step). v.event.change.line) same ∙ k in absurd cc)
    from_clock next (x ∷ y ∷ pre) e = (let left : rest ≡ pre ++ s ∷ post = cc in next pre left)

    with_set : (d : Step) → moment_of d ≡ c.set → ((l : List Step) → rest ≡ l ++ s ∷ post → NoneBefore (suc (moment_of s)) post) → (pre : List Step) → d ∷ f ∷ p ∷ rest ≡ pre ++ s ∷ post → NoneBefore (suc (moment_of s)) post
    with_set d at next [] e =
        let same : d ≡ s = cc in
        let now : moment_of s ≡ c.set = ap (λ (v : Step). moment_of v) (sym same) ∙ at in
        let left : f ∷ p ∷ rest ≡ post = cc in
        let a = h.0.settled in
        let b = h.0.pulled in
        subst (NoneBefore (suc (moment_of s))) left (omega (arith, a, now), (omega (arith, a, b, now), cells_from (not c.bit) c.pull (suc (moment_of s)) cs h.1 (omega (arith, a, b, now))))
    with_set d at next (x ∷ pre) e = (let left : f ∷ p ∷ rest ≡ pre ++ s ∷ post = cc in from_clock next pre left)

    go : (held bit : Bool) → c.set + 20 ≤ c.free → ((l : List Step) → rest ≡ l ++ s ∷ post → NoneBefore (suc (moment_of s)) post) → (pre : List Step) → data_for (λ way. host c.set Data way) held bit ++ f ∷ p ∷ rest ≡ pre ++ s ∷ post → NoneBefore (suc (moment_of s)) post
    go true true a next pre e = with_set (host c.set Data Free) refl next pre e
    go false true a next pre e = from_clock next pre e
    go true false a next pre e = from_clock next pre e
    go false false a next pre e = with_set (host c.set Data Pull) refl next pre e
