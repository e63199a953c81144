-- The bytes that the host has taken before a request is over: the first of those that the machine says, whatever it says after them.
use Rattle.std.proofs.Common.{◌≡◌, ℕ, zero, suc, ◌+◌, ◌-◌, ◌≤◌, ◌⊎◌, inl, inr, Bool, true, false, List, [], ◌∷◌, ◌++◌, length, append_assoc, Option, Some, None, refl, sym, ap, ◌∙◌, subst, arith}
use Rattle.std.proofs.lemmas.Bool.Decides.{leb_tells}
use Rattle.std.specs.Prelude.{if◌then◌else◌}
use Rattle.cbm_iec.specs.declared.machine.Act.TheVariants.{Said}
use Rattle.cbm_iec.specs.declared.machine.Act.{Act}
use Rattle.cbm_session.specs.Answers.{Run, run_acts}
use Rattle.cbm_session.specs.Playing.{IsMachine}
use Rattle.cbm_host.proofs.Along.{said_with}
use Rattle.cbm_host.proofs.Bytewise.{as_byte, bytewise}
use Rattle.cbm_host.proofs.Counted.{taken_from, last_from}
use Rattle.cbm_host.proofs.Saying.{Marks}
use Rattle.cbm_iec.specs.Attentions.{talk, data_on}
use Rattle.cbm_host.specs.CarriedOut.{spoken, said as talked, acts_called, IsTakenUpTo}
use Rattle.cbm_host.specs.Engines.{most_of}
use Rattle.cbm_host.specs.Performed.{taken_with, last_with}
use Rattle.cbm_host.specs.declared.request.Request.{Request}
use Rattle.cbm_host.specs.declared.request.Request.TheVariants.{Get, Status}

-- ---- what is taken in a list of marks, each byte with whether it carries EOI

abbrev listed : Option (ℕ × Bool) → List (ℕ × Bool)
listed None = []
listed (Some x) = x ∷ []

abbrev pub said_from : Marks → List (ℕ × Bool)
said_from [] = []
said_from (m ∷ ms) = listed (said_with m.0 m.1) ++ said_from ms

abbrev bytes_in : List (ℕ × Bool) → List ℕ
bytes_in [] = []
bytes_in (x ∷ xs) = x.0 ∷ bytes_in xs

abbrev mark_in : Bool → List (ℕ × Bool) → Bool
mark_in last [] = last
mark_in last (x ∷ xs) = mark_in x.1 xs

pub said_append : (xs ys : Marks) → said_from (xs ++ ys) ≡ said_from xs ++ said_from ys
said_append [] ys = refl
said_append (x ∷ xs) ys = ap (λ (l : List (ℕ × Bool)). listed (said_with x.0 x.1) ++ l) (said_append xs ys) ∙ sym (append_assoc (listed (said_with x.0 x.1)) (said_from xs) (said_from ys))

taken_is : (ms : Marks) → taken_from ms ≡ bytes_in (said_from ms)
taken_is [] = refl
taken_is (m ∷ ms) = by_one (said_with m.0 m.1) (taken_is ms)
  where
    by_one : (o : Option (ℕ × Bool)) → taken_from ms ≡ bytes_in (said_from ms) → taken_with o ++ taken_from ms ≡ bytes_in (listed o ++ said_from ms)
    by_one None e = e
    by_one (Some x) e = ap (λ (l : List ℕ). x.0 ∷ l) e

last_is : (last : Bool) (ms : Marks) → last_from last ms ≡ mark_in last (said_from ms)
last_is last [] = refl
last_is last (m ∷ ms) = by_one (said_with m.0 m.1) (λ v. last_is v ms)
  where
    by_one : (o : Option (ℕ × Bool)) → ((v : Bool) → last_from v ms ≡ mark_in v (said_from ms)) → last_from (last_with o last) ms ≡ mark_in last (listed o ++ said_from ms)
    by_one None f = f last
    by_one (Some x) f = f x.1

-- where nothing is taken in all, nothing is taken in a front
pub none_front : (ms1 ms2 : Marks) → said_from (ms1 ++ ms2) ≡ [] → (taken_from ms1 ≡ []) × (last_from false ms1 ≡ false)
none_front ms1 ms2 none =
    let e = none_first (said_from ms1) (said_from ms2) (sym (said_append ms1 ms2) ∙ none) in
    (taken_is ms1 ∙ ap (λ (l : List (ℕ × Bool)). bytes_in l) e, last_is false ms1 ∙ ap (λ (l : List (ℕ × Bool)). mark_in false l) e)
  where
    none_first : (xs ys : List (ℕ × Bool)) → xs ++ ys ≡ [] → xs ≡ []
    none_first [] ys e = refl
    none_first (x ∷ xs) ys e = absurd cc

-- ---- what a machine says

-- only the last of these carries a mark
abbrev pub OnlyLast : List (ℕ × Bool) → Type 0
OnlyLast [] = Unit {0}
OnlyLast (x ∷ []) = Unit {0}
OnlyLast (x ∷ y ∷ xs) = (x.1 ≡ false) × OnlyLast (y ∷ xs)

-- the mark of a byte, where these come after it
abbrev pub ends : List ℕ → Bool → Bool
ends [] last = last
ends (byte ∷ more) last = false

module _ (M : Type 0) (step : M → Act → M) (says : M → Option (ℕ × Bool)) where
  -- it says these bytes, the last of them with this mark
  abbrev pub SaysSo : M → List ℕ → Bool → Type 0
  SaysSo m [] last = Unit {0}
  SaysSo m (byte ∷ more) last = (says m ≡ Some (byte, ends more last)) × SaysSo (step m (Said byte (ends more last))) more last

  -- these bytes of at most so many
  abbrev pub IsFrontSaid : ℕ → M → List ℕ → Bool → Type 0
  IsFrontSaid most m bytes last = SaysSo m bytes last × (length bytes ≤ most) × (bytes ≡ [] → last ≡ false)

  -- the bytes of a front of a request
  abbrev pub SaysFront : ℕ → M → Request → List ℕ → Bool → Type 0
  SaysFront d m (Get channel most) bytes last = IsFrontSaid most (run_acts M step says m (acts_called (talk + d) (data_on + channel))) bytes last
  SaysFront d m Status bytes last = IsFrontSaid (most_of Status) (run_acts M step says m (acts_called (talk + d) (data_on + 15))) bytes last
  SaysFront d m request bytes last = (bytes ≡ []) × (last ≡ false)

  -- the same said one by one, each with its own mark
  abbrev pub SaysEach : M → List (ℕ × Bool) → Type 0
  SaysEach m [] = Unit {0}
  SaysEach m (x ∷ xs) = (says m ≡ Some x) × SaysEach (step m (Said x.0 x.1)) xs

  each_front : (m : M) (xs ys : List (ℕ × Bool)) → SaysEach m (xs ++ ys) → SaysEach m xs
  each_front m [] ys h = tt
  each_front m (x ∷ xs) ys h = (h.0, each_front (step m (Said x.0 x.1)) xs ys h.1)

  only_front : (xs ys : List (ℕ × Bool)) → OnlyLast (xs ++ ys) → OnlyLast xs
  only_front [] ys h = tt
  only_front (x ∷ []) ys h = tt
  only_front (x ∷ y ∷ xs) ys h = (h.0, only_front (y ∷ xs) ys h.1)

  long_front : (xs ys : List (ℕ × Bool)) (most : ℕ) → length (xs ++ ys) ≤ most → length (bytes_in xs) ≤ most
  long_front [] ys most h = omega arith
  long_front (x ∷ xs) ys zero h = absurd (omega (arith, h))
  long_front (x ∷ xs) ys (suc most) h = let l = long_front xs ys most (omega (arith, h)) in omega (arith, l)

  each_so : (m : M) (xs : List (ℕ × Bool)) (last : Bool) → SaysEach m xs → OnlyLast xs → SaysSo m (bytes_in xs) (mark_in last xs)
  each_so m [] last h only = tt
  each_so m (x ∷ []) last h only = (h.0, tt)
  each_so m (x ∷ y ∷ xs) last h only =
      let unmarked : x ≡ (x.0, false) = ap (λ (v : Bool). (x.0, v)) only.0 in
      (h.0 ∙ ap (λ (p : ℕ × Bool). Some p) unmarked, each_so (step m (Said x.0 false)) (y ∷ xs) x.1 (subst (λ (v : Bool). SaysEach (step m (Said x.0 v)) (y ∷ xs)) only.0 h.1) only.1)

  -- A FRONT of what is said
  pub front_said : (most : ℕ) (m : M) (ms1 ms2 : Marks) → SaysEach m (said_from (ms1 ++ ms2)) → OnlyLast (said_from (ms1 ++ ms2)) → length (said_from (ms1 ++ ms2)) ≤ most → IsFrontSaid most m (taken_from ms1) (last_from false ms1)
  front_said most m ms1 ms2 each only few =
      let xs = said_from ms1 in
      let ys = said_from ms2 in
      let parts = said_append ms1 ms2 in
      let each1 = each_front m xs ys (subst (λ (l : List (ℕ × Bool)). SaysEach m l) parts each) in
      let only1 = only_front xs ys (subst (λ (l : List (ℕ × Bool)). OnlyLast l) parts only) in
      let few1 = long_front xs ys most (subst (λ (l : List (ℕ × Bool)). length l ≤ most) parts few) in
      let so = each_so m xs false each1 only1 in
      subst (λ (l : List ℕ). IsFrontSaid most m l (last_from false ms1)) (sym (taken_is ms1)) (subst (λ (v : Bool). IsFrontSaid most m (bytes_in xs) v) (sym (last_is false ms1)) (so, few1, unmarked xs))
    where
      unmarked : (xs : List (ℕ × Bool)) → bytes_in xs ≡ [] → mark_in false xs ≡ false
      unmarked [] e = refl
      unmarked (x ∷ xs) e = absurd cc

module _ (M : Type 0) (step : M → Act → M) (says : M → Option (ℕ × Bool)) where
  -- what is said whichever byte stands for what is none, is what the machine says
  in_truth : (o : Option (ℕ × Bool)) (x : ℕ × Bool) → as_byte M step says false o ≡ Some x → as_byte M step says true o ≡ Some x → o ≡ Some x
  in_truth None x e f = absurd cc
  in_truth (Some y) x e f = elim (leb_tells 256 y.0) [
    | inl k ↦ (let zero_is : Some (0, true) ≡ Some x = sym (ap (λ (v : Bool). if v then Some (0, true) else Some y) k.0) ∙ e in
        let one_is : Some (1, true) ≡ Some x = sym (ap (λ (v : Bool). if v then Some (1, true) else Some y) k.0) ∙ f in
        let both : 0 ≡ 1 = ap first (zero_is ∙ sym one_is) in
        absurd (omega (arith, both)))
    | inr k ↦ sym (ap (λ (v : Bool). if v then Some (0, true) else Some y) k.0) ∙ e
  ]
    where
      first : Option (ℕ × Bool) → ℕ
      first None = 0
      first (Some x) = x.0

  pub truly : (m : M) (bytes : List ℕ) (last : Bool) → SaysSo M step (bytewise M step says false) m bytes last → SaysSo M step (bytewise M step says true) m bytes last → SaysSo M step says m bytes last
  truly m [] last h k = tt
  truly m (byte ∷ more) last h k = (in_truth (says m) (byte, ends more last) h.0 k.0, truly (step m (Said byte (ends more last))) more last h.1 k.1)

  module _ (machine : IsMachine M step says) where
    -- from a byte on, to the one with EOI, or as many as are wanted
    record Up (n : ℕ) (m : M) : Type 0 where
      pub first : ℕ
      pub rest : List ℕ
      pub marked : Bool
      pub said : SaysSo M step says m (first ∷ rest) marked
      pub few : length rest ≤ n
      pub over : (marked ≡ true) ⊎ ((marked ≡ false) × (length rest ≡ n))

    up : (n : ℕ) (m : M) (byte : ℕ) (last : Bool) → says m ≡ Some (byte, last) → Up n m
    up n m byte true e = record { first = byte; rest = []; marked = true; said = (e, tt); few = omega arith; over = inl refl }
    up zero m byte false e = record { first = byte; rest = []; marked = false; said = (e, tt); few = omega arith; over = inr (refl, refl) }
    up (suc n) m byte false e =
        let y = machine.more m byte e in
        let k = up n (step m (Said byte false)) y.0.0 y.0.1 y.1 in
        let l = k.few in
        record {
          first = byte;
          rest = k.first ∷ k.rest;
          marked = k.marked;
          said = (e, k.said);
          few = omega (arith, l);
          over = elim k.over [ inl h ↦ inl h | inr h ↦ inr (h.0, ap suc h.1) ];
        }

    -- and from a front of them
    record Onward (n : ℕ) (m : M) (byte : ℕ) (bytes : List ℕ) (last : Bool) : Type 0 where
      pub more : List ℕ
      pub marked : Bool
      pub said : SaysSo M step says m (byte ∷ (bytes ++ more)) marked
      pub few : length (bytes ++ more) ≤ n
      pub over : (marked ≡ true) ⊎ ((marked ≡ false) × (length (bytes ++ more) ≡ n))
      pub all : last ≡ true → (more ≡ []) × (marked ≡ true)

    onward : (n : ℕ) (m : M) (byte : ℕ) (bytes : List ℕ) (last : Bool) → SaysSo M step says m (byte ∷ bytes) last → length bytes ≤ n → Onward n m byte bytes last
    onward n m byte [] true h l = record { more = []; marked = true; said = h; few = omega arith; over = inl refl; all = λ e. (refl, refl) }
    onward zero m byte [] false h l = record { more = []; marked = false; said = h; few = omega arith; over = inr (refl, refl); all = λ e. absurd cc }
    onward (suc n) m byte [] false h l =
        let y = machine.more m byte h.0 in
        let k = up n (step m (Said byte false)) y.0.0 y.0.1 y.1 in
        let few = k.few in
        record {
          more = k.first ∷ k.rest;
          marked = k.marked;
          said = (h.0, k.said);
          few = omega (arith, few);
          over = elim k.over [ inl o ↦ inl o | inr o ↦ inr (o.0, ap suc o.1) ];
          all = λ e. absurd cc;
        }
    onward zero m byte (next ∷ bytes) last h l = absurd (omega (arith, l))
    onward (suc n) m byte (next ∷ bytes) last h l =
        let k = onward n (step m (Said byte false)) next bytes last h.1 (omega (arith, l)) in
        let few = k.few in
        record {
          more = k.more;
          marked = k.marked;
          said = (h.0, k.said);
          few = omega (arith, few);
          over = elim k.over [ inl o ↦ inl o | inr o ↦ inr (o.0, ap suc o.1) ];
          all = k.all;
        }

    -- ALL THAT IT SAYS after a front of it: nothing, or bytes
    abbrev pub SaysAll : M → List ℕ → Bool → Type 0
    SaysAll m [] marked = says m ≡ None
    SaysAll m (byte ∷ more) marked = SaysSo M step says m (byte ∷ more) marked

    pub record Whole (most : ℕ) (m : M) (bytes : List ℕ) (last : Bool) : Type 0 where
      pub bytes_all : List ℕ
      pub marked : Bool
      pub said : SaysAll m bytes_all marked
      pub taken : IsTakenUpTo most bytes_all marked
      pub more : List ℕ
      pub front : bytes_all ≡ bytes ++ more
      pub all : last ≡ true → (more ≡ []) × (marked ≡ true)

    pub whole : (most : ℕ) (m : M) (bytes : List ℕ) (last : Bool) → 1 ≤ most → IsFrontSaid M step says most m bytes last → Whole most m bytes last
    whole most m [] last some h = by_says (says m) refl
      where
        by_says : (o : Option (ℕ × Bool)) → says m ≡ o → Whole most m [] last
        by_says None e = record { bytes_all = []; marked = false; said = e; taken = (omega arith, inr (refl, inl refl)); more = []; front = refl; all = λ marked. (let no = sym marked ∙ h.2 refl in absurd cc) }
        by_says (Some x) e =
            let k = up (most - 1) m x.0 x.1 e in
            let few = k.few in
            record {
              bytes_all = k.first ∷ k.rest;
              marked = k.marked;
              said = k.said;
              taken = (omega (arith, few, some), elim k.over [ inl o ↦ inl (o, omega arith) | inr o ↦ inr (o.0, inr (let n = o.1 in omega (arith, n, some))) ]);
              more = k.first ∷ k.rest;
              front = refl;
              all = λ marked. (let no = sym marked ∙ h.2 refl in absurd cc);
            }
    whole most m (byte ∷ bytes) last some h =
        let l = h.1 in
        let k = onward (most - 1) m byte bytes last h.0 (omega (arith, l, some)) in
        let few = k.few in
        record {
          bytes_all = byte ∷ (bytes ++ k.more);
          marked = k.marked;
          said = k.said;
          taken = (omega (arith, few, some), elim k.over [ inl o ↦ inl (o, omega arith) | inr o ↦ inr (o.0, inr (let n = o.1 in omega (arith, n, some))) ]);
          more = k.more;
          front = refl;
          all = k.all;
        }

    -- its acts, and what comes after them
    so_runs : (m : M) (byte : ℕ) (more : List ℕ) (last : Bool) (acts : List Act) (m2 : M) → SaysSo M step says m (byte ∷ more) last → Run M step says (run_acts M step says m (spoken last byte more)) acts m2 → Run M step says m (spoken last byte more ++ acts) m2
    so_runs m byte [] last acts m2 h r = (h.0, r)
    so_runs m byte (next ∷ more) last acts m2 h r = (h.0, so_runs (step m (Said byte false)) next more last acts m2 h.1 r)

    pub all_runs : (m : M) (bytes : List ℕ) (last : Bool) (acts : List Act) (m2 : M) → SaysAll m bytes last → Run M step says (run_acts M step says m (talked bytes last)) acts m2 → Run M step says m (talked bytes last ++ acts) m2
    all_runs m [] last acts m2 h r = (h, r)
    all_runs m (byte ∷ more) last acts m2 h r = so_runs m byte more last acts m2 h r
