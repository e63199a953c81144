-- All drives, one by one.
use Rattle.std.proofs.Common.{◌≡◌, ◌+◌, ℕ, Bool, Option, List, [], ◌∷◌, ◌++◌, map, length, sym, ap, subst, refl, ◌∙◌, arith}
use Rattle.std.proofs.lemmas.Bool.{eqb-true}
use Rattle.std.specs.Prelude.{◌==◌, true}
use Rattle.std.specs.List.{AllZip}
use Rattle.cbm_iec.specs.declared.machine.Act.{Act}
use Rattle.cbm_iec.specs.declared.lines.Change.{Change}
use Rattle.cbm_session.specs.Playing.{Station, IsLaterDue, hear, hear_all, react, reacting}
use Rattle.cbm_session.specs.Following.{IsInTime}
use Rattle.cbm_session.specs.Loosely.{Heeds, HeedsAll}
use Rattle.cbm_iec.specs.Ports.{port_due}
use Rattle.bus_beside.specs.Moves.{HaveGone}
use Rattle.bus_beside.specs.declared.moves.Move.TheVariants.{Hears}
use Rattle.bus_beside.specs.Reactions.{HaveAllHeard, HaveNothingBefore, HaveNothingUpto, ReactsTheSame, HaveReacted}
use Rattle.bus_beside.specs.Seats.{SeatedTwice, Sits, Sit, failed_in_all, GoesAlone, GoesUnfailed}

pub no_items : {A : Type 0} (xs : List A) → length xs ≡ 0 → xs ≡ []
no_items [] e = refl
no_items (x ∷ xs) e = absurd (omega (arith, e))

-- a list of which it was asked whether it is empty
pub none_of : {A : Type 0} (xs : List A) (b : Bool) → b ≡ (length xs == 0) → b ≡ true → xs ≡ []
none_of xs b e f = no_items xs (eqb-true (length xs) 0 (sym e ∙ f))

module _ (D M : Type 0) (stands : D → M → Type 0) (step : M → Act → M) (says : M → Option (ℕ × Bool)) where
  -- what is due to a drive is due to its station
  same_due : (x : SeatedTwice D) (s t : Station M) → Sits D M stands x s t → port_due x.real.port ≡ port_due s.port
  same_due x s t h = ap (λ (s : Station M). port_due s.port) (sym h.real)

  pub from_then : (moment : ℕ) (x : SeatedTwice D) (xs : List (SeatedTwice D)) → IsInTime moment (port_due x.real.port) → HaveNothingBefore D M stands step says moment xs → HaveNothingBefore D M stands step says moment (x ∷ xs)
  from_then moment x xs one more [] ts h = absurd h
  from_then moment x xs one more (s ∷ ss) [] h = absurd h
  from_then moment x xs one more (s ∷ ss) (t ∷ ts) h = (subst (IsInTime moment) (same_due x s t h.0) one, more ss ts h.1)

  pub later_then : (moment : ℕ) (x : SeatedTwice D) (xs : List (SeatedTwice D)) → IsLaterDue moment (port_due x.real.port) → HaveNothingUpto D M stands step says moment xs → HaveNothingUpto D M stands step says moment (x ∷ xs)
  later_then moment x xs one more [] ts h = absurd h
  later_then moment x xs one more (s ∷ ss) [] h = absurd h
  later_then moment x xs one more (s ∷ ss) (t ∷ ts) h = (subst (IsLaterDue moment) (same_due x s t h.0) one, more ss ts h.1)

  -- ---- changes that are heard

  same_map : {A : Type 0} (xs : List A) → map (λ x. x) xs ≡ xs
  same_map [] = refl
  same_map (x ∷ xs) = ap (λ ys. x ∷ ys) (same_map xs)

  map_twice : {A : Type 0} (f g : A → A) (xs : List A) → map g (map f xs) ≡ map (λ x. g (f x)) xs
  map_twice f g [] = refl
  map_twice f g (x ∷ xs) = ap (λ ys. g (f x) ∷ ys) (map_twice f g xs)

  nothing_heeded : (ss ts : List (Station M)) (xs : List (SeatedTwice D)) → Sit D M stands xs ss ts → AllZip (HeedsAll M step says []) ss ts
  nothing_heeded [] [] xs h = tt
  nothing_heeded [] (t ∷ ts) [] h = absurd h
  nothing_heeded [] (t ∷ ts) (x ∷ xs) h = absurd h
  nothing_heeded (s ∷ ss) [] [] h = absurd h
  nothing_heeded (s ∷ ss) [] (x ∷ xs) h = absurd h
  nothing_heeded (s ∷ ss) (t ∷ ts) [] h = absurd h
  nothing_heeded (s ∷ ss) (t ∷ ts) (x ∷ xs) h = (tt, nothing_heeded ss ts xs h.1)

  pub heard_none : (xs : List (SeatedTwice D)) → HaveAllHeard D M stands step says [] xs xs
  heard_none xs ss ts h = (nothing_heeded ss ts xs h, subst (λ (us : List (Station M)). Sit D M stands xs us (map (λ t. t) ts)) (sym (same_map ss)) (subst (λ (us : List (Station M)). Sit D M stands xs ss us) (sym (same_map ts)) h))

  heeded_then : (c : Change) (cs : List Change) (ss ts : List (Station M)) → AllZip (Heeds M step says) ss ts → AllZip (HeedsAll M step says cs) (map (hear M step says c) ss) (map (hear M step says c) ts)
      → AllZip (HeedsAll M step says (c ∷ cs)) ss ts
  heeded_then c cs [] [] one more = tt
  heeded_then c cs [] (t ∷ ts) one more = absurd one
  heeded_then c cs (s ∷ ss) [] one more = absurd one
  heeded_then c cs (s ∷ ss) (t ∷ ts) one more = ((one.0, more.0), heeded_then c cs ss ts one.1 more.1)

  heard_more : (c : Change) (cs : List Change) (xs ys zs : List (SeatedTwice D)) → HaveGone D M stands step says Hears c xs ys → HaveAllHeard D M stands step says cs ys zs → HaveAllHeard D M stands step says (c ∷ cs) xs zs
  heard_more c cs xs ys zs one more ss ts h =
      let first = one ss ts h in
      let rest = more (map (hear M step says c) ss) (map (hear M step says c) ts) first.1 in (
        heeded_then c cs ss ts first.0 rest.0,
        subst (λ (us : List (Station M)). Sit D M stands zs us (map (hear_all M step says (c ∷ cs)) ts)) (map_twice (hear M step says c) (hear_all M step says cs) ss)
            (subst (λ (us : List (Station M)). Sit D M stands zs (map (hear_all M step says cs) (map (hear M step says c) ss)) us) (map_twice (hear M step says c) (hear_all M step says cs) ts) rest.1),
      )

  pub heard_then : (failures : D → ℕ) (c : Change) (cs : List Change) (xs ys zs : List (SeatedTwice D)) → GoesUnfailed failures xs ys (HaveGone D M stands step says Hears c xs ys)
      → GoesUnfailed failures ys zs (HaveAllHeard D M stands step says cs ys zs) → GoesUnfailed failures xs zs (HaveAllHeard D M stands step says (c ∷ cs) xs zs)
  heard_then failures c cs xs ys zs one more =
      (omega (arith, one.0, more.0), λ u. heard_more c cs xs ys zs (one.1 (omega (arith, u, more.0))) (more.1 (omega (arith, u, one.0))))

  -- ---- a reaction among others

  -- how often they failed adds up
  failed_cat : (failures : D → ℕ) (xs ys : List (SeatedTwice D)) → failed_in_all failures (xs ++ ys) ≡ failed_in_all failures xs + failed_in_all failures ys
  failed_cat failures [] ys = omega arith
  failed_cat failures (x ∷ xs) ys = (let e = failed_cat failures xs ys in omega (arith, e))

  sit_cat : (xs ys : List (SeatedTwice D)) (ss ts us vs : List (Station M)) → Sit D M stands xs ss ts → Sit D M stands ys us vs → Sit D M stands (xs ++ ys) (ss ++ us) (ts ++ vs)
  sit_cat [] ys [] [] us vs h k = k
  sit_cat [] ys [] (t ∷ ts) us vs h k = absurd h
  sit_cat [] ys (s ∷ ss) ts us vs h k = absurd h
  sit_cat (x ∷ xs) ys [] ts us vs h k = absurd h
  sit_cat (x ∷ xs) ys (s ∷ ss) [] us vs h k = absurd h
  sit_cat (x ∷ xs) ys (s ∷ ss) (t ∷ ts) us vs h k = (h.0, sit_cat xs ys ss ts us vs h.1 k)

  -- the stations of drives in two parts, and one between them
  record Parts (front : List (SeatedTwice D)) (x : SeatedTwice D) (back : List (SeatedTwice D)) (ss ts : List (Station M)) : Type 0 where
    before : List (Station M)
    one : Station M
    afterwards : List (Station M)
    before2 : List (Station M)
    one2 : Station M
    afterwards2 : List (Station M)
    is : ss ≡ before ++ one ∷ afterwards
    tidied : ts ≡ before2 ++ one2 ∷ afterwards2
    front_sits : Sit D M stands front before before2
    sits : Sits D M stands x one one2
    back_sits : Sit D M stands back afterwards afterwards2

  parts : (front : List (SeatedTwice D)) (x : SeatedTwice D) (back : List (SeatedTwice D)) (ss ts : List (Station M)) → Sit D M stands (front ++ x ∷ back) ss ts → Parts front x back ss ts
  parts [] x back [] ts h = absurd h
  parts [] x back (s ∷ ss) [] h = absurd h
  parts [] x back (s ∷ ss) (t ∷ ts) h = record { before = []; one = s; afterwards = ss; before2 = []; one2 = t; afterwards2 = ts; is = refl; tidied = refl; front_sits = tt; sits = h.0; back_sits = h.1 }
  parts (y ∷ front) x back [] ts h = absurd h
  parts (y ∷ front) x back (s ∷ ss) [] h = absurd h
  parts (y ∷ front) x back (s ∷ ss) (t ∷ ts) h =
      let p = parts front x back ss ts h.1 in
      record {
        before = s ∷ p.before;
        one = p.one;
        afterwards = p.afterwards;
        before2 = t ∷ p.before2;
        one2 = p.one2;
        afterwards2 = p.afterwards2;
        is = ap (λ us. s ∷ us) p.is;
        tidied = ap (λ us. t ∷ us) p.tidied;
        front_sits = (h.0, p.front_sits);
        sits = p.sits;
        back_sits = p.back_sits;
      }

  -- it reacts, and those before and after it hear it
  have_reacted : (t device : ℕ) (cs : List Change) (front front' : List (SeatedTwice D)) (x x' : SeatedTwice D) (back back' : List (SeatedTwice D)) → HaveNothingUpto D M stands step says t front → HaveNothingBefore D M stands step says t back
      → ((s u : Station M) → Sits D M stands x s u → ReactsTheSame D M stands step says t device cs x' s u) → HaveAllHeard D M stands step says cs front front' → HaveAllHeard D M stands step says cs back back'
      → (ss ts : List (Station M)) → Sit D M stands (front ++ x ∷ back) ss ts → HaveReacted D M stands step says t device cs (front' ++ x' ∷ back') ss ts
  have_reacted t device cs front front' x x' back back' later in_time reacts heard heard2 ss ts h =
      let p = parts front x back ss ts h in
      let r = reacts p.one p.one2 p.sits in
      let f = heard p.before p.before2 p.front_sits in
      let b = heard2 p.afterwards p.afterwards2 p.back_sits in
      let all : Sit D M stands (front' ++ x' ∷ back') (map (hear_all M step says cs) p.before ++ react M step says t p.one ∷ map (hear_all M step says cs) p.afterwards) (map (hear_all M step says cs) p.before2 ++ react M step says t p.one2 ∷ map (hear_all M step says cs) p.afterwards2)
      = sit_cat front' (x' ∷ back') (map (hear_all M step says cs) p.before) (map (hear_all M step says cs) p.before2) (react M step says t p.one ∷ map (hear_all M step says cs) p.afterwards) (react M step says t p.one2 ∷ map (hear_all M step says cs) p.afterwards2) f.1 (r.now, b.1) in
      record {
        before = p.before;
        one = p.one;
        afterwards = p.afterwards;
        before2 = p.before2;
        one2 = p.one2;
        afterwards2 = p.afterwards2;
        is = p.is;
        tidied = p.tidied;
        first = record { due = r.due; later = later p.before p.before2 p.front_sits; in_time = in_time p.afterwards p.afterwards2 p.back_sits };
        front = subst (λ (ds : List Change). AllZip (HeedsAll M step says ds) p.before p.before2) r.changes f.0;
        heeds = r.heeds;
        back = subst (λ (ds : List Change). AllZip (HeedsAll M step says ds) p.afterwards p.afterwards2) r.changes b.0;
        which = r.which;
        changes = r.changes;
        now = subst (λ (ds : List Change). Sit D M stands (front' ++ x' ∷ back') (map (hear_all M step says ds) p.before ++ react M step says t p.one ∷ map (hear_all M step says ds) p.afterwards) (reacting M step says t p.before2 p.one2 p.afterwards2)) r.changes
            (subst (λ (ds : List Change). Sit D M stands (front' ++ x' ∷ back') (map (hear_all M step says cs) p.before ++ react M step says t p.one ∷ map (hear_all M step says cs) p.afterwards) (map (hear_all M step says ds) p.before2 ++ react M step says t p.one2 ∷ map (hear_all M step says ds) p.afterwards2)) r.tidied all);
      }

  pub goes_reacted : (failures : D → ℕ) (t device : ℕ) (cs : List Change) (front front' : List (SeatedTwice D)) (x x' : SeatedTwice D) (back back' : List (SeatedTwice D)) → HaveNothingUpto D M stands step says t front → HaveNothingBefore D M stands step says t back
      → GoesAlone failures x x' ((s u : Station M) → Sits D M stands x s u → ReactsTheSame D M stands step says t device cs x' s u) → GoesUnfailed failures front front' (HaveAllHeard D M stands step says cs front front')
      → GoesUnfailed failures back back' (HaveAllHeard D M stands step says cs back back')
      → GoesUnfailed failures (front ++ x ∷ back) (front' ++ x' ∷ back') ((ss ts : List (Station M)) → Sit D M stands (front ++ x ∷ back) ss ts → HaveReacted D M stands step says t device cs (front' ++ x' ∷ back') ss ts)
  goes_reacted failures t device cs front front' x x' back back' later in_time one f b =
      let e : failed_in_all failures (front ++ x ∷ back) ≡ failed_in_all failures front + (failures x.machine + failed_in_all failures back) = failed_cat failures front (x ∷ back) in
      let e' : failed_in_all failures (front' ++ x' ∷ back') ≡ failed_in_all failures front' + (failures x'.machine + failed_in_all failures back') = failed_cat failures front' (x' ∷ back') in (
        omega (arith, e, e', one.0, f.0, b.0),
        λ u. have_reacted t device cs front front' x x' back back' later in_time (one.1 (omega (arith, u, e, e', f.0, b.0))) (f.1 (omega (arith, u, e, e', one.0, b.0))) (b.1 (omega (arith, u, e, e', one.0, f.0))),
      )
