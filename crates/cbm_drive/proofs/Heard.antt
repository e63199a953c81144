-- A drive changes a line, and the drives before and after it are told.
use Rattle.std.proofs.Common.{◌≡◌, ℕ, length, zero, suc, ◌+◌, ◌≤◌, Bool, List, [], ◌∷◌, map, Option, refl, sym, ap, subst, ◌∙◌, arith}
use Rattle.std.specs.Prelude.{not}
use Rattle.std.specs.List.{AllZip}
use Rattle.cbm_iec.specs.Changes.{is_pull}
use Rattle.cbm_iec.specs.declared.machine.Act.{Act}
use Rattle.cbm_iec.specs.declared.lines.Change.{Change}
use Rattle.cbm_iec.specs.declared.lines.Line.TheVariants.{Atn, Clock, Data}
use Rattle.cbm_iec.specs.declared.lines.Line.{Line}
use Rattle.cbm_iec.specs.declared.lines.Way.TheVariants.{Pull, Free}
use Rattle.cbm_iec.specs.declared.lines.Way.{Way}
use Rattle.cbm_iec.specs.declared.lines.Held.{Held}
use Rattle.cbm_session.specs.Among.{Rest, counted, after_another}
use Rattle.cbm_session.specs.Playing.{Station, told_lines, hear, hear_all}
use Rattle.cbm_drive.specs.declared.wires.Wires.{Wires}
use Rattle.cbm_drive.specs.Seats.{Seated, Meets, IsSeat, IsWithout, pulls_counted, total, own_of, clock_of, data_pulls}
use Rattle.cbm_drive.specs.Reactions.{AreAtMoment, Toggles, IsToggled, IsAllOf, HaveHeard, after_a_change, wires_after_all, own_after, held_afterwards}

-- counts depend on the lines that the drives hold, and on nothing else
sums : {D : Type 0} (f : Held → ℕ) (xs : List (Seated D)) → total (λ x. f (own_of x)) xs ≡ total f (map own_of xs)
sums f [] = refl
sums f (x ∷ xs) = ap (λ n. f (own_of x) + n) (sums f xs)

pub same_sums : {D : Type 0} (f : Held → ℕ) (xs ys : List (Seated D)) → map own_of ys ≡ map own_of xs → total (λ x. f (own_of x)) ys ≡ total (λ x. f (own_of x)) xs
same_sums f xs ys e = sums f ys ∙ ap (total f) e ∙ sym (sums f xs)

-- one less holds it than so many and one that holds it
fewer : (n b c : ℕ) → n + b ≡ c → 1 + b ≤ c → counted Free n + b ≡ counted Free c
fewer zero b c e l = absurd (omega (arith, e, l))
fewer (suc n) b zero e l = absurd (omega (arith, e))
fewer (suc n) b (suc c) e l = omega (arith, e)

counts_more : (way : Way) (n b c : ℕ) → n + b ≡ c → (way ≡ Free → 1 + b ≤ c) → counted way n + b ≡ counted way c
counts_more Pull n b c e l = omega (arith, e)
counts_more Free n b c e l = fewer n b c e (l refl)

-- where a line is freed, it is held by one more than these
abbrev HasRoom : Line → Way → Wires → ℕ → ℕ → Type 0
HasRoom Atn way all n k = ⊥
HasRoom Clock way all n k = way ≡ Free → 1 + n ≤ all.clocks
HasRoom Data way all n k = way ≡ Free → 1 + k ≤ all.datas

less_room : (line : Line) (way : Way) (all : Wires) (a b n k : ℕ) → HasRoom line way all (a + n) (b + k) → HasRoom line way all a b × HasRoom line way all n k
less_room Atn way all a b n k h = absurd h
less_room Clock way all a b n k h = (λ e. omega (arith, h e), λ e. omega (arith, h e))
less_room Data way all a b n k h = (λ e. omega (arith, h e), λ e. omega (arith, h e))

without_after : (line : Line) (way : Way) (all : Wires) (own : Held) (r : Rest) → HasRoom line way all (pulls_counted own.clock_low) (pulls_counted own.data_low) → IsWithout all own r → IsWithout (after_a_change line way all) own (after_another line way r)
without_after Atn way all own r room h = absurd room
without_after Clock way all own r room h = record { host = h.host; clocks = counts_more way r.clocks (pulls_counted own.clock_low) all.clocks h.clocks room; datas = h.datas }
without_after Data way all own r room h = record { host = h.host; clocks = h.clocks; datas = counts_more way r.datas (pulls_counted own.data_low) all.datas h.datas room }

-- the toggled line is counted, so there is room
toggled_room : {D : Type 0} (line : Line) (way : Way) (all : Wires) (own : Held) (front back : List (Seated D)) → IsToggled line way own → IsAllOf all own front back
    → HasRoom line way all (total clock_of front) (total data_pulls front) × HasRoom line way all (total clock_of back) (total data_pulls back)
toggled_room Atn way all own front back t h = absurd t
toggled_room {D} Clock way all own front back t h = (λ e. omega (arith, h.clocks, one e), λ e. omega (arith, h.clocks, one e))
  where
    one : way ≡ Free → pulls_counted own.clock_low ≡ 1
    one e = ap pulls_counted t ∙ ap (λ (w : Way). pulls_counted (not (is_pull w))) e
toggled_room {D} Data way all own front back t h = (λ e. omega (arith, h.datas, one e), λ e. omega (arith, h.datas, one e))
  where
    one : way ≡ Free → pulls_counted own.data_low ≡ 1
    one e = ap pulls_counted t ∙ ap (λ (w : Way). pulls_counted (not (is_pull w))) e

recount : (way : Way) (low : Bool) (c f b : ℕ) → low ≡ not (is_pull way) → c ≡ f + (pulls_counted low + b) → counted way c ≡ f + (pulls_counted (is_pull way) + b)
recount Pull low c f b t e = (let z : pulls_counted low ≡ 0 = ap pulls_counted t in omega (arith, e, z))
recount Free low zero f b t e = (let z : pulls_counted low ≡ 1 = ap pulls_counted t in absurd (omega (arith, e, z)))
recount Free low (suc c) f b t e = (let z : pulls_counted low ≡ 1 = ap pulls_counted t in omega (arith, e, z))

pub counted_after_it : {D : Type 0} (line : Line) (way : Way) (all : Wires) (own : Held) (front back front' back' : List (Seated D)) → IsToggled line way own → IsAllOf all own front back → map own_of front' ≡ map own_of front → map own_of back' ≡ map own_of back
    → IsAllOf (after_a_change line way all) (own_after line way own) front' back'
counted_after_it line way all own front back front' back' t h e f =
    let cf = same_sums (λ o. pulls_counted o.clock_low) front front' e in
    let df = same_sums (λ o. pulls_counted o.data_low) front front' e in
    let cb = same_sums (λ o. pulls_counted o.clock_low) back back' f in
    let db = same_sums (λ o. pulls_counted o.data_low) back back' f in
    moved line t (record {
      clocks = h.clocks ∙ (λ i. sym cf i + (pulls_counted own.clock_low + sym cb i));
      datas = h.datas ∙ (λ i. sym df i + (pulls_counted own.data_low + sym db i));
    })
  where
    moved : (line : Line) → IsToggled line way own → IsAllOf all own front' back' → IsAllOf (after_a_change line way all) (own_after line way own) front' back'
    moved Atn t k = absurd t
    moved Clock t k = record { clocks = recount way own.clock_low all.clocks (total clock_of front') (total clock_of back') t k.clocks; datas = k.datas }
    moved Data t k = record { clocks = k.clocks; datas = recount way own.data_low all.datas (total data_pulls front') (total data_pulls back') t k.datas }

pub no_items : {A : Type 0} (xs : List A) → length xs ≡ 0 → xs ≡ []
no_items [] e = refl
no_items (x ∷ xs) e = absurd (omega (arith, e))

pub same_map : {A : Type 0} (xs : List A) → map (λ x. x) xs ≡ xs
same_map [] = refl
same_map (x ∷ xs) = ap (λ ys. x ∷ ys) (same_map xs)

map_twice : {A : Type 0} (f g : A → A) (xs : List A) → map g (map f xs) ≡ map (λ x. g (f x)) xs
map_twice f g [] = refl
map_twice f g (x ∷ xs) = ap (λ ys. g (f x) ∷ ys) (map_twice f g xs)

module _ (D M : Type 0) (stands : D → M → Type 0) (step : M → Act → M) (says : M → Option (ℕ × Bool)) where
  -- each that stands for a station meets what it holds after the change
  all_meet : (line : Line) (way : Way) (all : Wires) (xs : List (Seated D)) (ss : List (Station M)) → HasRoom line way all (total clock_of xs) (total data_pulls xs) → AllZip (IsSeat D M stands all) xs ss
      → AllZip (λ x s. Meets D M stands (after_a_change line way all) (after_another line way s.rest) x s) xs ss
  all_meet line way all [] [] room h = tt
  all_meet line way all [] (s ∷ ss) room h = absurd h
  all_meet line way all (x ∷ xs) [] room h = absurd h
  all_meet line way all (x ∷ xs) (s ∷ ss) room h =
      let parts = less_room line way all (clock_of x) (data_pulls x) (total clock_of xs) (total data_pulls xs) room in
      (record { port = h.0.port; machine = h.0.machine; rest = without_after line way all x.port.own s.rest parts.0 h.0.rest }, all_meet line way all xs ss parts.1 h.1)

  -- nothing was changed
  pub heard_none : (all : Wires) (own : Held) (front back : List (Seated D)) (bs hs : List (Station M)) → IsAllOf all own front back → AllZip (IsSeat D M stands all) front bs → AllZip (IsSeat D M stands all) back hs
      → HaveHeard D M stands step says all own [] front back bs hs
  heard_none all own front back bs hs counts b h = record {
    counts = counts;
    before = subst (λ ss. AllZip (IsSeat D M stands all) front ss) (sym (same_map bs)) b;
    afterwards = subst (λ ss. AllZip (IsSeat D M stands all) back ss) (sym (same_map hs)) h;
  }

  -- what tell_each says of drives that are told
  abbrev pub Told : ℕ → Wires → List (Seated D) → List (Seated D) → Type 0
  Told moment all xs ys = (f : Rest → Rest) (ss : List (Station M)) → AllZip (λ x s. Meets D M stands all (f s.rest) x s) xs ss → AllZip (IsSeat D M stands all) ys (map (λ s. told_lines M step says moment (f s.rest) s) ss)

  told_heard : (moment : ℕ) (c : Change) (all : Wires) (xs ys : List (Seated D)) (ss : List (Station M)) → c.moment ≡ moment → HasRoom c.line c.way all (total clock_of xs) (total data_pulls xs) → Told moment (after_a_change c.line c.way all) xs ys
      → AllZip (IsSeat D M stands all) xs ss → AllZip (IsSeat D M stands (after_a_change c.line c.way all)) ys (map (λ s. hear M step says c s) ss)
  told_heard moment c all xs ys ss when room told h =
      subst (λ (t : ℕ). AllZip (IsSeat D M stands (after_a_change c.line c.way all)) ys (map (λ s. told_lines M step says t (after_another c.line c.way s.rest) s) ss)) (sym when)
      (told (after_another c.line c.way) ss (all_meet c.line c.way all xs ss room h))

  -- one change more
  pub heard_next : (moment : ℕ) (c : Change) (cs : List Change) (all : Wires) (own : Held) (front back front' back' front2 back2 : List (Seated D)) (bs hs : List (Station M))
      → Told moment (after_a_change c.line c.way all) front front' → map own_of front' ≡ map own_of front → Told moment (after_a_change c.line c.way all) back back' → map own_of back' ≡ map own_of back
      → ((o : Held) (us es : List (Station M)) → AreAtMoment moment cs → Toggles o cs → IsAllOf (after_a_change c.line c.way all) o front' back' → AllZip (IsSeat D M stands (after_a_change c.line c.way all)) front' us
      → AllZip (IsSeat D M stands (after_a_change c.line c.way all)) back' es → HaveHeard D M stands step says (wires_after_all cs (after_a_change c.line c.way all)) (held_afterwards cs o) cs front2 back2 us es)
      → AreAtMoment moment (c ∷ cs) → Toggles own (c ∷ cs) → IsAllOf all own front back → AllZip (IsSeat D M stands all) front bs → AllZip (IsSeat D M stands all) back hs
      → HaveHeard D M stands step says (wires_after_all (c ∷ cs) all) (held_afterwards (c ∷ cs) own) (c ∷ cs) front2 back2 bs hs
  heard_next moment c cs all own front back front' back' front2 back2 bs hs tf of tb ob more when toggles counts b h =
      let room = toggled_room c.line c.way all own front back toggles.0 counts in
      let rest = more (own_after c.line c.way own) (map (λ s. hear M step says c s) bs) (map (λ s. hear M step says c s) hs) when.1 toggles.1
      (counted_after_it c.line c.way all own front back front' back' toggles.0 counts of ob)
      (told_heard moment c all front front' bs when.0 room.0 tf b) (told_heard moment c all back back' hs when.0 room.1 tb h) in
      record {
        counts = rest.counts;
        before = subst (λ ss. AllZip (IsSeat D M stands (wires_after_all (c ∷ cs) all)) front2 ss) (map_twice (λ s. hear M step says c s) (λ s. hear_all M step says cs s) bs) rest.before;
        afterwards = subst (λ ss. AllZip (IsSeat D M stands (wires_after_all (c ∷ cs) all)) back2 ss) (map_twice (λ s. hear M step says c s) (λ s. hear_all M step says cs s) hs) rest.afterwards;
      }
