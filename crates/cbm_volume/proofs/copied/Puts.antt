-- Bytes put one after another by several calls, on any disk.
use Rattle.std.proofs.Common.{◌≡◌, ◌++◌, ◌∷◌, [], ℕ, List, true, false, Bool, refl, sym, subst, inl, inr, Option, Some, None}
use Rattle.std.specs.Prelude.{MatchBool}
use Rattle.cbm_medium.specs.Place.{Place}
use Rattle.cbm_medium.specs.Content.{Content}
use Rattle.cbm_bam.specs.Map.{Claims}
use Rattle.cbm_chain.specs.Writing.{State, GoesOnWriting, IsForFiles, IsFullFor, Puts, PutsAll, begun_at}
use Rattle.cbm_volume.specs.Copying.{PutsSome}

-- ---- the writer's block stays one of files

pub begun_for : (tracks : ℕ) (c c' : Content) (p : Place) (s : State) → Claims tracks c c' p → s ≡ begun_at tracks p → IsForFiles s.tracks s.current
begun_for tracks c c' p s k is = subst (λ (u : State). IsForFiles u.tracks u.current) (sym is) (k.has, k.off_18)

gone_for : (c c' : Content) (x : Option Place) (s t : State) → GoesOnWriting c c' x s t → IsForFiles t.tracks t.current
gone_for c c' None s t g = begun_for s.tracks c c' g.0 t g.1 g.2
gone_for c c' (Some p) s t g = subst (λ (u : State). IsForFiles u.tracks u.current) (sym g.2) (g.1.claims.has, g.1.claims.off_18)

put_for : (c c' : Content) (s t : State) (byte : ℕ) → Puts c c' s byte t → IsForFiles s.tracks s.current → IsForFiles t.tracks t.current
put_for c c' s t byte (inl p) f = subst (λ (u : State). IsForFiles u.tracks u.current) (sym p.1) f
put_for c c' s t byte (inr p) f = subst (λ (u : State). IsForFiles u.tracks u.current) (sym p.2) (gone_for c c' s.current s p.0 p.1)

all_for : (bytes : List ℕ) (c c' : Content) (s t : State) → PutsAll bytes c s c' t → IsForFiles s.tracks s.current → IsForFiles t.tracks t.current
all_for [] c c' s t p f = subst (λ (u : State). IsForFiles u.tracks u.current) (sym p.1) f
all_for (byte ∷ rest) c c' s t p f = all_for rest p.0 c' p.1 t p.3 (put_for c p.0 s p.1 byte p.2 f)

-- ---- one after another

both_put : (xs ys : List ℕ) (c mid c' : Content) (s u t : State) → PutsAll xs c s mid u → PutsAll ys mid u c' t → PutsAll (xs ++ ys) c s c' t
both_put [] ys c mid c' s u t p k = subst (λ (x : Content). PutsAll ys x s c' t) p.0 (subst (λ (x : State). PutsAll ys mid x c' t) p.1 k)
both_put (byte ∷ xs) ys c mid c' s u t p k = (p.0, p.1, p.2, both_put xs ys p.0 mid c' p.1 u t p.3 k)

-- no byte yet
pub none_put : (c : Content) (s : State) → PutsSome c c s s
none_put c s f = ([], (refl, refl))

-- more bytes after the others
pub puts_more : (c mid c' : Content) (s u t : State) → PutsSome c mid s u → PutsSome mid c' u t → PutsSome c c' s t
puts_more c mid c' s u t p k f =
    let first = p f in
    let then = k (all_for first.0 c mid s u first.1 f) in
    (first.0 ++ then.0, both_put first.0 then.0 c mid c' s u t first.1 then.1)

-- one byte, where a block was found for it
pub byte_on : (c c' : Content) (s t : State) (byte : ℕ) (done : Bool) → (IsForFiles s.tracks s.current → MatchBool done (Puts c c' s byte t) (IsFullFor c c' s t)) → done ≡ true → PutsSome c c' s t
byte_on c c' s t byte true put is f = (byte ∷ [], (c', t, put f, (refl, refl)))
byte_on c c' s t byte false put is f = absurd (cc)
