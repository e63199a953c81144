-- Two lists of drives, place by place.
use Rattle.std.proofs.Common.{◌≡◌, List, [], ◌∷◌, ◌++◌, map}
use Rattle.std.specs.List.{AllZip}

module _ {A B : Type 0} where
  -- f goes over both lists
  pub zip_both : (f : A → A) (g : B → B) (P Q R : A → B → Type 0) → ((x : A) (y : B) → P x y → Q x y → R (f x) (g y)) → (xs : List A) (ys : List B) → AllZip P xs ys → AllZip Q xs ys → AllZip R (map f xs) (map g ys)
  zip_both f g P Q R h [] [] p q = tt
  zip_both f g P Q R h [] (y ∷ ys) p q = elim p [ ]
  zip_both f g P Q R h (x ∷ xs) [] p q = elim p [ ]
  zip_both f g P Q R h (x ∷ xs) (y ∷ ys) p q = (h x y p.0 q.0, zip_both f g P Q R h xs ys p.1 q.1)

  pub zip_left : (f : A → A) (P Q R : A → B → Type 0) → ((x : A) (y : B) → P x y → Q x y → R (f x) y) → (xs : List A) (ys : List B) → AllZip P xs ys → AllZip Q xs ys → AllZip R (map f xs) ys
  zip_left f P Q R h [] [] p q = tt
  zip_left f P Q R h [] (y ∷ ys) p q = elim p [ ]
  zip_left f P Q R h (x ∷ xs) [] p q = elim p [ ]
  zip_left f P Q R h (x ∷ xs) (y ∷ ys) p q = (h x y p.0 q.0, zip_left f P Q R h xs ys p.1 q.1)

  pub zip_right : (g : B → B) (P Q R : A → B → Type 0) → ((x : A) (y : B) → P x y → Q x y → R x (g y)) → (xs : List A) (ys : List B) → AllZip P xs ys → AllZip Q xs ys → AllZip R xs (map g ys)
  zip_right g P Q R h [] [] p q = tt
  zip_right g P Q R h [] (y ∷ ys) p q = elim p [ ]
  zip_right g P Q R h (x ∷ xs) [] p q = elim p [ ]
  zip_right g P Q R h (x ∷ xs) (y ∷ ys) p q = (h x y p.0 q.0, zip_right g P Q R h xs ys p.1 q.1)

  pub zip_weak : (P Q : A → B → Type 0) → ((x : A) (y : B) → P x y → Q x y) → (xs : List A) (ys : List B) → AllZip P xs ys → AllZip Q xs ys
  zip_weak P Q h [] [] p = tt
  zip_weak P Q h [] (y ∷ ys) p = elim p [ ]
  zip_weak P Q h (x ∷ xs) [] p = elim p [ ]
  zip_weak P Q h (x ∷ xs) (y ∷ ys) p = (h x y p.0, zip_weak P Q h xs ys p.1)

  -- at a place that is the same in both
  pub zip_split : (P Q : A → B → Type 0) (xs : List A) (x : A) (vs : List A) (ys : List B) (y : B) (ws : List B) → AllZip P (xs ++ x ∷ vs) (ys ++ y ∷ ws) → AllZip Q xs ys → AllZip P xs ys × P x y × AllZip P vs ws
  zip_split P Q [] x vs [] y ws p q = (tt, p.0, p.1)
  zip_split P Q [] x vs (u ∷ ys) y ws p q = elim q [ ]
  zip_split P Q (u ∷ xs) x vs [] y ws p q = elim q [ ]
  zip_split P Q (u ∷ xs) x vs (w ∷ ys) y ws p q = let k = zip_split P Q xs x vs ys y ws p.1 q.1 in ((p.0, k.0), k.1, k.2)

  pub zip_join : (P : A → B → Type 0) (xs : List A) (x : A) (vs : List A) (ys : List B) (y : B) (ws : List B) → AllZip P xs ys → P x y → AllZip P vs ws → AllZip P (xs ++ x ∷ vs) (ys ++ y ∷ ws)
  zip_join P [] x vs [] y ws p q r = (q, r)
  zip_join P [] x vs (u ∷ ys) y ws p q r = elim p [ ]
  zip_join P (u ∷ xs) x vs [] y ws p q r = elim p [ ]
  zip_join P (u ∷ xs) x vs (w ∷ ys) y ws p q r = (p.0, zip_join P xs x vs ys y ws p.1 q r)
