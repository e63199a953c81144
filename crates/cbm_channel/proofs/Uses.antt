-- How the channels use the disk, before and after a change of one of them.
use Rattle.std.proofs.Common.{◌≡◌, ◌≢◌, ℕ, ◌<◌, Bool, true, false, List, [], ◌∷◌, length, refl, sym, ap, ◌∙◌, drop, subst}
use Rattle.std.specs.Prelude.{◌==◌, ◌||◌, slice_set, Some, None}
use Rattle.std.specs.List.{AllZip, list_any}
use Rattle.std.proofs.lemmas.List.{get_or-set_same, get_or-set_other}
use Rattle.std.proofs.lemmas.Bool.{eqb-false, eqb-true}
use Rattle.cbm_volume.specs.Writers.{Use, Filling, with_use}
use Rattle.cbm_chain.specs.Reading.{Reading}
use Rattle.cbm_listing.specs.Listed as listed
use Rattle.cbm_channel.specs.declared.channel.Channel.{Channel}
use Rattle.cbm_channel.specs.declared.channel.Channel.TheVariants as code
use Rattle.cbm_machine.specs.Machines as machine
use Rattle.cbm_channel.specs.Standing.{ChannelStands, use_of, uses_of}
use Rattle.cbm_channel.specs.Placed.{Placed}
use Rattle.cbm_channel.specs.Shown.{uses_on, is_channel_open}

module _ (xs : List Channel) (ys : List machine.Channel) (i : ℕ) (x : Channel) (y : machine.Channel) (more : i < length xs) (also : i < length ys) where
  set_here : uses_of (slice_set xs i x) (slice_set ys i y) i ≡ use_of x y
  set_here = λ j. use_of (get_or-set_same xs i x code.Closed more j) (get_or-set_same ys i y machine.Closed also j)

  set_there : (n : ℕ) → n ≢ i → uses_of (slice_set xs i x) (slice_set ys i y) n ≡ uses_of xs ys n
  set_there n ne = λ j. use_of (get_or-set_other xs i n x code.Closed ne j) (get_or-set_other ys i n y machine.Closed ne j)

  -- one channel uses the disk otherwise
  set_at : (n : ℕ) → uses_of (slice_set xs i x) (slice_set ys i y) n ≡ with_use (uses_of xs ys) i (use_of x y) n
  set_at n = by_test (n == i) refl
    where
      by_test : (b : Bool) → (n == i) ≡ b → uses_of (slice_set xs i x) (slice_set ys i y) n ≡ with_use (uses_of xs ys) i (use_of x y) n
      by_test true e = ap (uses_of (slice_set xs i x) (slice_set ys i y)) (eqb-true n i e) ∙ set_here ∙ sym (rw e refl)
      by_test false e = set_there n (eqb-false n i e) ∙ sym (rw e refl)

  pub uses_set : uses_of (slice_set xs i x) (slice_set ys i y) ≡ with_use (uses_of xs ys) i (use_of x y)
  uses_set = λ j n. set_at n j

-- a channel that goes on as it was
pub with_same : (uses : ℕ → Use) (ch : ℕ) (u : Use) → uses ch ≡ u → with_use uses ch u ≡ uses
with_same uses ch u e = λ j n. at n j
  where
    by_test : (n : ℕ) (b : Bool) → (n == ch) ≡ b → with_use uses ch u n ≡ uses n
    by_test n true t = rw t (sym e ∙ ap uses (sym (eqb-true n ch t)))
    by_test n false t = rw t refl

    at : (n : ℕ) → with_use uses ch u n ≡ uses n
    at n = by_test n (n == ch) refl

-- ---- what holds of a channel of the code and the machine's that it stands for

-- it holds where it does for each kind
pub by_kind : (P : Channel → machine.Channel → Type 0) → P code.Closed machine.Closed → ((l : listed.ListedBytes) → P (code.Listing l) (machine.Reading None (drop l.taken l.bytes)))
    → ((slot : ℕ) (r : Reading) (left : List ℕ) → P (code.File slot r) (machine.Reading (Some slot) left))
    → ((w : Filling) (full : Bool) (bytes : List ℕ) (blocks : ℕ) → P (code.Writing w full) (machine.Writing w.slot bytes blocks full w.replaces))
    → ((slot : ℕ) → P (code.Stopped slot) (machine.Stopped slot)) → ((r : Placed) → P (code.Records r) (machine.Relative r.slot r.number r.position))
    → (x : Channel) (y : machine.Channel) → ChannelStands x y → P x y
by_kind P closed listing file writing stopped records code.Closed y h = subst (P code.Closed) (sym h) closed
by_kind P closed listing file writing stopped records (code.Listing l) y h = subst (P (code.Listing l)) (sym h) (listing l)
by_kind P closed listing file writing stopped records (code.File slot r) y h = subst (P (code.File slot r)) (sym h.1) (file slot r h.0)
by_kind P closed listing file writing stopped records (code.Writing w full) y h = subst (P (code.Writing w full)) (sym h.2) (writing w full h.0 h.1)
by_kind P closed listing file writing stopped records (code.Stopped slot) y h = subst (P (code.Stopped slot)) (sym h) (stopped slot)
by_kind P closed listing file writing stopped records (code.Records r) y h = subst (P (code.Records r)) (sym h) (records r)

-- a test that tells the same of each two tells the same of any
pub any_alike : (p : machine.Channel → Bool) (q : Channel → Bool) → ((x : Channel) (y : machine.Channel) → ChannelStands x y → p y ≡ q x)
    → (xs : List Channel) (ys : List machine.Channel) → AllZip ChannelStands xs ys → list_any p ys ≡ list_any q xs
any_alike p q same [] [] h = refl
any_alike p q same [] (y ∷ ys) h = absurd h
any_alike p q same (x ∷ xs) [] h = absurd h
any_alike p q same (x ∷ xs) (y ∷ ys) h = λ i. same x y h.0 i || any_alike p q same xs ys h.1 i

-- ---- which slots are open

uses_same : (n : ℕ) (x : Channel) (y : machine.Channel) → ChannelStands x y → machine.uses n y ≡ uses_on n x
uses_same n = by_kind (λ x y. machine.uses n y ≡ uses_on n x) refl (λ l. refl) (λ slot r left. refl) (λ w full bytes blocks. refl) (λ slot. refl) (λ r. refl)

pub any_uses_same : (n : ℕ) (xs : List Channel) (ys : List machine.Channel) → AllZip ChannelStands xs ys → list_any (machine.uses n) ys ≡ list_any (uses_on n) xs
any_uses_same n = any_alike (machine.uses n) (uses_on n) (uses_same n)

-- ---- what is open

open_same : (x : Channel) (y : machine.Channel) → ChannelStands x y → machine.is_open y ≡ is_channel_open x
open_same = by_kind (λ x y. machine.is_open y ≡ is_channel_open x) refl (λ l. refl) (λ slot r left. refl) (λ w full bytes blocks. refl) (λ slot. refl) (λ r. refl)

pub any_open_same : (xs : List Channel) (ys : List machine.Channel) → AllZip ChannelStands xs ys → list_any machine.is_open ys ≡ list_any is_channel_open xs
any_open_same = any_alike machine.is_open is_channel_open open_same
