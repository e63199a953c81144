-- One channel of the code's list is changed.
use Rattle.std.proofs.Common.{◌≡◌, ℕ, Option, None, Some, ◌+◌, ◌<◌, List, length, sym, ap, ◌∙◌, subst, arith, inl, inr}
use Rattle.std.specs.Prelude.{slice_index_or, slice_set}
use Rattle.std.proofs.lemmas.List.{get_or-set_same, get_or-set_other, length-set}
use Rattle.std.proofs.lemmas.Bool.Decides.{eqb_tells}
use Rattle.cbm_channel.specs.declared.channel.Channel.{Channel}
use Rattle.cbm_channel.specs.declared.channel.Channel.TheVariants.{Closed}
use Rattle.cbm_channel.specs.Commanded.{AreSameBut}
use Rattle.cbm_channel.specs.Standing.{SameBut, FitsTracks, AreFit, IsSameFile, HaveSameFiles}
use Rattle.cbm_channel.proofs.Stands.{any_default}

-- one more is closed
pub closed_next : (old new : List Channel) (ch k : ℕ) → slice_index_or new ch Closed ≡ Closed → SameBut ch old new → k < ch + 1
    → ((j : ℕ) → j < ch → slice_index_or old j Closed ≡ Closed) → slice_index_or new k Closed ≡ Closed
closed_next old new ch k closed others below before = elim (eqb_tells k ch) [
  | inl same ↦ ap (λ j. slice_index_or new j Closed) same.1 ∙ closed
  | inr other ↦ others k other.1 ∙ before k (omega (arith, below, other.1))
]

-- a channel that is set
pub set_now : (old new : List Channel) (ch : ℕ) (x : Channel) → new ≡ slice_set old ch x → ch < length old → slice_index_or new ch Closed ≡ x
set_now old new ch x e lt = ap (λ xs. slice_index_or xs ch Closed) e ∙ get_or-set_same old ch x Closed lt

-- the others stay
pub others_set : (old new : List Channel) (ch : ℕ) (x : Channel) → new ≡ slice_set old ch x → SameBut ch old new
others_set old new ch x e k other = ap (λ xs. slice_index_or xs k Closed) e ∙ get_or-set_other old ch k x Closed other

-- so do all, if none is changed
pub same_all : (o : Option ℕ) (old new : List Channel) → new ≡ old → AreSameBut o old new
same_all None old new e = e
same_all (Some ch) old new e = λ k other. ap (λ xs. slice_index_or xs k Closed) e

-- one that has the same file open
pub have_same : (old new : List Channel) (ch : ℕ) (x d : Channel) → new ≡ slice_set old ch x → ch < length old → IsSameFile (slice_index_or old ch d) x → HaveSameFiles old new
have_same old new ch x d e lt same k = elim (eqb_tells k ch) [
  | inl here ↦ subst (λ (j : ℕ). IsSameFile (slice_index_or old j Closed) (slice_index_or new j Closed)) (sym here.1)
      (subst (IsSameFile (slice_index_or old ch Closed)) (sym (set_now old new ch x e lt)) (subst (λ (y : Channel). IsSameFile y x) (sym (any_default old ch Closed d lt)) same))
  | inr other ↦ inl (ap (λ xs. slice_index_or xs k Closed) e ∙ get_or-set_other old ch k x Closed other.1)
]

-- one that fits
pub fit_set : (t : ℕ) (chs : List Channel) (ch : ℕ) (x : Channel) → AreFit t chs → FitsTracks t x → ch < length chs → AreFit t (slice_set chs ch x)
fit_set t chs ch x fit one lt = record {
  count = length-set chs ch x ∙ fit.count;
  each = λ i d more. elim (eqb_tells i ch) [
    | inl here ↦ subst (FitsTracks t) (sym (ap (λ (j : ℕ). slice_index_or (slice_set chs ch x) j d) here.1 ∙ get_or-set_same chs ch x d lt)) one
    | inr other ↦ subst (FitsTracks t) (sym (get_or-set_other chs ch i x d other.1)) (fit.each i d (omega (arith, more, length-set chs ch x)))
  ];
}
