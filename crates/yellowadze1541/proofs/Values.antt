-- The machine value of a `Handle`. Assumes `Logic`.
use Rattle.std.proofs.Common.{◌≡◌, ℕ, List, [], ◌∷◌, ◌++◌, refl, ap, ◌∙◌}
use seplogic.Ra.Ura.{Ura}
use mir.Val.{Val, vstruct, vcons, vnil, of_list}
use types.Logic.{Logic}
use types.Kit.{use1, given, learn, Item, Goal, Seq, Step, step, ‵, ◌$◌, drop, fsplit, fjoin, fpick, fpack, feq_i, feq_l}
use denote.RattleType.{Valss}
use denote.Builtin.{RawPtr}
use denote.RawPtr.{Ptr, block_ptr, null_ptr, ptr_val, lies_at, Testable}
use denote.Steps.{nothing}
use denote.Struct.Struct.{within}
use denote.Struct.Owning.{shape}
use base.Fraction.{full_share}
use base.Fml.{ftrue}
use base.Logic.{via, snd∗, never_e, guard_i}
use mir.Raw.{raw as bare}
use types.Logic.{sem}
use contract.Monad.{fact_use}
use denote.Memory.{lone}
use Rattle.std.specs.Prelude.{Option, Some, None}
use Rattle.std.specs.declared.alloc.Global.{Global}
use Rattle.std.specs.contracts.impls.GlobalAllocator.TheImpl.{ghosts}
use Rattle.std.proofs.GlobalToken.{dealloc_token-Testable}
use Rattle.std_alloc.specs.Box.Ownership.{box_owns}
use Rattle.yellowadze1541.specs.Handles.{handle_owns}
use Rattle.yellowadze1541.specs.contracts.handle.Handle as handle
use Rattle.yellowadze1541.specs.contracts.inner.Inner as inner

abbrev pub word : Ptr → Val
word p = vstruct (vcons (ptr_val p) vnil)

module _ {M : Type 1} {𝓤 : Ura M} {𝓛 : Logic 𝓤} {K : Type 0} {Γ : List (Item 𝓤)} {G : Goal 𝓤 𝓛.H} where
  pub handle_in : K → (p : Ptr) (x : Option (inner.the_row).Denot)
      → Step K 𝓛 (‵ ((handle.the_row).own_val (record { at = p; value = x }) (word p ∷ [])) ∷ Γ) G (‵ (handle_owns p x) ∷ Γ) G
  handle_in t p x = step (λ s.
      nothing t $ feq_i t (List Val) (ptr_val p ∷ []) (ptr_val p ∷ []) refl $ fjoin t $ feq_i t (List Val) (word p ∷ []) (word p ∷ []) refl $ fjoin t $
      fpack t (Valss (RawPtr ∷ [])) (within (shape handle.the_type) (p, tt) (word p ∷ [])) (ptr_val p ∷ [], tt) $ fjoin t $ s)

  pub handle_out : K → (d : (handle.the_row).Denot) (vs : List Val)
      → (vs ≡ word d.at ∷ [] → Seq K 𝓛 (‵ (handle_owns d.at d.value) ∷ Γ) G)
      → Seq K 𝓛 (‵ ((handle.the_row).own_val d vs) ∷ Γ) G
  handle_out t d vs k =
      fsplit t $ fpick t (λ vss. fsplit t $ feq_l t (λ ev. fsplit t $ feq_l t (λ ep. drop t $
      k (ev ∙ ap (λ (ps : List Val). vstruct (of_list (ps ++ [])) ∷ []) ep))))

  -- null with nothing, or a box
  pub handle_either : K → (a : Global) (p : Ptr) (x : Option (inner.the_row).Denot) → (p ≡ null_ptr → x ≡ None → Seq K 𝓛 Γ G)
      → ((b o : ℕ) (y : (inner.the_row).Denot) → p ≡ block_ptr b o → x ≡ Some y → Testable p → Seq K 𝓛 (‵ (box_owns (ghosts.dealloc_token a) inner.the_row (block_ptr b o) y) ∷ Γ) G) → Seq K 𝓛 (‵ (handle_owns p x) ∷ Γ) G
  handle_either t a null_ptr None nil one = drop t $ nil refl refl
  handle_either t a null_ptr (Some y) nil one = use1 𝓛 (given ⊥ (‵ ftrue)) (never_e 𝓤 _) $ learn t (λ e. absurd e)
  handle_either t a (block_ptr b o) None nil one = use1 𝓛 (given ⊥ (‵ ftrue)) (never_e 𝓤 _) $ learn t (λ e. absurd e)
  handle_either t a (block_ptr b o) (Some y) nil one =
      use1 𝓛 (given (Testable (block_ptr b o)) (‵ (handle_owns (block_ptr b o) (Some y))))
      (fact_use 𝓤 (Testable (block_ptr b o)) (via 𝓤 _ (snd∗ 𝓤 (sem 𝓛 (lies_at inner.the_row full_share (block_ptr b o) y)) (sem 𝓛 (ghosts.dealloc_token a (bare (lone (inner.the_row).mir)) (block_ptr b o))))
      (dealloc_token-Testable 𝓛 a (bare (lone (inner.the_row).mir)) (block_ptr b o))) (guard_i 𝓤 (Testable (block_ptr b o)) (sem 𝓛 (handle_owns (block_ptr b o) (Some y))))) $ learn t (λ test. one b o y refl refl test)
