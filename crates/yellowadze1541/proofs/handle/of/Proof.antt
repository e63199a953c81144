-- `of` hands what the box owned to the handle.
use Rattle.std.proofs.Common.{List, [], ◌∷◌, ◌++◌, refl, sym, ap, ◌∙◌, subst}
use mir.Syntax.{Dict, impl, tnil, dnil, method}
use mir.Val.{Val}
use mir.Raw.{raw as bare}
use base.Fraction.{full_share}
use base.Logic.{SProp, ent, sep, emp, never, id⊢, fst∗, via, emp∗, comm∗}
use base.Fml.{ftrue, fsep, flft}
use prog.Wp.{WpFn}
use types.Logic.{sem}
use types.Kit.{‵, raw, ◌⊛◌, some, later, ◌$◌, ◌∵◌, !, qed, move, keep, show, drop, split, join, fsplit, fjoin, pick, suffices, use0, use1, await, feq_l, done}
use types.Run.{of_opd, no_more, and_then, returns, enter}
use types.ByLocal.{alloc_all, pass_all, free_all, look_at, get, sets, lands_as}
use types.Part.{agg}
use contract.BorrowLft.{◌⊑◌, ⊑_static}
use contract.Monad.{fact, fact_i}
use contract.Lifetimes.{Lfts}
use contract.Running.{tables, tables_of}
use denote.Exit.{yes, no}
use denote.RattleType.{owns}
use denote.Signature.{Signature, types_at, plain}
use denote.Plain.{Nothing}
use denote.RawPtr.{Ptr, RawPtr, block_ptr, null_ptr, ptr_val, in_a_block}
use denote.Steps.{nothing, only}
use denote.Param.{param, layout, layouts}
use denote.Param.NoDrop.{glues}
use denote.Param.Glue as glue
use denote.Triple.Call.{calls_at}
use denote.Triple.Carry.{beside, spared}
use denote.Triple.Clauses.{Lasts, lasts, closing}
use denote.Triple.Spec.{Spec, triple_of}
use denote.Triple.Table.{framed, run_framed, widened}
use denote.Triple.Walked.{says, Stays, stay_dropped, Goes-dropped, walk_of, ends_at}
use Rattle.std.specs.Prelude.{Some}
use Rattle.std.proofs.raw_atomic.Walks.{proved_at}
use Rattle.std.specs.contracts.impls.GlobalAllocator.TheImpl.{ghosts, dict}
use Rattle.std.proofs.impls.GlobalAllocator.TheImpl.Met as alloc_met
use Rattle.std_alloc.specs.Box.Ownership.{box_owns}
use Rattle.std_alloc.proofs.BoxSteps.Form.{word as box_word, box_typed}
use Rattle.std_alloc.proofs.BoxSteps.Steps.{box_out, box_in}
use Rattle.std_alloc.specs.contracts.boxed.Box.into_raw as callee
use Rattle.std_alloc.proofs.boxed.Box.into_raw.Met.{met}
use Rattle.yellowadze1541.specs.Handles.{handle_owns}
use Rattle.yellowadze1541.specs.contracts.inner.Inner as inner
use Rattle.yellowadze1541.specs.contracts.yellowadze1541++inner++Inner+Destruct.drop as let_go
use Rattle.yellowadze1541.specs.contracts.yellowadze1541++inner++Inner+Destruct.drop.Key as go_key
use Rattle.yellowadze1541.proofs.yellowadze1541++inner++Inner+Destruct.drop.Symbol as go_symbol
use Rattle.yellowadze1541.proofs.yellowadze1541++inner++Inner+Destruct.drop.Met as go_met
use Rattle.yellowadze1541.proofs.Destruct++none.drop.Code as none_code
use Rattle.yellowadze1541.proofs.Types.{X, Z, LX, LZ, none, E, Boxed}
use Rattle.yellowadze1541.proofs.Values.{word, handle_in}
use Rattle.yellowadze1541.specs.contracts.handle.of.{ended, clauses}
use Rattle.yellowadze1541.specs.contracts.handle.of.Key.{name as #self}
use Rattle.yellowadze1541.proofs.handle.of.Statement.{statement}
use Rattle.yellowadze1541.proofs.handle.of.Code as code

abbrev goes : Dict
goes = impl ("yellowadze1541::yellowadze1541++inner++Inner+Destruct::drop" ∷ []) tnil dnil

abbrev hs : Stays ended.signature.params ended.kept
hs = (stay_dropped (plain (λ _. Boxed)) yes, tt)

pub of_spec : {M : Type 1} → statement M
unfolding tables_of none_code.code
of_spec {M} 𝓤 𝓛 𝓜 𝓡 wired =
    let H = 𝓛.H in let 𝓣 = tables 𝓤 H 𝓜 𝓡 𝓡.env in let c = clauses 𝓛 𝓜.mem 𝓡.returns in
    let allocator = alloc_met.passed 𝓡.env (code.calls-std_heap::GlobalAllocator::allocate 𝓡.env wired) (code.calls-std_heap::GlobalAllocator::deallocate 𝓡.env wired) (code.calls-std_heap::GlobalAllocator::grow 𝓡.env wired) (code.calls-std_heap::GlobalAllocator::shrink 𝓡.env wired) M 𝓤 𝓛 𝓜 𝓡 in
    let kept = glues "yellowadze1541::Destruct++none::drop" 𝓡.env (code.calls-yellowadze1541::Destruct++none::drop 𝓡.env wired) Z LZ M 𝓤 𝓛 𝓜 𝓡 in
    let has = code.calls-yellowadze1541::yellowadze1541++inner++Inner+Destruct::drop 𝓡.env wired in let m = method goes 0 (layouts [] tt) in let gives = let_go.spec 𝓛 𝓜.mem 𝓡.returns in
    let S : Signature = record { lifetimes = 0; outlives = []; params = plain (λ _. param 0 X) ∷ []; result = plain (λ _. Nothing) } in
    let let_spec : Spec 𝓤 S = λ κs a. record { ghost = Unit {0}; requires = λ x. (gives κs a).requires x; ensures = λ x r. (gives κs a).ensures x r } in
    let spent : Spec 𝓤 S = closing 𝓛 (record { signature = S; kept = (no, tt) }) (λ κs a. record { ghost = Unit {0}; requires = λ _. emp 𝓤; ensures = λ _ r e. emp 𝓤 }) in
    let gone : glue.Met 𝓛 𝓜 𝓡 𝓡.env X goes = λ y. spared 𝓛 S (𝓡.run (𝓡.env m)) (run_framed 𝓤 H 𝓜 𝓡 (𝓡.env m)) 1 (inner.the_row.lives, tt) spent
    (beside 𝓛 S (𝓡.run (𝓡.env m)) (run_framed 𝓤 H 𝓜 𝓡 (𝓡.env m)) let_spec spent (λ κs a x. x) (λ κs a x. emp 𝓤)
    (λ κs a x. via 𝓤 (sep 𝓤 (emp 𝓤) ((let_spec κs a).requires x)) (emp∗ 𝓤 ((let_spec κs a).requires x)) (comm∗ 𝓤 (emp 𝓤) ((let_spec κs a).requires x)))
    (λ κs a x r. qed 𝓛 (raw ((let_spec κs a).ensures x r) ∷ raw (emp 𝓤) ∷ []) ∵ keep ! [] $ show ! (λ (ws : Unit {0} × Unit {0}). sep 𝓤 (sem 𝓛 (fsep ftrue ftrue)) (emp 𝓤)) (tt, tt) $
    nothing ! $ nothing ! $ nothing ! $ join ! $ done !)
    (widened 𝓤 H (triple_of 𝓛 let_go.signature gives) 𝓜 𝓡 𝓡.env (𝓡.env go_key.name) (𝓡.env m) (go_symbol.as_method 𝓡.env has m refl) (go_met.met 𝓤 𝓛 𝓜 𝓡 has))) ((y.0.0, y.0.1, tt, y.0.3, y.0.4), y.1) in
    let known = met 𝓤 𝓛 𝓜 𝓡 (code.calls-std_alloc::boxed::Box::into_raw 𝓡.env wired) X Z LX LZ ghosts dict none goes allocator kept gone in
    let k = triple_of 𝓛 (callee.signature X Z ghosts dict none goes) (callee.spec X Z ghosts dict none goes 𝓛 𝓜.mem 𝓡.returns) in
    proved_at 𝓛 ended hs c 𝓜 𝓡 (Goes-dropped 𝓛 0 (plain (λ _. Boxed)) yes (λ κs x f. refl), tt) #self code.function (code.unfolded 𝓤 H 𝓜 𝓡 wired) (λ z are.
    let v = z.0.3.0 in let Post : Val → SProp 𝓤 = (walk_of 𝓛 ended hs c).post z in let Run : List Val → SProp 𝓤 = λ ws. WpFn 𝓤 H 𝓣.C 𝓣.Λ code.function ws Post in
    let toks = ‵ (flft [] full_share) ⊛ ‵ (flft [] full_share) ⊛ ‵ ftrue in
    qed 𝓛 ((‵ ftrue ⊛ ‵ (owns (types_at ended.signature.params tt) z.0.3 z.0.4)) ∷ raw ((c tt z.0.3).requires z.1) ∷ []) ∵ split ! $ drop ! $ fsplit ! $ box_out E ! v z.0.4.0 (λ b o h e ws fits. box_in E ! v b o v.value e refl $ move ! (1 ∷ 2 ∷ []) $ drop ! $ drop ! $
    let w : Val = box_word E h b o in let typed = box_typed E h b o fits in let κs : Lfts 2 = ([], ([], tt)) in
    let y : k.Ghost = ((κs, (full_share, (full_share, tt)), tt, (v, tt), (w ∷ [], tt)), tt) in
    nothing ! $ move ! (1 ∷ 0 ∷ []) $ fjoin ! $ nothing ! $ use0 𝓛 (‵ (flft [] full_share)) (𝓛.lfts.lft-nil full_share) $ join ! $ use0 𝓛 (‵ (flft [] full_share)) (𝓛.lfts.lft-nil full_share) $ join ! $ join ! $
    nothing ! $ use0 𝓛 (raw (fact 𝓤 ([] ⊑ []))) (fact_i 𝓤 ([] ⊑ []) (emp 𝓤) (⊑_static [])) $ join ! $ use0 𝓛 (raw (fact 𝓤 ([] ⊑ []))) (fact_i 𝓤 ([] ⊑ []) (emp 𝓤) (⊑_static [])) $ join ! $ move ! (1 ∷ 0 ∷ []) $ join ! $ use1 𝓛 (raw (k.pre y)) (id⊢ 𝓤 _) $
    suffices ! (Run (w ∷ [])) (subst (λ (us : List Val). ent 𝓤 (Run (w ∷ [])) (Run us)) (sym (λ i. ws i ++ [])) (id⊢ 𝓤 (Run (w ∷ [])))) $
    enter ! 𝓣.C 𝓣.Λ code.function (w ∷ []) Post $ alloc_all ! (λ l. pass_all ! refl (typed, tt) $ sets ! (of_opd ! (get ! refl)) refl typed $
    calls_at ! (framed 𝓤 H 𝓜 𝓣) k known y (and_then ! (get ! refl) (no_more !)) (λ u.
    use1 𝓛 (later (some (λ (r : Ptr). (toks ⊛ ‵ (RawPtr.own_val r (u ∷ []))) ⊛ some (λ (ls : Lasts (callee.ended X Z ghosts dict none goes) κs y.0.3). ‵ (lasts (callee.ended X Z ghosts dict none goes) κs y.0.3 ls) ⊛ ‵ (box_owns (ghosts.dealloc_token v.alloc) (param 0 X) r v.value))))) (id⊢ 𝓤 (k.post y u)) $
    await ! tt $ pick ! (λ r. split ! $ split ! $ drop ! $ feq_l ! (λ is. pick ! (λ _. split ! $ drop ! $
    in_a_block ! r (λ p. box_owns (ghosts.dealloc_token v.alloc) (param 0 X) p v.value) (fst∗ 𝓤 (never 𝓤) (sem 𝓛 (ghosts.dealloc_token v.alloc (bare (layout X)) null_ptr))) (λ b' o' e'.
    let p : Ptr = block_ptr b' o' in
    lands_as ! (ap only (is ∙ ap (λ (q : Ptr). ptr_val q ∷ []) e')) refl (tt, tt) $ sets ! (of_opd ! (get ! refl)) refl (tt, tt) $ sets ! (agg ! (and_then ! (get ! refl) (no_more !))) refl (tt, (tt, tt)) $
    returns ! (look_at ! 0 refl) $ free_all ! refl $ use1 𝓛 (‵ (handle_owns p (Some v.value))) (id⊢ 𝓤 _) $ handle_in ! p (Some v.value) $
    suffices ! _ (ends_at 𝓛 ended hs c z (word p) (record { at = p; value = Some v.value }) (tt, tt) (tt, tt)) $ says ! refl $
    nothing ! $ nothing ! $ fjoin ! $ join ! $ nothing ! $ join ! $ done !))))))))
