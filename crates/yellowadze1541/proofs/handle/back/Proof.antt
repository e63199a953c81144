-- `back` makes the box again, or finds null.
use Rattle.std.proofs.Common.{◌≡◌, T, List, [], ◌∷◌, ◌++◌, refl, sym, ap, ◌∙◌, subst, lit<}
use mir.Val.{Val, vptr, vcons, vnil, has_ty, WT}
use base.Fraction.{full_share}
use base.Logic.{SProp, ent, emp, id⊢}
use base.Fml.{ftrue, flft}
use prog.Wp.{WpFn}
use types.Kit.{‵, raw, ◌⊛◌, some, later, at_ret, ◌$◌, ◌∵◌, !, qed, move, keep, drop, split, split3, join, fsplit3, fjoin, pick, suffices, use0, use1, await, rewrite, feq_i, done}
use types.Run.{stop, fld, lit, of_opd, bin, no_more, and_then, first, blocks, branches, skips, exec, returns, returns_within, enter}
use types.ByLocal.{alloc_all, pass_all, free_all, look_at, get, get_in, sets, lands_last, env}
use types.Part.{agg, sub, whole}
use types.Match.{live}
use contract.BorrowLft.{◌⊑◌, ⊑_static}
use contract.Lifetimes.{Lfts}
use contract.Monad.{fact, fact_i}
use contract.Running.{tables, tables_of}
use denote.Exit.{yes}
use denote.RattleType.{RattleType, owns}
use denote.Signature.{types_at, type_at, plain}
use denote.RawPtr.{Ptr, block_ptr, null_ptr, tests_null}
use denote.Steps.{nothing, only, heard}
use denote.Param.NoDrop.{glues}
use denote.Triple.Call.{calls_at_last}
use denote.Triple.Clauses.{Lasts, lasts}
use denote.Triple.Spec.{triple_of}
use denote.Triple.Table.{framed}
use denote.Triple.Walked.{says, Stays, stay_dropped, Goes-dropped, walk_of, ends_at}
use Rattle.std.specs.Prelude.{Some, None}
use Rattle.std.proofs.alloc.Calls.{handle_tells}
use Rattle.std.proofs.option.Made.{Some-of, none_of}
use Rattle.std.proofs.ResultValues.{and_tt}
use Rattle.std.proofs.raw_atomic.Walks.{proved_at}
use Rattle.std.specs.contracts.alloc.Global as heap
use Rattle.std.specs.contracts.impls.GlobalAllocator.TheImpl.{ghosts, dict}
use Rattle.std.proofs.impls.GlobalAllocator.TheImpl.Met as alloc_met
use Rattle.std_alloc.proofs.BoxSteps.Form.{box_ty, box_typed}
use Rattle.std_alloc.proofs.BoxSteps.Steps.{box_out, box_in}
use Rattle.std_alloc.specs.contracts.boxed.Box.from_raw as callee
use Rattle.std_alloc.proofs.boxed.Box.from_raw.Met.{met}
use Rattle.yellowadze1541.specs.contracts.handle.Handle as handle
use Rattle.yellowadze1541.proofs.Destruct++none.drop.Code as none_code
use Rattle.yellowadze1541.proofs.Types.{X, Z, LX, LZ, none, E, Boxed}
use Rattle.yellowadze1541.proofs.Values.{word, handle_out, handle_either}
use Rattle.yellowadze1541.specs.contracts.handle.back.{ended, clauses}
use Rattle.yellowadze1541.specs.contracts.handle.back.Key.{name as #self}
use Rattle.yellowadze1541.proofs.handle.back.Statement.{statement}
use Rattle.yellowadze1541.proofs.handle.back.Code as code

abbrev hs : Stays ended.signature.params ended.kept
hs = (stay_dropped (plain (λ _. heap.the_row)) yes, (stay_dropped (plain (λ _. handle.the_row)) yes, tt))

pub back_spec : {M : Type 1} → statement M
unfolding tables_of none_code.code
back_spec {M} 𝓤 𝓛 𝓜 𝓡 wired =
    let H = 𝓛.H in let 𝓣 = tables 𝓤 H 𝓜 𝓡 𝓡.env in let c = clauses 𝓛 𝓜.mem 𝓡.returns in
    let allocator = alloc_met.passed 𝓡.env (code.calls-std_heap::GlobalAllocator::allocate 𝓡.env wired) (code.calls-std_heap::GlobalAllocator::deallocate 𝓡.env wired) (code.calls-std_heap::GlobalAllocator::grow 𝓡.env wired) (code.calls-std_heap::GlobalAllocator::shrink 𝓡.env wired) M 𝓤 𝓛 𝓜 𝓡 in
    let kept = glues "yellowadze1541::Destruct++none::drop" 𝓡.env (code.calls-yellowadze1541::Destruct++none::drop 𝓡.env wired) Z LZ M 𝓤 𝓛 𝓜 𝓡 in
    let known = met 𝓤 𝓛 𝓜 𝓡 (code.calls-std_alloc::boxed::Box::from_raw 𝓡.env wired) X Z LX LZ ghosts dict none allocator kept in
    let k = triple_of 𝓛 (callee.signature X Z ghosts dict none) (callee.spec X Z ghosts dict none 𝓛 𝓜.mem 𝓡.returns) in
    proved_at 𝓛 ended hs c 𝓜 𝓡 (Goes-dropped 𝓛 0 (plain (λ _. heap.the_row)) yes (λ κs x f. refl), (Goes-dropped 𝓛 0 (plain (λ _. handle.the_row)) yes (λ κs x f. refl), tt)) #self code.function (code.unfolded 𝓤 H 𝓜 𝓡 wired) (λ z are.
    let a = z.0.3.0 in let v = z.0.3.1.0 in let Post : Val → SProp 𝓤 = (walk_of 𝓛 ended hs c).post z in let Run : List Val → SProp 𝓤 = λ ws. WpFn 𝓤 H 𝓣.C 𝓣.Λ code.function ws Post in
    let toks = ‵ (flft [] full_share) ⊛ ‵ (flft [] full_share) ⊛ ‵ ftrue in let Out : RattleType = type_at ended.signature.result tt in let κs : Lfts 2 = ([], ([], tt)) in
    qed 𝓛 ((‵ ftrue ⊛ ‵ (owns (types_at ended.signature.params tt) z.0.3 z.0.4)) ∷ raw ((c tt z.0.3).requires z.1) ∷ []) ∵ split ! $ drop ! $ fsplit3 ! $ keep ! (0 ∷ 1 ∷ []) $
    handle_tells E.al ! a z.0.4.0 (λ h eh fa. move ! (1 ∷ []) $ handle_out ! v z.0.4.1.0 (λ ev. handle_either ! a v.at v.value
    (λ at is. let us : List Val = h ∷ word null_ptr ∷ [] in let ew : z.0.4.1.0 ≡ word null_ptr ∷ [] = ev ∙ ap (λ (p : Ptr). word p ∷ []) at in
    suffices ! (Run us) (subst (λ (ws : List Val). ent 𝓤 (Run us) (Run ws)) (sym (λ i. eh i ++ (ew i ++ []))) (id⊢ 𝓤 (Run us))) $ drop ! $
    enter ! 𝓣.C 𝓣.Λ code.function us Post $ alloc_all ! (λ l. pass_all ! refl (fa, ((tt, (record { fits = lit< tt }, tt)), tt)) $
    sets ! (of_opd ! (get_in ! (fld ! refl (stop !)) (sub ! 0 refl (whole !)))) refl (tt, record { fits = lit< tt }) $ sets ! (of_opd ! (get ! refl)) refl (tt, record { fits = lit< tt }) $
    sets ! (bin ! (get ! refl) (lit ! tt) tt) refl (tt, tt) $ first ! $ branches ! (get ! refl)
    (λ _. sets ! (agg ! (and_then ! (lit ! tt) (no_more !))) refl (tt, (record { fits = lit< tt }, tt)) $ returns_within ! Post refl (look_at ! 0 refl) $ free_all ! refl $
    use0 𝓛 (‵ (Out.own_val None (live 0 vnil ∷ []))) (none_of 𝓛 Boxed) $ suffices ! _ (ends_at 𝓛 ended hs c z (live 0 vnil) None (tt, (tt, tt)) (tt, (tt, tt))) $ says ! is $
    nothing ! $ nothing ! $ fjoin ! $ nothing ! $ fjoin ! $ join ! $ nothing ! $ join ! $ done !)
    (λ wrong. absurd wrong)))
    (λ b o x at is test. let us : List Val = h ∷ word (block_ptr b o) ∷ [] in let ew : z.0.4.1.0 ≡ word (block_ptr b o) ∷ [] = ev ∙ ap (λ (p : Ptr). word p ∷ []) at in
    let y : k.Ghost = ((κs, (full_share, (full_share, tt)), tt, (a, (block_ptr b o, tt)), (h ∷ [], (vptr b o ∷ [], tt))), x) in
    suffices ! (Run us) (subst (λ (ws : List Val). ent 𝓤 (Run us) (Run ws)) (sym (λ i. eh i ++ (ew i ++ []))) (id⊢ 𝓤 (Run us))) $
    use0 𝓛 (raw (fact 𝓤 ([] ⊑ []))) (fact_i 𝓤 ([] ⊑ []) (emp 𝓤) (⊑_static [])) $ join ! $ use0 𝓛 (raw (fact 𝓤 ([] ⊑ []))) (fact_i 𝓤 ([] ⊑ []) (emp 𝓤) (⊑_static [])) $ join ! $
    nothing ! $ feq_i ! (List Val) (vptr b o ∷ []) (vptr b o ∷ []) refl $ fjoin ! $ move ! (2 ∷ 0 ∷ []) $ fjoin ! $
    nothing ! $ use0 𝓛 (‵ (flft [] full_share)) (𝓛.lfts.lft-nil full_share) $ join ! $ use0 𝓛 (‵ (flft [] full_share)) (𝓛.lfts.lft-nil full_share) $ join ! $ join ! $ join ! $ use1 𝓛 (raw (k.pre y)) (id⊢ 𝓤 _) $
    enter ! 𝓣.C 𝓣.Λ code.function us Post $ alloc_all ! (λ l. pass_all ! refl (fa, ((tt, (tt, tt)), tt)) $ let Ev = env code.Mir.locals l in
    sets ! (of_opd ! (get_in ! (fld ! refl (stop !)) (sub ! 0 refl (whole !)))) refl (tt, tt) $ sets ! (of_opd ! (get ! refl)) refl (tt, tt) $
    sets ! (bin ! (get ! refl) (lit ! tt) (tests_null (block_ptr b o) (subst denote.RawPtr.Testable at test))) refl (tt, tt) $ first ! $ branches ! (get ! refl) (λ wrong. absurd wrong)
    (λ _. skips ! $ exec ! 𝓣.C 𝓣.Λ Ev code.Mir.t-5 (at_ret Ev Post) $ first ! $ blocks ! $ sets ! (of_opd ! (get ! refl)) refl fa $ sets ! (of_opd ! (get ! refl)) refl (tt, tt) $ sets ! (of_opd ! (get ! refl)) refl (tt, tt) $
    calls_at_last ! (framed 𝓤 H 𝓜 𝓣) k known y (and_then ! (get ! refl) (and_then ! (get ! refl) (no_more !))) (λ u.
    use1 𝓛 (later (some (λ (r : Boxed.Denot). (toks ⊛ ‵ (Boxed.own_val r (u ∷ []))) ⊛ some (λ (ls : Lasts (callee.ended X Z ghosts dict none) κs y.0.3). ‵ (lasts (callee.ended X Z ghosts dict none) κs y.0.3 ls) ⊛ (raw (fact 𝓤 (r.value ≡ x)) ⊛ raw (fact 𝓤 (r.alloc ≡ a))))))) (id⊢ 𝓤 (k.post y u)) $
    await ! tt $ pick ! (λ r. split ! $ move ! (1 ∷ []) $ pick ! (λ _. split3 ! $ drop ! $ heard ! (r.value ≡ x) (λ same. drop ! $ split ! $ drop ! $
    box_out E ! r (u ∷ []) (λ b' o' h' e' ws fits. box_in E ! r b' o' r.value e' refl $ rewrite ! 0 (λ (xs : List Val). ‵ (Boxed.own_val r xs)) (sym ws) refl $
    let good : T (has_ty (box_ty E) u) × WT u = subst (λ (s : Val). T (has_ty (box_ty E) s) × WT s) (sym (ap only ws)) (box_typed E h' b' o' fits) in
    lands_last ! refl good $ exec ! 𝓣.C 𝓣.Λ Ev code.Mir.t-6 (at_ret Ev Post) $ sets ! (of_opd ! (get ! refl)) refl good $
    sets ! (agg ! (and_then ! (lit ! tt) (and_then ! (get ! refl) (no_more !)))) refl (and_tt _ good.0, (record { fits = lit< tt }, (good.1, tt))) $
    returns ! (look_at ! 0 refl) $ free_all ! refl $ use1 𝓛 (‵ (Out.own_val (Some r) (live 1 (vcons u vnil) ∷ []))) (Some-of 𝓛 Boxed r u) $
    suffices ! _ (ends_at 𝓛 ended hs c z (live 1 (vcons u vnil)) (Some r) (tt, (tt, tt)) (tt, (tt, tt))) $ says ! (is ∙ ap Some (sym same)) $
    nothing ! $ nothing ! $ fjoin ! $ nothing ! $ fjoin ! $ join ! $ nothing ! $ join ! $ done !)))))))))))
