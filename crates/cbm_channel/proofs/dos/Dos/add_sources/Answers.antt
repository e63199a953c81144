use Rattle.std.proofs.Common.{ℕ, ◌+◌, List, [], ◌∷◌, length, drop, sym, ap, subst, arith}
use Rattle.std.proofs.lemmas.List.{length-append}
use Rattle.cbm_channel.proofs.Copies.{IsAdding, adding_first, next_name, adding_next, adding_refused, adding_done}
use Rattle.cbm_channel.proofs.dos.Dos.add_sources.Goals as goal

pub names-init : goal.names-init
names-init g c = (omega arith, (λ m s. adding_first m.disk c.args.names.now c.args.slots.now.items))

pub returns-in_err-source-clause-added : goal.returns-in_err-source-clause-added
returns-in_err-source-clause-added g c = λ m s.
    let h = next_name m.disk c.args.names.now c.names.name-index c.name-item.result _ _ c.names-test.true c.name-item.is (c.names.invariant.1 m s) in
    adding_refused m.disk c.args.names.now _ _ _ _ h c.in_err-source.field-0.0 c.from_residual.result _ _ (c.in_err-source.ensures.source m s) c.from_residual.ensures.1

pub push-requires : goal.push-requires
push-requires g c = omega (arith, c.requires, c.names.invariant.0, c.names-test.true)

pub names-preserved : goal.names-preserved
names-preserved g c = (
  omega (arith, ap length c.push.ensures.items, length-append c.names.slots.items (c.in_ok-source.source.slot ∷ []), c.names.invariant.0),
  (λ m s.
      let h = next_name m.disk c.args.names.now c.names.name-index c.name-item.result _ _ c.names-test.true c.name-item.is (c.names.invariant.1 m s) in
      subst (λ (xs : List ℕ). IsAdding m.disk c.args.names.now (drop (c.names.name-index + 1) c.args.names.now) c.args.slots.now.items xs) (sym c.push.ensures.items)
      (adding_next m.disk c.args.names.now _ _ _ _ h c.in_ok-source.source (c.in_ok-source.ensures.source m s))),
)

pub returns-clause-added : goal.returns-clause-added
returns-clause-added g c = λ m s. adding_done m.disk c.args.names.now c.names.name-index _ _ tt c.names-test.false (c.names.invariant.1 m s)
