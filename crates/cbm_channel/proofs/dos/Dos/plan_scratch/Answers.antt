use Rattle.std.proofs.Common.{sym, ap, ◌∙◌}
use Rattle.cbm_channel.proofs.Scratches.{scratch_refused}
use Rattle.cbm_channel.proofs.Texts.{not_empty}
use Rattle.cbm_channel.proofs.dos.Dos.plan_scratch.Goals as goal

pub returns-then-is_protected-clause-refused : goal.returns-then-is_protected-clause-refused
returns-then-is_protected-clause-refused g c = λ m s. (
  scratch_refused m c.args.patterns.now c.in_ok-slots.slots.items (c.in_ok-slots.ensures.means m s) (not_empty c.in_ok-slots.slots.items (sym c.is_empty.ensures ∙ c.if-not-is_empty.true))
      (s.same_protection ∙ ap (λ v. (g.M.Medium.seen v).protected) (sym c.volume.ensures) ∙ sym c.is_protected.ensures ∙ c.if-is_protected.true),
  c.plain.ensures,
)
