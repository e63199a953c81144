use Rattle.std.proofs.Common.{◌≡◌, ℕ, ◌-◌, length, sym, ap, ◌∙◌}
use Rattle.cbm_chain.specs.Writing.{State}
use Rattle.cbm_chain.proofs.Filling.{range_length, used_up}
use Rattle.cbm_chain.proofs.writer.ChainWriter.has_room.Goals as goal

-- a block without room has 254 bytes
pub returns-then-is_some-clause-none : goal.returns-then-is_some-clause-none
returns-then-is_some-clause-none c = λ f some.
    let used : c.self.inside.used ≡ 256 = used_up c.self.inside.used f c.self.invariant.1 in
    ap (λ (s : State). length s.waiting) (sym c.self.view_is) ∙ range_length c.self.inside.sector c.self.inside.used c.self.invariant.2 c.self.invariant.1 ∙ ap (λ (n : ℕ). n - 2) used
