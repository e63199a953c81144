use Rattle.std.proofs.Common.{◌≡◌, None, refl, sym, inl, inr, rules}
use Rattle.cbm_direct.specs.Asking.{buffer_wanted}
use Rattle.cbm_direct.specs.Buffered.{taken_count}
use Rattle.cbm_direct.proofs.Handed.{handed_beside}
use Rattle.cbm_direct.proofs.direct.DirectDos.open.Goals as goal

-- a buffer is asked for
pub returns-in-Some-clause-opened : goal.returns-in-Some-clause-opened
returns-in-Some-clause-opened g c = λ less. inl (c.in-Some.wanted, c.close.new.self, sym c.in-Some.ensures, c.close.ensures.one less, c.open_buffer.ensures.opened)

-- no channel has a buffer
pub returns-then-count-eq0-clause-opened : goal.returns-then-count-eq0-clause-opened
returns-then-count-eq0-clause-opened g c = λ less.
    let none : buffer_wanted c.args.text.now ≡ None = search rules in
    let zero : taken_count c.args.self.now.buffers ≡ 0 = search rules in
    inr (inl (none, zero, handed_beside _ _ _ _ c.self.view_is (record { call = c.open.ensures.goes; buffers = refl; reply = refl })))

-- others have buffers
pub returns-else-count-eq0-clause-opened : goal.returns-else-count-eq0-clause-opened
returns-else-count-eq0-clause-opened g c = λ less.
    let none : buffer_wanted c.args.text.now ≡ None = search rules in
    inr (inr (c.close-else-count-eq0.new.self, none, c.close-else-count-eq0.ensures.one less, c.open_beside.ensures.opened))
