use Rattle.std.proofs.Common.{◌≡◌, ◌+◌, true, sym, ap, subst, ◌∙◌}
use Rattle.cbm_channel.specs.Placed.{Placed, IsPlacedAt, is_last_filled, record_of}
use Rattle.cbm_channel.proofs.OnRecords.{next_record}
use Rattle.cbm_channel.proofs.on_record.OnRecord.taken.Goals as goal

-- after the last byte
pub returns-then-is_last-clause-well : goal.returns-then-is_last-clause-well
returns-then-is_last-clause-well g c = λ d h on.
    let next = c.go-then-is_last.ensures.well d on.file on.blocks on.sides on.records h on.in_slot on.closed on.body in
    let waits = ap (λ (r : Placed). record_of r.waiting) (sym c.self.view_is) ∙ ap record_of c.in-Record.is in
    let bytes = sym c.as_slice.ensures.value in
    let position = ap (λ (r : Placed). r.position) (sym c.self.view_is) in
    let last : is_last_filled c.in-Record.record.items c.args.self.now.position ≡ true = (λ i. is_last_filled (bytes i) (position i)) ∙ sym c.is_last.ensures.value ∙ c.if-is_last.true in (
      next.0,
      (
        next.1,
        next_record d c.args.self.now c.go-then-is_last.new.self c.in-Record.record.items on waits last
            (subst (λ (r : Placed). IsPlacedAt c.args.self.now c.go-then-is_last.new.self (r.number + 1) 1) c.go.view_is c.go-then-is_last.ensures.place),
      ),
    )
