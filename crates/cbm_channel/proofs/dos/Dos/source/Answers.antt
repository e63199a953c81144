use Rattle.std.proofs.Common.{◌||◌, sym, ap, ◌∙◌}
use Rattle.cbm_file.specs.declared.file_type.FileType.TheVariants.{Del, Rel}
use Rattle.cbm_file.specs.Types.{is_same_type}
use Rattle.cbm_channel.proofs.Copies.{met_is, one_kind, source_wrong, source_open, source_done}
use Rattle.cbm_channel.proofs.dos.Dos.source.Goals as goal

-- the entry of a file has a type
pub returns-in_default-clause-source : goal.returns-in_default-clause-source
returns-in_default-clause-source g c = λ m s.
    let x = met_is _ _ m.disk _ c.in_ok-found.found (c.in_ok-found.ensures.found m s) in
    absurd (c.in_default.not-Some x.f.kind (c.kind.ensures ∙ x.says.kind))

pub returns-then-is_wrong-clause-source : goal.returns-then-is_wrong-clause-source
returns-then-is_wrong-clause-source g c = λ m s.
    let x = met_is _ _ m.disk _ c.in_ok-found.found (c.in_ok-found.ensures.found m s) in
    let kinds = one_kind c.kind.result c.in-Some.kind x.f.kind c.in-Some.is (c.kind.ensures ∙ x.says.kind) in
    source_wrong m.disk c.args.name.now c.in_ok-found.found.slot x.f x.is c.plain-then-is_wrong.result
    (ap (λ k. is_same_type Rel k || is_same_type Del k) (sym kinds) ∙ sym c.is_wrong.ensures ∙ c.if-is_wrong.true) c.plain-then-is_wrong.ensures

pub returns-then-not-is_closed-clause-source : goal.returns-then-not-is_closed-clause-source
returns-then-not-is_closed-clause-source g c = λ m s.
    let x = met_is _ _ m.disk _ c.in_ok-found.found (c.in_ok-found.ensures.found m s) in
    let kinds = one_kind c.kind.result c.in-Some.kind x.f.kind c.in-Some.is (c.kind.ensures ∙ x.says.kind) in
    source_open m.disk c.args.name.now c.in_ok-found.found.slot x.f x.is
    (ap (λ k. is_same_type Rel k || is_same_type Del k) (sym kinds) ∙ sym c.is_wrong.ensures ∙ c.if-is_wrong.false)
    c.plain-then-not-is_closed.result (sym x.says.closed ∙ sym c.is_closed.ensures ∙ c.if-not-is_closed.true) c.plain-then-not-is_closed.ensures

pub returns-clause-source : goal.returns-clause-source
returns-clause-source g c = λ m s.
    let x = met_is _ _ m.disk _ c.in_ok-found.found (c.in_ok-found.ensures.found m s) in
    let kinds = one_kind c.kind.result c.in-Some.kind x.f.kind c.in-Some.is (c.kind.ensures ∙ x.says.kind) in
    source_done m.disk c.args.name.now c.in_ok-found.found.slot x.f x.is
    (ap (λ k. is_same_type Rel k || is_same_type Del k) (sym kinds) ∙ sym c.is_wrong.ensures ∙ c.if-is_wrong.false)
    (record { slot = c.in_ok-found.found.slot; kind = c.in-Some.kind }) (sym x.says.closed ∙ sym c.is_closed.ensures ∙ c.if-not-is_closed.false) x.in_slot (λ i. c.in_ok-found.found.slot) kinds
