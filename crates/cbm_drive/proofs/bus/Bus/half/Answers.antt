use Rattle.std.proofs.Common.{◌∷◌, refl, sym, ap, ◌∙◌}
use Rattle.cbm_drive.specs.Cables.{Cabled}
use Rattle.cbm_drive.proofs.Ahead.{none_of}
use Rattle.cbm_drive.proofs.Halves.{only_half}
use Rattle.cbm_drive.proofs.bus.Bus.half.Goals as goal

-- the array holds the one drive
pub returns-clause-said : goal.returns-clause-said
returns-clause-said g c =
    only_half c.args.limit c.half.result c.args.self.now (record { host = c.self.inside.host; drives = c.half.new.self ∷ c.in_ok-self-inside.others.now }) c.in_ok-self-inside.drive.now c.half.new.self c.in_ok-self-inside.others.now
    (none_of c.in_ok-self-inside.others.now _ c.if-not-is_empty.ensures refl) (sym (ap (λ (b : Cabled _). b.drives) c.self.view_is) ∙ sym c.as_mut_slice.ensures.value ∙ c.in_ok-self-inside.ensures.cases.0) refl (ap (λ (b : Cabled _). b.host) c.self.view_is) c.half.ensures.said
