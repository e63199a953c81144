use Rattle.std.proofs.Common.{◌≡◌, List, ◌++◌, length, sym, ap, subst, ◌∙◌}
use Rattle.cbm_iec.specs.declared.lines.Lines.{Lines}
use Rattle.cbm_drive.specs.Cables.{Cabled}
use Rattle.cbm_drive.specs.Seats.{Seated, IsBusAt, Unfailed}
use Rattle.cbm_drive.proofs.Alone.{IsBack}
use Rattle.cbm_drive.proofs.bus.Bus.line.Goals as goal

pub returns-clause-tells : goal.returns-clause-tells
returns-clause-tells g c = record {
  told = λ u.
      λ ss h.
      let host : c.args.self.now.host ≡ c.self.inside.host = sym (ap (λ (b : Cabled _). b.host) c.self.view_is) in
      let drives : c.args.self.now.drives ≡ c.as_mut_slice.result.now = sym (c.as_mut_slice.ensures.value ∙ ap (λ (b : Cabled _). b.drives) c.self.view_is) in
      c.tell_all-self-inside.ensures.tells.told (subst (λ (xs : List (Seated _)). Unfailed g.D.Machine.failures xs c.tell_all-self-inside.new.drives) drives u) ss
      (subst (λ (l : Lines). IsBusAt _ g.D.Machine.State g.D.Machine.stands l c.as_mut_slice.result.now ss) host (subst (λ (xs : List (Seated _)). IsBusAt _ g.D.Machine.State g.D.Machine.stands c.args.self.now.host xs ss) drives h));
  recorded = λ one.
      let host : c.args.self.now.host ≡ c.self.inside.host = sym (ap (λ (b : Cabled _). b.host) c.self.view_is) in
      let drives : c.args.self.now.drives ≡ c.as_mut_slice.result.now = sym (c.as_mut_slice.ensures.value ∙ ap (λ (b : Cabled _). b.drives) c.self.view_is) in
      let told = c.tell_all-self-inside.ensures.tells.recorded (ap (λ (xs : List (Seated _)). length xs) c.as_mut_slice.ensures.value ∙ c.self.told ∙ one) in (
        told.0,
        (λ later ss h. told.1 later ss
            (subst (λ (l : Lines). IsBack g.D.Machine.shows (told.0 ++ later) l c.as_mut_slice.result.now ss) host (subst (λ (xs : List (Seated _)). IsBack g.D.Machine.shows (told.0 ++ later) c.args.self.now.host xs ss) drives h))),
      );
}
