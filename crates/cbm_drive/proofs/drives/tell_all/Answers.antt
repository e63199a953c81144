use Rattle.std.proofs.Common.{◌≡◌, map, sym, ap, subst, ◌∙◌}
use Rattle.std.specs.List.{AllZip}
use Rattle.cbm_iec.specs.Changes.{lines_after}
use Rattle.cbm_iec.specs.declared.lines.Lines.{Lines}
use Rattle.cbm_session.specs.Playing.{tell}
use Rattle.cbm_drive.specs.declared.wires.Wires.{Wires}
use Rattle.cbm_drive.specs.Recorded.{IsToldBy}
use Rattle.cbm_drive.specs.Seats.{IsBusAt, wires_held_by}
use Rattle.cbm_drive.proofs.Alone.{tells_alone}
use Rattle.cbm_drive.proofs.Cables.{host_told}
use Rattle.cbm_drive.proofs.Heard.{Told}
use Rattle.cbm_drive.proofs.drives.tell_all.Goals as goal

pub returns-clause-tells : goal.returns-clause-tells
returns-clause-tells g c = record {
  told = λ u.
      let change = c.args.change in
      let host : c.after-now.result ≡ lines_after c.args.host change.line change.way = c.after-now.ensures in
      let told = subst (λ (w : Wires). Told _ g.D.Machine.State g.D.Machine.stands g.D.Machine.step g.D.Machine.says change.moment w c.args.drives.now c.tell_each.new.drives) (c.of-wires.ensures.value ∙ ap (λ (l : Lines). wires_held_by l c.args.drives.now) host) (c.tell_each.ensures.told u) in
      λ ss h. subst (λ (l : Lines). IsBusAt _ g.D.Machine.State g.D.Machine.stands l c.tell_each.new.drives (map (λ s. tell g.D.Machine.State g.D.Machine.step g.D.Machine.says change s) ss)) (sym host)
      (host_told _ g.D.Machine.State g.D.Machine.stands g.D.Machine.step g.D.Machine.says change c.args.host c.args.drives.now c.tell_each.new.drives ss told c.tell_each.ensures.own h);
  recorded = λ one.
      tells_alone g.D.Machine.shows c.args.change c.args.host c.after-now.result c.args.drives.now c.tell_each.new.drives c.after-now.ensures one
      (subst (λ (w : Wires). AllZip (λ x y. IsToldBy g.D.Machine.shows c.args.change.moment w x y) c.args.drives.now c.tell_each.new.drives) c.of-wires.ensures.value c.tell_each.ensures.each);
}
