use Rattle.std.proofs.Common.{◌≡◌, [], Some, ap, subst, sym, ◌∙◌}
use Rattle.cbm_drive.specs.Loaded.{seat_at}
use Rattle.cbm_drive.proofs.Ahead.{none_of}
use Rattle.cbm_device.specs.ImageDisks.{Counted, counted_seen}
use Rattle.cbm_device.specs.Snapshots.{parts_of, IsDiskWith}
use Rattle.cbm_device.proofs.Loading.{loaded_medium}
use Rattle.cbm_device.proofs.device.Device.of_state.Goals as goal

pub returns-clause-ok : goal.returns-clause-ok
returns-clause-ok c =
    let disk = c.in_ok-disk.disk in
    let drive = c.in-Some-load.drive in
    let after = c.in-Some-parts_at.rest.now in
    let parts = parts_of c.in-Some-parts_at.parts in
    let medium = loaded_medium disk (counted_seen disk).tracks after c.in-Some-load.left.now drive c.in-Some-load.ensures in
    record {
      number = c.in-Some.kind.now;
      body = c.in-Some.rest.now;
      rest = c.in-Some-eight_at.rest.now;
      after = after;
      parts = parts;
      begins = c.in-Some.ensures.cases.0;
      format = c.kind_by.ensures;
      moment = sym c.in-Some-eight_at.ensures;
      has_parts = sym c.in-Some-parts_at.ensures;
      disk = subst (λ (k : Counted). IsDiskWith parts k) (sym medium) c.in_ok-disk.ensures.ok;
      seat = subst (λ (k : Counted). seat_at k (counted_seen k).tracks after ≡ Some (drive, [])) (sym medium) (sym c.in-Some-load.ensures ∙ ap (λ l. Some (drive, l)) (none_of c.in-Some-load.left.now c.is_empty.result c.is_empty.ensures c.if-not-is_empty.false));
    }
