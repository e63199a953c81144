use Rattle.std.proofs.Common.{rules, ◌<◌, refl, sym, ap, subst}
use Rattle.std.specs.Prelude.{IfSome}
use Rattle.cbm_channel.specs.Standing.{Kept}
use Rattle.cbm_machine.specs.Machines.{start}
use Rattle.cbm_drive.specs.Addressing.{Addressed, channel_said}
use Rattle.cbm_drive.specs.Desks.{Desk, DeskStands, at_first, desk_shows, shown_from}
use Rattle.cbm_host.proofs.HostedAnyway.{rests_first_anyway}
use Rattle.cbm_host.proofs.Hosting.{rests_first}
use Rattle.cbm_host.proofs.hosted.Hosted.with_pace.Goals as goal
use Rattle.cbm_host.specs.Hosted.{Hosting}
use Rattle.cbm_host.specs.Served.{at_power_up}

pub returns : goal.returns
returns g c = record {
  rests = λ d h.
      let seen = g.M.Medium.seen in
      let m = start d (seen c.args.medium).protected (seen c.args.medium).tracks in
      let here : Hosting _ = record { bus = c.new-2.result; device = c.args.device; pace = c.args.pace; moment = 1000 } in
      rests_first seen c.args.pace c.args.device m here c.new.result refl refl c.new-2.ensures.host c.new-2.ensures.drives c.new.ensures.port
      (subst (λ x. DeskStands seen x (at_power_up c.args.pace c.args.device m)) (sym c.new.ensures.machine) (c.with_pace-desk.ensures.stands (at_first c.args.device m) (c.at_power_up.ensures.stands d h)));
  -- a drive that isn't addressed has nothing to say
  anyway =
      let first = c.at_power_up.result in
      let silent : IfSome (desk_shows first) (λ s. s.0 < 256) = subst (λ (a : Addressed). IfSome (shown_from (channel_said a.role a.channel) first.dos) (λ s. s.0 < 256)) (sym (ap (λ (d : Desk (Kept _)). d.addressed) c.at_power_up.ensures.value)) tt in
      let paced : IfSome (desk_shows c.with_pace-desk.result) (λ s. s.0 < 256) = subst (λ (x : Desk _). IfSome (desk_shows x) (λ s. s.0 < 256)) (sym c.with_pace-desk.ensures.value) silent in
      rests_first_anyway desk_shows c.args.pace c.args.device c.new-2.result c.new.result c.new-2.ensures.host c.new-2.ensures.drives c.new.ensures.port (subst (λ x. IfSome (desk_shows x) (λ s. s.0 < 256)) (sym c.new.ensures.machine) paced);
  tracks = (search rules);
  moment = refl;
  pace = refl;
}
