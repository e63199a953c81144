use Rattle.std.proofs.Common.{◌+◌, ap, ◌∙◌, subst}
use Rattle.cbm_drive.specs.Desks.{desk_shows}
use Rattle.cbm_host.proofs.Hosting.{asked, OnAsk}
use Rattle.cbm_host.proofs.hosted.Hosted.ask.Goals as goal
use Rattle.cbm_host.specs.Hosted.{Hosting}
use Rattle.cbm_host.specs.Requests.{longest}
use Rattle.cbm_host.proofs.HostedAnyway.{begun_anyway}
use Rattle.cbm_host.specs.AnyDisk.{RestsAnyway, IsUnderWayAnyway}

pub returns : goal.returns
returns g c = record {
  under_way =
      let h : Hosting _ = record { bus = c.self.inside.bus; device = c.self.inside.device; pace = c.self.inside.pace; moment = c.self.inside.moment } in
      subst (λ (h : Hosting _). OnAsk g.M.Medium.seen h c.with_pace.result c.args.request) c.self.view_is
      (λ m r. asked g.M.Medium.seen h c.with_pace.result m c.args.request r c.with_pace.ensures.player c.with_pace.ensures.engine c.with_pace.ensures.limit);
  anyway =
      let shows = desk_shows in
      subst (λ (h : Hosting _). RestsAnyway shows h → IsUnderWayAnyway shows h.pace h.device h.moment h.bus c.with_pace.result c.args.request) c.self.view_is
      (λ r. begun_anyway shows c.self.inside.pace c.self.inside.device c.self.inside.moment c.self.inside.bus c.with_pace.result c.args.request r c.with_pace.ensures.player c.with_pace.ensures.engine c.with_pace.ensures.limit);
  limit = c.with_pace.ensures.limit ∙ ap (λ (h : Hosting _). h.moment + longest h.pace) c.self.view_is;
}
