use Rattle.std.proofs.Common.{◌<◌, refl, ap, ◌∙◌, subst, arith, Some, None, ◌≤◌}
use Rattle.cbm_drive.specs.Cables.{Cabled}
use Rattle.cbm_drive.specs.Seats.{numbers, failed}
use Rattle.cbm_drive.specs.Desks.{desk_shows}
use Rattle.cbm_host.proofs.Hosting.{taken_on, taken_over, OnByte, OnEnd}
use Rattle.cbm_host.proofs.Progress.{as_many}
use Rattle.cbm_host.proofs.hosted.Hosted.take.Goals as goal
use Rattle.cbm_host.specs.Hosted.{Hosting, HasNotFailed}
use Rattle.cbm_host.specs.Progress.{left_of}
use Rattle.cbm_host.proofs.HostedAnyway.{goes_on_anyway, over_anyway, OnTakeAnyway}

pub returns-in-Some-clause-taken : goal.returns-in-Some-clause-taken
returns-in-Some-clause-taken g c =
    let seen = g.M.Medium.seen in
    let old : Hosting _ = record { bus = c.self.inside.bus; device = c.self.inside.device; pace = c.self.inside.pace; moment = c.self.inside.moment } in
    let new : Hosting _ = record { bus = c.next_byte.new.bus; device = c.self.inside.device; pace = c.self.inside.pace; moment = c.self.inside.moment } in
    subst (λ (h : Hosting _). HasNotFailed seen h new → OnByte seen h new c.args.performer.now c.next_byte.new.self c.in-Some.said) c.self.view_is
    (λ u. taken_on seen old new c.args.performer.now c.next_byte.new.self c.in-Some.said refl refl c.self.invariant.0 c.self.invariant.1 (c.in-Some.ensures.taken u) c.begins.ensures)

pub returns-in-None-clause-taken : goal.returns-in-None-clause-taken
returns-in-None-clause-taken g c =
    let seen = g.M.Medium.seen in
    let old : Hosting _ = record { bus = c.self.inside.bus; device = c.self.inside.device; pace = c.self.inside.pace; moment = c.self.inside.moment } in
    let new : Hosting _ = record { bus = c.next_byte.new.bus; device = c.self.inside.device; pace = c.self.inside.pace; moment = c.over-self-inside.result } in
    subst (λ (h : Hosting _). HasNotFailed seen h new → OnEnd seen h new c.args.performer.now) c.self.view_is
    (λ u. taken_over seen old new c.args.performer.now c.next_byte.new.self refl refl c.self.invariant.0 c.self.invariant.1 (c.in-None.ensures.taken u) c.carries_out.ensures)

pub returns-in-Some-clause-fewer : goal.returns-in-Some-clause-fewer
returns-in-Some-clause-fewer g c =
    subst (λ (b : Cabled _). left_of c.next_byte.new.self c.next_byte.new.bus < left_of c.args.performer.now b) (ap (λ (h : Hosting _). h.bus) c.self.view_is) c.in-Some.ensures.fewer

pub returns-in-Some-clause-tracks : goal.returns-in-Some-clause-tracks
returns-in-Some-clause-tracks g c = c.next_byte.ensures.carried.lasting ∙ ap (λ (h : Hosting _). numbers (λ x. (g.M.Medium.seen x.dos.medium).tracks) h.bus.drives) c.self.view_is

pub returns-in-None-clause-tracks : goal.returns-in-None-clause-tracks
returns-in-None-clause-tracks g c = c.next_byte.ensures.carried.lasting ∙ ap (λ (h : Hosting _). numbers (λ x. (g.M.Medium.seen x.dos.medium).tracks) h.bus.drives) c.self.view_is

pub returns-in-Some-clause-counted : goal.returns-in-Some-clause-counted
returns-in-Some-clause-counted g c =
    subst (λ (b : Cabled _). failed (λ x. (g.M.Medium.seen x.dos.medium).failures) b.drives ≤ failed (λ x. (g.M.Medium.seen x.dos.medium).failures) c.next_byte.new.bus.drives) (ap (λ (h : Hosting _). h.bus) c.self.view_is) c.next_byte.ensures.carried.counted

pub returns-in-None-clause-counted : goal.returns-in-None-clause-counted
returns-in-None-clause-counted g c =
    subst (λ (b : Cabled _). failed (λ x. (g.M.Medium.seen x.dos.medium).failures) b.drives ≤ failed (λ x. (g.M.Medium.seen x.dos.medium).failures) c.next_byte.new.bus.drives) (ap (λ (h : Hosting _). h.bus) c.self.view_is) c.next_byte.ensures.carried.counted

pub returns-in-None-clause-moment : goal.returns-in-None-clause-moment
returns-in-None-clause-moment g c = let soon = c.over-self-inside.ensures.limit in let same = c.next_byte.ensures.limit in omega (arith, soon, same)

pub returns-in-Some-clause-moment : goal.returns-in-Some-clause-moment
returns-in-Some-clause-moment g c = ap (λ (h : Hosting _). h.moment) c.self.view_is

pub invariant_of-self-in-None : goal.invariant_of-self-in-None
invariant_of-self-in-None g c = (c.self.invariant.0, c.self.invariant.1, as_many (λ x. (g.M.Medium.seen x.dos.medium).tracks) c.self.inside.bus.drives c.next_byte.new.bus.drives c.next_byte.ensures.carried.lasting ∙ c.self.invariant.2)

pub invariant_of-self : goal.invariant_of-self
invariant_of-self g c = (c.self.invariant.0, c.self.invariant.1, as_many (λ x. (g.M.Medium.seen x.dos.medium).tracks) c.self.inside.bus.drives c.next_byte.new.bus.drives c.next_byte.ensures.carried.lasting ∙ c.self.invariant.2)

-- ---- on any disk

pub returns-in-Some-clause-anyway : goal.returns-in-Some-clause-anyway
returns-in-Some-clause-anyway g c =
    let shows = desk_shows in
    subst (λ (h : Hosting _). OnTakeAnyway shows c.self.inside.pace c.self.inside.device h.pace h.device h.bus c.next_byte.new.bus c.self.inside.moment c.args.performer.now c.next_byte.new.self (Some c.in-Some.said)) c.self.view_is
    (λ request start channel u. goes_on_anyway shows c.self.inside.pace c.self.inside.device start c.self.inside.bus c.next_byte.new.bus c.args.performer.now c.next_byte.new.self c.in-Some.said (c.in-Some.ensures.recorded) request u)

pub returns-in-None-clause-anyway : goal.returns-in-None-clause-anyway
returns-in-None-clause-anyway g c =
    let shows = desk_shows in
    subst (λ (h : Hosting _). OnTakeAnyway shows c.self.inside.pace c.self.inside.device h.pace h.device h.bus c.next_byte.new.bus c.over-self-inside.result c.args.performer.now c.next_byte.new.self None) c.self.view_is
    (λ request start channel u. over_anyway shows c.self.inside.pace c.self.inside.device start c.over-self-inside.result c.self.inside.bus c.next_byte.new.bus c.args.performer.now c.next_byte.new.self c.self.invariant.0 c.self.invariant.1 c.over-self-inside.ensures.end (c.in-None.ensures.recorded) request channel u)

pub returns-in-Some-clause-device : goal.returns-in-Some-clause-device
returns-in-Some-clause-device g c = ap (λ (h : Hosting _). h.device) c.self.view_is

pub returns-in-None-clause-device : goal.returns-in-None-clause-device
returns-in-None-clause-device g c = ap (λ (h : Hosting _). h.device) c.self.view_is

pub returns-in-Some-clause-pace : goal.returns-in-Some-clause-pace
returns-in-Some-clause-pace g c = ap (λ (h : Hosting _). h.pace) c.self.view_is

pub returns-in-None-clause-pace : goal.returns-in-None-clause-pace
returns-in-None-clause-pace g c = ap (λ (h : Hosting _). h.pace) c.self.view_is
