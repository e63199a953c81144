use Rattle.cbm_bus.specs.Headline.{HaveNotFailed, failures_on}
use Rattle.std.proofs.Common.{◌+◌, ◌∙◌, sym, subst, ◌≤◌}
use Rattle.cbm_bus.proofs.Headline.{loose, headline, disks_either}
use Rattle.cbm_bus.proofs.disk_bus.DiskBus.play.Goals as goal
use Rattle.cbm_bus.specs.Powered.{IsAtRest}
use Rattle.cbm_drive.specs.Desks.{Desk, desk_step, desk_says}
use Rattle.cbm_drive.specs.Ordered.{fault_of}
use Rattle.cbm_drive.specs.NextSaid.{more_said}
use Rattle.cbm_machine.specs.Machines.{Machine}
use Rattle.cbm_session.specs.Playing.{at_rest}

pub returns-clause-loosely : goal.returns-clause-loosely
returns-clause-loosely g c = λ u bs ms is_bus rest fault.
    let seen = g.M.Medium.seen in
    loose seen c.play.result more_said bs ms c.args.end c.args.changes.now c.play.new.self c.args.events.now.items c.play.new.events.items is_bus c.play.ensures.settled
    (c.play.ensures.played (subst (λ b. HaveNotFailed seen b c.play.new.self) (sym c.self.view_is) u) (at_rest (Desk Machine) desk_step desk_says ms bs) fault (subst (λ b. IsAtRest seen bs ms b) (sym c.self.view_is) rest))

pub returns-clause-headline : goal.returns-clause-headline
returns-clause-headline g c = λ u bs ms is_bus rest fault.
    headline g.M.Medium.seen c.play.result bs ms c.args.end c.args.changes.now c.play.new.self c.args.events.now.items c.play.new.events.items (returns-clause-loosely g c u bs ms is_bus rest fault)

pub returns-clause-disks : goal.returns-clause-disks
returns-clause-disks g c = λ u bs ms rest.
    let seen = g.M.Medium.seen in
    let ss = at_rest (Desk Machine) desk_step desk_says ms bs in
    let before = subst (λ b. IsAtRest seen bs ms b) (sym c.self.view_is) rest in
    disks_either seen c.play.result (fault_of 0 0 c.args.end c.args.changes.now) (c.args.end + 1) c.self.inside.bus c.play.new.self c.args.events.now.items c.play.new.events.items c.args.changes.now ss before
    (λ f e. (c.play.ensures.fault f e).1) (λ e. c.play.ensures.played (subst (λ b. HaveNotFailed seen b c.play.new.self) (sym c.self.view_is) u) ss e before)

pub returns-clause-handed : goal.returns-clause-handed
returns-clause-handed g c = λ u bs ms unlike swift rest. c.play.ensures.handed (subst (λ b. HaveNotFailed g.M.Medium.seen b c.play.new.self) (sym c.self.view_is) u) bs ms unlike swift (subst (λ b. IsAtRest g.M.Medium.seen bs ms b) (sym c.self.view_is) rest)

pub returns-clause-cut : goal.returns-clause-cut
returns-clause-cut g c = λ u bs ms rest fault.
    let seen = g.M.Medium.seen in
    c.play.ensures.played (subst (λ b. HaveNotFailed seen b c.play.new.self) (sym c.self.view_is) u) (at_rest (Desk Machine) desk_step desk_says ms bs) fault (subst (λ b. IsAtRest seen bs ms b) (sym c.self.view_is) rest)

pub returns-clause-fault : goal.returns-clause-fault
returns-clause-fault g c = λ f e. (let k = c.play.ensures.fault f e in (k.0, k.1 ∙ c.self.view_is, k.2))

pub returns-clause-counted : goal.returns-clause-counted
returns-clause-counted g c = subst (λ b. failures_on g.M.Medium.seen b ≤ failures_on g.M.Medium.seen c.play.new.self) c.self.view_is c.play.ensures.carried.counted
