use Rattle.std.proofs.Common.{◌+◌, ◌<◌, Some, inl, refl, sym, ap, subst, arith}
use Rattle.cbm_drive.specs.Halves.{half_lines, IsHalfEvent}
use Rattle.cbm_drive.specs.Playback.{Playback, played_says, played_step, IsPlayedBack}
use Rattle.cbm_drive.specs.Players.{Turns}
use Rattle.cbm_host.proofs.Halves.{takes_half, half_falls}
use Rattle.cbm_host.proofs.Progress.{as_many}
use Rattle.cbm_host.proofs.performer.Performer.next_half.Goals as goal
use Rattle.cbm_host.specs.Hosted.{TakesOn}
use Rattle.cbm_host.specs.Performers.{Performing}
use Rattle.cbm_host.specs.Progress.{left_of}

pub returns-clause-taken : goal.returns-clause-taken
returns-clause-taken g c =
    let old : Performing = record { player = c.self.inside.player; engine = c.self.inside.engine; byte = c.self.inside.byte; limit = c.self.inside.limit } in
    let new : Performing = record { player = c.half.new.self; engine = c.heard.new.self; byte = c.self.inside.byte; limit = c.self.inside.limit } in
    let half = c.in-Some.ensures in
    subst (λ (p : Performing). TakesOn _ g.D.Machine.State g.D.Machine.stands g.D.Machine.step g.D.Machine.says p new c.args.bus.now c.half.new.bus) c.self.view_is
    (takes_half _ g.D.Machine.State g.D.Machine.stands g.D.Machine.step g.D.Machine.says old new c.args.bus.now c.half.new.bus c.in-Some.half (sym c.if-not-gathers.ensures) half.half.clock (ap (λ (p : Turns). p.waiting) half.half.player)
    (ap (λ (p : Turns). p.from) half.half.player) refl c.heard.ensures half.gives.given)

pub returns-clause-recorded : goal.returns-clause-recorded
returns-clause-recorded g c = λ later.
    let old : Performing = record { player = c.self.inside.player; engine = c.self.inside.engine; byte = c.self.inside.byte; limit = c.self.inside.limit } in
    let new : Performing = record { player = c.half.new.self; engine = c.heard.new.self; byte = c.self.inside.byte; limit = c.self.inside.limit } in
    let half = c.in-Some.ensures in
    subst (λ (p : Performing). TakesOn _ Playback (IsPlayedBack g.D.Machine.shows later) played_step played_says p new c.args.bus.now c.half.new.bus) c.self.view_is
    (takes_half _ Playback (IsPlayedBack g.D.Machine.shows later) played_step played_says old new c.args.bus.now c.half.new.bus c.in-Some.half (sym c.if-not-gathers.ensures) half.half.clock (ap (λ (p : Turns). p.waiting) half.half.player)
    (ap (λ (p : Turns). p.from) half.half.player) refl c.heard.ensures (half.gives.recorded later))

pub returns-clause-fewer : goal.returns-clause-fewer
returns-clause-fewer g c =
    let old : Performing = record { player = c.self.inside.player; engine = c.self.inside.engine; byte = c.self.inside.byte; limit = c.self.inside.limit } in
    let new : Performing = record { player = c.half.new.self; engine = c.heard.new.self; byte = c.self.inside.byte; limit = c.self.inside.limit } in
    subst (λ (p : Performing). left_of new c.half.new.bus < left_of p c.args.bus.now) c.self.view_is
    (half_falls (half_lines c.in-Some.half) old new c.args.bus.now c.half.new.bus (as_many g.D.Machine.lasting c.args.bus.now.drives c.half.new.bus.drives c.in-Some.ensures.carried.lasting) refl c.heard.ensures
    (c.in-Some.ensures.half.fewer (c.self.inside.limit + 1) (omega arith)))

-- two events at once
pub returns-clause-half : goal.returns-clause-half
returns-clause-half g c = inl (subst (λ (p : Performing). IsHalfEvent p.player c.half.new.self c.args.bus.now c.half.new.bus p.limit (Some c.in-Some.half)) c.self.view_is c.in-Some.ensures.half)
