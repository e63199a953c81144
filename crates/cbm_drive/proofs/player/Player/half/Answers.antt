use Rattle.std.proofs.Common.{◌+◌, refl, sym, ap, ◌∙◌}
use Rattle.cbm_drive.specs.Playback.{Playback, IsPlayedBack, played_says, played_step}
use Rattle.cbm_drive.specs.Players.{Turns}
use Rattle.cbm_drive.proofs.Alone.{byte_of}
use Rattle.cbm_drive.proofs.Halves.{not_some, half_given}
use Rattle.cbm_drive.proofs.player.Player.half.Goals as goal

pub returns-clause-gives : goal.returns-clause-gives
returns-clause-gives g c = record {
  given = λ n ss es a.
      let second = not_some c.self.inside.second c.if-is_some-2.ensures in
      half_given _ g.D.Machine.State g.D.Machine.stands g.D.Machine.step g.D.Machine.says g.met.D.Machine.byte c.args.self.now (record { waiting = c.self.inside.waiting; second = c.self.inside.second; from = c.in_ok-half.half.moment + 1; taken = c.self.inside.taken }) c.args.bus.now c.half.new.self (c.args.upto + 1) n ss es
      c.in_ok-half.half c.in_ok-half.ensures.said (sym (ap (λ (p : Turns). p.second) c.self.view_is) ∙ second) second refl a;
  recorded = λ later n ss es a.
      let second = not_some c.self.inside.second c.if-is_some-2.ensures in
      half_given _ Playback (IsPlayedBack g.D.Machine.shows later) played_step played_says (byte_of g.D.Machine.shows later) c.args.self.now (record { waiting = c.self.inside.waiting; second = c.self.inside.second; from = c.in_ok-half.half.moment + 1; taken = c.self.inside.taken }) c.args.bus.now c.half.new.self
      (c.args.upto + 1) n ss es c.in_ok-half.half c.in_ok-half.ensures.said (sym (ap (λ (p : Turns). p.second) c.self.view_is) ∙ second) second refl a;
}
