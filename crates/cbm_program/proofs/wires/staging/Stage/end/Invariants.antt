use Rattle.std.proofs.Common.{◌≡◌, ◌≤◌, ◌+◌, [], None}
use Rattle.cbm_drive.specs.Players.{at_most, IsGivenBefore}
use Rattle.cbm_drive.specs.Desks.{desk_shows}
use Rattle.cbm_program.specs.Output.{AppendsMore}
use Rattle.cbm_program.specs.Staging.{PlaysOn, ReplaysOn, tracks_of_drives}
use Rattle.cbm_program.proofs.wires.staging.Stage.end.Given as goal

-- what came so far was written
abbrev pub invariant-events : goal.invariant-events
invariant-events g l = record {
  played : PlaysOn g.M.Medium.seen (g.W.Write.contents l.fn.writer) (g.W.Write.contents l.writer) [] l.fn.self.player l.fn.self.bus l.self.player l.self.bus;
  wrote : ReplaysOn desk_shows (g.W.Write.contents l.fn.writer) (g.W.Write.contents l.writer) [] l.fn.self.player l.fn.self.bus l.self.player l.self.bus;
  waiting : l.self.player.waiting ≡ None;
  second : IsGivenBefore (l.end + 1) l.self.player.second;
  from : l.self.player.from ≤ l.end + 1;
  tracks : tracks_of_drives g.M.Medium.seen l.self.bus ≡ tracks_of_drives g.M.Medium.seen l.fn.self.bus;
  grown : AppendsMore (g.W.Write.contents l.fn.writer) (g.W.Write.contents l.writer);
}

abbrev pub decreases-events : goal.decreases-events
decreases-events g l = at_most (l.end + 1) l.self.player.second l.self.bus.drives
