use Rattle.std.proofs.Common.{ap, subst, ◌∙◌}
use Rattle.cbm_d64.specs.Image.{d64_seen}
use Rattle.cbm_direct.specs.Vouching.{IsSoundSince}
use Rattle.cbm_direct_bus.specs.DirectBuses.{vouches_of}
use Rattle.cbm_direct_bus.proofs.Known.{two_left}
use Rattle.cbm_direct_bus.proofs.two.play_two.Goals as goal

pub returns-clause-first : goal.returns-clause-first
returns-clause-first c =
    let t = two_left c.play-played.new.self.drives c.args.first.machine.dos.vouched.vouch c.args.second.machine.dos.vouched.vouch (c.play-played.ensures.known ∙ ap vouches_of c.new-bus.ensures.drives) in
    subst (λ v. IsSoundSince v (d64_seen c.disks_of.result.0)) t.3 (c.disks_of.ensures t.0 t.1 t.2).0

pub returns-clause-second : goal.returns-clause-second
returns-clause-second c =
    let t = two_left c.play-played.new.self.drives c.args.first.machine.dos.vouched.vouch c.args.second.machine.dos.vouched.vouch (c.play-played.ensures.known ∙ ap vouches_of c.new-bus.ensures.drives) in
    subst (λ v. IsSoundSince v (d64_seen c.disks_of.result.1)) t.4 (c.disks_of.ensures t.0 t.1 t.2).1
