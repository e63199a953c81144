use Rattle.std.proofs.Common.{◌≡◌, length}
use Rattle.std.specs.Prelude.{replicate}
use Rattle.cbm_channel.specs.declared.channel.Channel.TheVariants.{Closed}
use Rattle.cbm_channel.proofs.channels.Channels.new.Given as goal

abbrev pub invariant-loop : goal.invariant-loop
invariant-loop l = l.closed.items ≡ replicate l.counter Closed
