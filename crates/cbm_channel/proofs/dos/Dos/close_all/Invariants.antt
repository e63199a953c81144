use Rattle.std.proofs.Common.{◌≡◌, ◌<◌, ◌≤◌, ℕ, length, take}
use Rattle.std.specs.Prelude.{false, slice_index_or}
use Rattle.cbm_channel.specs.declared.channel.Channel.TheVariants.{Closed}
use Rattle.cbm_machine.specs.Closing.{channel_numbers}
use Rattle.cbm_channel.specs.Shown.{is_writing_on, KeepsMediumAndStatus}
use Rattle.cbm_channel.specs.Going.{Goes, AreCounted, closings_of, KeepsMedium}
use Rattle.cbm_channel.specs.ChannelCalls.{LeavesRest}
use Rattle.cbm_channel.specs.Grounds.{KeepsGrounded}
use Rattle.cbm_channel.specs.BytesMeant.{ClosingsWereDone}
use Rattle.cbm_channel.specs.Parts.{closed_by}
use Rattle.cbm_channel.proofs.dos.Dos.close_all.Given as goal

-- the channels below this one are closed
abbrev pub invariant-loop-channel : goal.invariant-loop-channel
invariant-loop-channel g l = Goes g.M.Medium.seen l.fn.self l.self (closings_of (take l.channel channel_numbers))
    × ((k : ℕ) → k < l.channel → slice_index_or l.self.channels k Closed ≡ Closed)
    × KeepsMedium false (g.M.Medium.seen l.fn.self.medium) (g.M.Medium.seen l.self.medium)
    × (0 < l.channel → length l.self.channels ≡ 15)
    × (((k : ℕ) → is_writing_on k l.fn.self ≡ false) → KeepsMediumAndStatus l.fn.self l.self × ((k : ℕ) → is_writing_on k l.self ≡ false))
    × AreCounted g.M.Medium.seen l.channel l.fn.self l.self
    × KeepsGrounded g.M.Medium.seen l.fn.self l.self
    × LeavesRest g.M.Medium.seen (λ m. closed_by 15 l.fn.self) l.fn.self l.self
    × ClosingsWereDone g.M.Medium.seen l.channel l.fn.self l.self
    × ((k : ℕ) → l.channel ≤ k → slice_index_or l.self.channels k Closed ≡ slice_index_or l.fn.self.channels k Closed)
