use Rattle.std.proofs.Common.{rules}
use Rattle.cbm_volume.proofs.check.unsound.Flaw.number.Goals as goal

pub returns-in-MapCount : goal.returns-in-MapCount
returns-in-MapCount c = search rules

pub returns-in-ClaimedButFree : goal.returns-in-ClaimedButFree
returns-in-ClaimedButFree c = search rules

pub returns-in-SharedBlock : goal.returns-in-SharedBlock
returns-in-SharedBlock c = search rules

pub returns-in-ChainOutside : goal.returns-in-ChainOutside
returns-in-ChainOutside c = search rules

pub returns-in-BadHeader : goal.returns-in-BadHeader
returns-in-BadHeader c = search rules

pub returns-in-DirectoryChain : goal.returns-in-DirectoryChain
returns-in-DirectoryChain c = search rules

pub returns-in-SideSectors : goal.returns-in-SideSectors
returns-in-SideSectors c = search rules

pub returns-in-UnknownType : goal.returns-in-UnknownType
returns-in-UnknownType c = search rules

pub returns-in-Unreadable : goal.returns-in-Unreadable
returns-in-Unreadable c = search rules
