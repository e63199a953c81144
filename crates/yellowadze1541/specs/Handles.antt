-- What a handle owns: the drive's box at its pointer, or at null nothing.
use Rattle.std.specs.Prelude.{Option, Some, None}
use base.Fml.{Fml, ftrue, ffalse}
use denote.RawPtr.{Ptr, block_ptr, null_ptr}
use Rattle.std.specs.Box.Ownership.{box_owns}
use Rattle.std.specs.Global.{Global}
use Rattle.std.specs.contracts.impls.GlobalAllocator.TheImpl.{ghosts}
use Rattle.yellowadze1541.specs.contracts.inner.Inner.{the_row}

-- the heap, of which there is one
abbrev pub heap : Global
heap = record { memory = record { seal = tt } }

-- A HANDLE at null owns nothing; any other one owns the box at its pointer, with a drive in it.
abbrev pub handle_owns : Ptr → Option the_row.Denot → Fml
handle_owns null_ptr None = ftrue
handle_owns null_ptr (Some x) = ffalse
handle_owns (block_ptr b o) None = ffalse
handle_owns (block_ptr b o) (Some x) = box_owns (ghosts.dealloc_token heap) the_row (block_ptr b o) x
