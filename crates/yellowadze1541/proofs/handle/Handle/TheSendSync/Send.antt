-- A handle may go to another thread: its drive shares nothing with others. Assumes nothing.
use mir.Raw.{raw}
use base.Shift.{Keyless}
use denote.Memory.{lone}
use denote.RawPtr.{Ptr, block_ptr, null_ptr}
use denote.Struct.Struct.{exits_of}
use denote.Struct.Owning.{shape, fields, to}
use denote.Param.Send.{IsSend, AllSend, owning_send, struct_send, sendable}
use Rattle.std.specs.Prelude.{Option, Some, None}
use Rattle.std.proofs.Crossing as crossing
use Rattle.std_alloc.proofs.SendSync.{quiet, lies}
use Rattle.yellowadze1541.specs.Handles.{handle_owns, heap}
use Rattle.yellowadze1541.specs.contracts.inner.Inner as inner
use Rattle.yellowadze1541.proofs.inner.Inner.TheSendSync.{the_send as inner_send}
use Rattle.yellowadze1541.specs.contracts.handle.Handle.{the_row, the_type}

owned : (p : Ptr) (x : Option (inner.the_row).Denot) → Keyless (handle_owns p x)
owned null_ptr None = tt
owned null_ptr (Some x) = tt
owned (block_ptr b o) None = tt
owned (block_ptr b o) (Some x) = (lies inner.the_row inner_send (block_ptr b o) x, crossing.frees.frees heap (raw (lone (inner.the_row).mir)) (block_ptr b o))

pub send : IsSend the_row
send =
    let all : AllSend (fields the_type) = (search sendable, tt) in
    owning_send the_type all (λ d. owned d.at d.value) (λ k. quiet (to the_type) (exits_of k (fields the_type)) ((struct_send (shape the_type) all).leaving k))
