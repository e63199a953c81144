-- The bytes that a request still has to send.
use Rattle.std.specs.Prelude.{ℕ, List, replicate}
use Rattle.cbm_host.specs.declared.left.Left.{Left}
use Rattle.cbm_host.specs.declared.left.Left.TheVariants.{Bytes, Equal}

-- the bytes that a request still sends: those of a slice, or as many equal ones as it counts
abbrev pub bytes_left : Left → List ℕ
bytes_left (Bytes bytes) = bytes.now
bytes_left (Equal count byte) = replicate count byte
