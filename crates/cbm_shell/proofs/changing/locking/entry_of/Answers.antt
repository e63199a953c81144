use Rattle.std.proofs.Common.{refl, arith, ◌∙◌}
use Rattle.std.specs.Prelude.{replicate}
use borrow.Rule.Slice.PartMut.{put_mid}
use Rattle.cbm_directory.specs.Entries.{HasEntry}
use Rattle.cbm_directory.proofs.Written.{has_entry}
use Rattle.cbm_shell.proofs.changing.locking.entry_of.Goals as goal

pub returns : goal.returns
returns c =
    let has : HasEntry (replicate 256 0) (put_mid 2 30 (replicate 256 0) c.copy_from_slice.new.self) 0 c.args.bytes.now =
    rw c.copy_from_slice.ensures.after (has_entry (replicate 256 0) c.args.bytes.now 0 2 30 refl c.told-bytes (omega arith) refl refl) in
    c.of.ensures ∙ has.here
