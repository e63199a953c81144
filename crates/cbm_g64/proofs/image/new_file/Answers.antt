use Rattle.std.proofs.Common.{◌∙◌, ap, ℕ, List, ◌++◌}
use Rattle.cbm_g64.specs.NewFile.{front}
use Rattle.cbm_g64.proofs.Imaging.{file_built}
use Rattle.cbm_g64.proofs.image.new_file.Goals as goal

pub returns : goal.returns
returns c = file_built c.extend_from_slice.new.self.items c.append_offsets.new.out.items c.extend_from_slice-2.new.self.items c.append_speeds.new.out.items c.extend_from_slice-3.new.self.items c.append_blocks.new.out.items
    (c.in_ok-extend_from_slice.ensures.items ∙ ap (λ (v : List ℕ). v ++ front) c.in_ok-out.ensures.items)
    c.in_ok-append_offsets.ensures c.in_ok-extend_from_slice-2.ensures.items c.in_ok-append_speeds.ensures c.in_ok-extend_from_slice-3.ensures.items c.in_ok-append_blocks.ensures
