use Rattle.std.proofs.Common.{◌≡◌, ℕ, List, Bool, true, false, sym, ◌≤◌, length, ◌<◌}
use Rattle.std.specs.Prelude.{is_some}
use Rattle.cbm_g64.specs.File.{offset, g64_fault}
use Rattle.cbm_g64.specs.NewFile.{base_of, new_place}
use Rattle.cbm_g64.proofs.Sound.{Passes, passes, long_tables}
use Rattle.cbm_g64.proofs.Imaging.{none_is}
use Rattle.cbm_g64.proofs.NewFiles.{new_offset}
use Rattle.cbm_g64.proofs.image.offset_in.Goals as goal

-- the tables of a file that is put into
tables : (file : List ℕ) (b : Bool) → b ≡ false → is_some (g64_fault (base_of b file)) ≡ false → 292 ≤ length file
tables file true e h = cc
tables file false e h = let p : Passes file = passes file (none_is (g64_fault file) h) in long_tables file p.few_entries p.inside

placed : (file : List ℕ) (b : Bool) (i : ℕ) → b ≡ true → i < 35 → new_place i ≡ offset (base_of b file) i
placed file true i e h = sym (new_offset i h)
placed file false i e h = cc

pub offset-requires-clause-tables : goal.offset-requires-clause-tables
offset-requires-clause-tables c = tables c.args.file.now c.args.formatted c.if-formatted.false c.requires.right

pub returns-then-formatted-clause-value : goal.returns-then-formatted-clause-value
returns-then-formatted-clause-value c = placed c.args.file.now c.args.formatted c.args.i c.if-formatted.true c.requires.track
