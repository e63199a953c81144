use Rattle.cbm_bam.specs.Marks.{is_marked}
use Rattle.cbm_place.proofs.MoveParts.{inserted, left_out}
use Rattle.cbm_place.proofs.bam.insert_if.Goals as goal

pub returns-then-is_taken : goal.returns-then-is_taken
returns-then-is_taken c = inserted (is_marked c.args.set.now) (is_marked c.insert.new.self) c.args.at c.args.is_taken c.if-is_taken.true c.insert.ensures

pub returns-else-is_taken : goal.returns-else-is_taken
returns-else-is_taken c = left_out (is_marked c.args.set.now) c.args.at c.args.is_taken c.if-is_taken.false
