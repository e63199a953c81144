use Rattle.std.proofs.Common.{sym}
use Rattle.cbm_track.specs.Circle.{circle_bits_of}
use Rattle.cbm_track.proofs.Tens.{clear_is}
use Rattle.cbm_track.proofs.marks.is_clear.Goals as goal

pub returns : goal.returns
returns c = clear_is (circle_bits_of c.args.track.now) c.args.place c.args.count c.is_none.result c.first_ten.result c.first_ten.ensures.value (sym c.is_none.ensures)
