use Rattle.std.proofs.Common.{arith}
use Rattle.cbm_track.specs.Circle.{circle_bits_of}
use Rattle.cbm_track.proofs.Windows.{plain_all, plain_front}
use Rattle.cbm_track.proofs.words.plain_at.Goals as goal

pub returns-then-marks-eq0-clause-none : goal.returns-then-marks-eq0-clause-none
returns-then-marks-eq0-clause-none c = λ j l. plain_all (circle_bits_of c.args.track.now) c.args.place c.args.word c.nines-marks.result j c.requires.window c.nines-marks.ensures l c.if-marks-eq0.true

pub returns-clause-none : goal.returns-clause-none
returns-clause-none c = λ j l. plain_front (circle_bits_of c.args.track.now) c.args.place c.args.word c.nines-marks.result j c.requires.window c.nines-marks.ensures (omega arith) (omega arith) (omega arith)
