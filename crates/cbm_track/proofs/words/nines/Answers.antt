use Rattle.std.proofs.Common.{ℕ}
use Rattle.cbm_track.specs.Words.{Marks}
use Rattle.cbm_track.proofs.Windows.{marks_one, marks_join}
use Rattle.cbm_track.proofs.words.nines.Goals as goal

pub returns : goal.returns
returns c =
    let w : ℕ = c.args.word in
    let m2 : Marks w _ 2 = marks_join w w w 1 1 (marks_one w) (marks_one w) in
    let m4 : Marks w _ 4 = marks_join w _ _ 2 2 m2 m2 in
    let m8 : Marks w _ 8 = marks_join w _ _ 4 4 m4 m4 in
    marks_join w _ w 8 1 m8 (marks_one w)
