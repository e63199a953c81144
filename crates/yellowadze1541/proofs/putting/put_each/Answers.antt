use Rattle.std.proofs.Common.{◌+◌, drop, ap}
use Rattle.cbm_channel.specs.Standing.{Stands}
use Rattle.yellowadze1541.proofs.PuttingLemmas.{one_more, next_file}
use Rattle.yellowadze1541.proofs.putting.put_each.Goals as goal

pub loop-file-preserved : goal.loop-file-preserved
loop-file-preserved g c =
    let seen = g.M.Medium.seen in
    let inv = c.loop-file.invariant in
    let i = c.loop-file.file-index in
    let files = c.args.files.now in (
      ap (λ k. k + 1) inv.0,
      λ m s. let u = inv.1 m s in
          one_more (drop i files) (drop (i + 1) files) files _ i (Stands seen c.loop-file.dos) (Stands seen c.put_one.new.dos) m (next_file files _ i c.loop-file-test.true) u (c.in_ok-put_one.ensures.put _ u.now),
    )
