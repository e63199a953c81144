use Rattle.std.proofs.Common.{◌≡◌, ◌+◌, ◌∷◌, [], drop, slice_index, arith}
use Rattle.std.proofs.lemmas.List.{drop_all}
use Rattle.cbm_channel.specs.Standing.{Stands}
use Rattle.cbm_channel.proofs.Goings.{keeps_then}
use Rattle.cbm_talk.proofs.PutLemmas.{one_off, puts-on, puts-end}
use Rattle.cbm_channel.proofs.Steady.{steady_put}
use Rattle.cbm_talk.proofs.hearing.put_each.Goals as goal

pub loop-byte-preserved : goal.loop-byte-preserved
loop-byte-preserved g c =
    let stands = Stands g.M.Medium.seen in
    let rest : drop c.loop-byte.byte-index c.args.bytes.now ≡ slice_index c.args.bytes.now c.loop-byte.byte-index ∷ drop (c.loop-byte.byte-index + 1) c.args.bytes.now =
    one_off c.args.bytes.now c.loop-byte.byte-index (omega (arith, c.loop-byte-test.true)) in (
      puts-on (stands c.args.dos.now) (stands c.loop-byte.dos) (stands c.put.new.self) c.args.channel c.args.bytes.now (drop c.loop-byte.byte-index c.args.bytes.now)
          (drop (c.loop-byte.byte-index + 1) c.args.bytes.now) (slice_index c.args.bytes.now c.loop-byte.byte-index) c.loop-byte.invariant.0 rest
          (steady_put g.M.Medium.seen g.met.M.Steady.steady c.loop-byte.dos c.put.new.self c.args.channel (slice_index c.args.bytes.now c.loop-byte.byte-index) c.put.ensures.goes),
      keeps_then _ _ _ c.loop-byte.invariant.1 c.put.ensures.leaves.medium,
    )

pub returns-clause-leads : goal.returns-clause-leads
returns-clause-leads g c =
    let stands = Stands g.M.Medium.seen in
    let none : drop c.loop-byte.byte-index c.args.bytes.now ≡ [] = drop_all c.loop-byte.byte-index c.args.bytes.now c.loop-byte-test.false in
    puts-end (stands c.args.dos.now) (stands c.loop-byte.dos) c.args.channel c.args.bytes.now (drop c.loop-byte.byte-index c.args.bytes.now) c.loop-byte.invariant.0 none
