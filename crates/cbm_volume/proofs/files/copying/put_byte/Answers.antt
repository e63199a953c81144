use Rattle.cbm_medium.specs.Seen.{Seen}
use Rattle.cbm_volume.specs.Copies.{IsCopyCut}
use Rattle.cbm_volume.proofs.copied.CopySteps.{handed, byte_cut, byte_put, byte_refused}
use Rattle.cbm_volume.proofs.copied.Puts.{byte_on}
use Rattle.cbm_volume.proofs.files.copying.put_byte.Goals as goal

pub returns-in_err-done-clause-put : goal.returns-in_err-done-clause-put
returns-in_err-done-clause-put g c = λ c' l d uses ch bytes source k room.
    let old : Seen = g.M.Medium.seen c.args.medium.now in
    let new : Seen = g.M.Medium.seen c.put.new.medium in
    handed c.from_residual.result c.in_err-done.field-0.0 _ (IsCopyCut old new c' l d uses) c.from_residual.ensures.1
    (byte_cut old new c.args.chain.now c.in_err-done.field-0.0 c' l d uses ch bytes source c.in_err-done.ensures.err c.in_err-done.ensures.cause k)

-- a block is free, so the byte is put
pub returns-then-not-done-clause-put : goal.returns-then-not-done-clause-put
returns-then-not-done-clause-put g c = λ c' l d uses ch bytes source k room.
    absurd (byte_refused (g.M.Medium.seen c.args.medium.now) (g.M.Medium.seen c.put.new.medium) c.args.chain.now c.put.new.self c.args.byte c.in_ok-done.done c' l d uses ch bytes source c.tracks-tracks.ensures.whole
    c.in_ok-done.ensures.put c.in_ok-done.ensures.needs c.if-not-done.true k room)

pub returns-clause-put : goal.returns-clause-put
returns-clause-put g c = λ c' l d uses ch bytes source k room.
    byte_put (g.M.Medium.seen c.args.medium.now) (g.M.Medium.seen c.put.new.medium) c.args.chain.now c.put.new.self c.args.byte c.in_ok-done.done c' l d uses ch bytes source c.tracks-tracks.ensures.whole
    c.in_ok-done.ensures.put c.if-not-done.false k

-- ---- on any disk

pub returns-clause-led : goal.returns-clause-led
returns-clause-led g c =
    byte_on (g.M.Medium.seen c.args.medium.now).content (g.M.Medium.seen c.put.new.medium).content c.args.chain.now c.put.new.self c.args.byte c.in_ok-done.done c.in_ok-done.ensures.put c.if-not-done.false
