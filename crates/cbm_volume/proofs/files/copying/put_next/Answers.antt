use Rattle.std.proofs.Common.{◌≡◌, ◌≤◌, ◌++◌, ◌∷◌, [], ℕ, length, sym, subst, ◌∙◌}
use Rattle.cbm_medium.specs.Seen.{Seen}
use Rattle.cbm_file.specs.Files.{blocks_of}
use Rattle.cbm_chain.specs.Data.{chain_bytes}
use Rattle.cbm_bam.specs.Map.{geometry_of}
use Rattle.cbm_volume.specs.Copies.{IsCopyCut, Making}
use Rattle.cbm_volume.specs.Writers.{Reads}
use Rattle.cbm_volume.proofs.copied.CopySteps.{handed, waits_first, some_waits, reader_goes}
use Rattle.cbm_volume.proofs.copied.Puts.{none_put}
use Rattle.cbm_volume.proofs.layouts.Calls.{ok_any}
use Rattle.cbm_volume.proofs.files.copying.put_next.Goals as goal

pub returns-in_default-clause-put : goal.returns-in_default-clause-put
returns-in_default-clause-put g c = λ c' l d uses ch number byte bytes left k settled room.
    absurd (some_waits (geometry_of (g.M.Medium.seen c.args.medium.now).tracks c') (g.M.Medium.seen c.args.medium.now).content k.reached.layout _ number byte c.args.reader.now left k.reads settled (sym c.peek.ensures ∙ c.in_default.is))

pub returns-in_err-put_byte-clause-put : goal.returns-in_err-put_byte-clause-put
returns-in_err-put_byte-clause-put g c = λ c' l d uses ch number byte bytes left k settled room.
    let old : Seen = g.M.Medium.seen c.args.medium.now in
    let new : Seen = g.M.Medium.seen c.put_byte.new.medium in
    let same : c.in-Some.byte ≡ byte = waits_first c.args.reader.now.bytes (chain_bytes old.content k.reads.blocks) left byte c.in-Some.byte c.in-Some.field-0-1 (sym c.peek.ensures ∙ c.in-Some.is) k.reads.all in
    handed c.from_residual.result c.in_err-put_byte.field-0.0 _ (IsCopyCut old new c' l d uses) c.from_residual.ensures.1
    (c.in_err-put_byte.ensures.put c' l d uses ch bytes (Reads number c.args.reader.now (byte ∷ left)) k (subst (λ (b : ℕ). blocks_of (length (bytes ++ b ∷ [])) ≤ d.free) (sym same) room))

pub returns-clause-put : goal.returns-clause-put
returns-clause-put g c = λ c' l d uses ch number byte bytes left k settled room.
    let old : Seen = g.M.Medium.seen c.args.medium.now in
    let new : Seen = g.M.Medium.seen c.put_byte.new.medium in
    let same : c.in-Some.byte ≡ byte = waits_first c.args.reader.now.bytes (chain_bytes old.content k.reads.blocks) left byte c.in-Some.byte c.in-Some.field-0-1 (sym c.peek.ensures ∙ c.in-Some.is) k.reads.all in
    let put = c.in_ok-put_byte.ensures.put c' l d uses ch bytes (Reads number c.args.reader.now (byte ∷ left)) k (subst (λ (b : ℕ). blocks_of (length (bytes ++ b ∷ [])) ≤ d.free) (sym same) room) in
    reader_goes old new c' l d uses ch number byte c.put_byte.new.chain (bytes ++ byte ∷ []) left c.args.reader.now c.taken.new.self c.taken.result c.taken.ensures.tracks c.taken.ensures.goes c.taken.ensures.ok c.taken.ensures.err
    (subst (λ (b : ℕ). Making old.tracks c' l d uses ch new.content c.put_byte.new.chain (bytes ++ b ∷ []) (Reads number c.args.reader.now (byte ∷ left))) same put)

-- ---- on any disk

pub returns-in_default-clause-led : goal.returns-in_default-clause-led
returns-in_default-clause-led g c = none_put (g.M.Medium.seen c.args.medium.now).content c.args.chain.now

pub returns-clause-led : goal.returns-clause-led
returns-clause-led g c = ok_any c.taken.result c.in_ok-put_byte.ensures.led
