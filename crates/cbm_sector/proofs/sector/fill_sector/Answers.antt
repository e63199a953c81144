use Rattle.std.proofs.Common.{◌≡◌, ◌<◌, ◌≤◌, ◌∙◌, ◌+◌, ◌*◌, sym, ap, arith, ℕ, List, Bool, get_or, false, Ok, length}
use Rattle.cbm_gcr.specs.Code.{code}
use Rattle.cbm_medium.specs.Place.{Place}
use Rattle.cbm_sector.specs.Answer.{block_of, data_block}
use Rattle.cbm_sector.proofs.Writing.{IsWritten}
use Rattle.cbm_sector.proofs.Showing.{code_size, block_below, written, overwritten, own_shown, other_shown, id_kept, block_of_kept, block_fits}
use Rattle.cbm_sector.proofs.Headers.{header_of_kept}
use Rattle.cbm_sector.proofs.sector.fill_sector.Goals as goal
use Rattle.cbm_sector.proofs.sector.fill_sector.Goals.{After-overwrite}

-- the block by the sector's number
at_number : (t : List Bool) (id : List ℕ) (a : Place) (n : ℕ) → n ≡ a.sector → block_of t id a ≡ Ok (2896 * a.sector + 232) → block_of t id a ≡ Ok (2896 * n + 232)
at_number t id a n e h = h ∙ ap (λ (s : ℕ). Ok (2896 * s + 232)) (sym e)

below : (t : List Bool) (id : List ℕ) (a : Place) (n b : ℕ) → b ≡ length t → 0 < b → n ≡ a.sector → block_of t id a ≡ Ok (2896 * a.sector + 232) → 2896 * n + 232 < length t
below t id a n b l z e h = block_below t id a (2896 * n + 232) (omega arith) (at_number t id a n e h)

pub overwrite-requires-clause-place : goal.overwrite-requires-clause-place
overwrite-requires-clause-place c = below c.args.track.now c.args.id.now c.args.at c.sector.result c.bits-bits.result c.bits-bits.ensures.value c.bits-bits.ensures.some c.sector.ensures.value c.requires.laid

-- there is room for it
long : (t : List Bool) (id : List ℕ) (a : Place) (n b : ℕ) → b ≡ length t → 0 < b → n ≡ a.sector → block_of t id a ≡ Ok (2896 * a.sector + 232) → 2610 ≤ length t
long t id a n b l z e h = block_fits t id a (2896 * n + 232) (below t id a n b l z e h) (at_number t id a n e h)

pub overwrite-requires-clause-fits : goal.overwrite-requires-clause-fits
overwrite-requires-clause-fits c = omega (
  arith,
  code_size c.coded_block.result c.data_block.result c.args.bytes.now c.told-bytes c.data_block.ensures c.coded_block.ensures,
  long c.args.track.now c.args.id.now c.args.at c.sector.result c.bits-bits.result c.bits-bits.ensures.value c.bits-bits.ensures.some c.sector.ensures.value c.requires.laid,
)

pub returns-clause-long : goal.returns-clause-long
returns-clause-long c = long c.args.track.now c.args.id.now c.args.at c.sector.result c.bits-bits.result c.bits-bits.ensures.value c.bits-bits.ensures.some c.sector.ensures.value c.requires.laid

-- what the write leaves
done : (c : After-overwrite) → IsWritten c.args.track.now c.overwrite.new.self (2896 * c.sector.result + 232) (data_block c.args.bytes.now)
done c =
    let f = at_number c.args.track.now c.args.id.now c.args.at c.sector.result c.sector.ensures.value c.requires.laid in
    let size = code_size c.coded_block.result c.data_block.result c.args.bytes.now c.told-bytes c.data_block.ensures c.coded_block.ensures in
    written c.args.track.now c.overwrite.new.self c.args.id.now c.args.at (2896 * c.sector.result + 232) c.args.bytes.now
    (below c.args.track.now c.args.id.now c.args.at c.sector.result c.bits-bits.result c.bits-bits.ensures.value c.bits-bits.ensures.some c.sector.ensures.value c.requires.laid) f c.overwrite.ensures.length c.told-bytes c.fits-bytes
    (λ k l. c.overwrite.ensures.bytes.written k (omega (arith, size))
    ∙ ap (λ (bs : List Bool). get_or bs k false) (c.coded_block.ensures ∙ ap code c.data_block.ensures))
    (λ k g l. c.overwrite.ensures.bytes.others k (omega (arith, size)) l)

pub returns-clause-ok : goal.returns-clause-ok
returns-clause-ok c = own_shown c.args.track.now c.overwrite.new.self (2896 * c.sector.result + 232) c.args.bytes.now (done c) c.told-bytes c.args.id.now c.args.at (at_number c.args.track.now c.args.id.now c.args.at c.sector.result c.sector.ensures.value c.requires.laid)

pub returns-clause-others : goal.returns-clause-others
returns-clause-others c = λ id2 other ne. other_shown c.args.track.now c.overwrite.new.self (2896 * c.sector.result + 232) (data_block c.args.bytes.now) (done c) c.args.id.now id2 c.args.at other (at_number c.args.track.now c.args.id.now c.args.at c.sector.result c.sector.ensures.value c.requires.laid) ne

pub returns-clause-blocks : goal.returns-clause-blocks
returns-clause-blocks c = λ id2 other. block_of_kept c.args.track.now c.overwrite.new.self (2896 * c.sector.result + 232) (data_block c.args.bytes.now) (done c) id2 other

pub returns-clause-id : goal.returns-clause-id
returns-clause-id c = id_kept c.args.track.now c.overwrite.new.self (2896 * c.sector.result + 232) (data_block c.args.bytes.now) (done c)

pub returns-clause-bits : goal.returns-clause-bits
returns-clause-bits c = λ d e. overwritten c.args.track.now c.overwrite.new.self c.args.id.now c.args.at (2896 * c.sector.result + 232) c.args.bytes.now (done c) (at_number c.args.track.now c.args.id.now c.args.at c.sector.result c.sector.ensures.value c.requires.laid) d e

pub returns-clause-headers : goal.returns-clause-headers
returns-clause-headers c = λ other. header_of_kept c.args.track.now c.overwrite.new.self (2896 * c.sector.result + 232) (data_block c.args.bytes.now) (done c) other
