use Rattle.std.proofs.Common.{◌≡◌, ℕ, ◌*◌, ◌-◌, sym, ap, ◌∙◌, arith, length}
use Rattle.cbm_gcr.specs.Code.{bits_of}
use Rattle.cbm_medium.specs.Place.{sectors_on}
use Rattle.cbm_sector.specs.Answer.{id_shown}
use Rattle.cbm_sector.specs.Fresh.{bytes_on, fresh, fresh_sectors}
use Rattle.cbm_sector.proofs.Building.{sized, sectors_none, sectors_more, track_built}
use Rattle.cbm_sector.proofs.Formatted.{length-fresh}
use Rattle.cbm_sector.proofs.Blank.{fresh_block, fresh_shown, fresh_id, zeros_shown}
use Rattle.cbm_sector.proofs.fresh.laid_track.Goals as goal
use Rattle.cbm_sector.proofs.fresh.laid_track.Goals.{In-Some}

pub loop-sector-init : goal.loop-sector-init
loop-sector-init c = record { size = omega (arith, ap length c.new-bytes.ensures); made = ap bits_of c.new-bytes.ensures ∙ sym (sectors_none c.args.track c.args.id.now) }

pub loop-sector-preserved : goal.loop-sector-preserved
loop-sector-preserved c = record {
  size = omega (arith, c.append_sector.ensures.length, c.loop-sector.invariant.size);
  made = sectors_more c.args.track c.args.id.now c.loop-sector.sector c.loop-sector.bytes.items c.append_sector.new.out.items c.header_block.result c.coded_block-block.result c.data_block.result
      c.loop-sector.invariant.made c.append_sector.ensures.bits c.header_block.ensures c.coded_block-block.ensures c.data_block.ensures;
}

-- the track is a fresh one
made : (c : In-Some) → c.in-Some.track ≡ fresh c.args.track c.args.id.now
made c =
    let z = sized c.args.track (c.requires.0) (c.requires.1) in
    let all : c.loop-sector.sector ≡ sectors_on c.args.track = omega arith in
    let r : c.track_bytes.result - c.len.result ≡ bytes_on c.args.track - 362 * sectors_on c.args.track = omega arith in
    c.in-Some.ensures.some ∙ ap bits_of c.as_slice.ensures.value
    ∙ track_built c.args.track c.args.id.now c.loop-sector.bytes.items c.append.new.out.items (c.track_bytes.result - c.len.result)
    (c.loop-sector.invariant.made ∙ ap (fresh_sectors c.args.track c.args.id.now) all) c.append.ensures.items r (omega (arith, z.rest))

pub returns-clause-value : goal.returns-clause-value
returns-clause-value c = made c

pub returns-clause-blank : goal.returns-clause-blank
returns-clause-blank c = record {
  size = ap length (made c) ∙ length-fresh c.args.track c.args.id.now (c.requires.0) (c.requires.1);
  shown = λ s h. rw (made c) (zeros_shown (fresh c.args.track c.args.id.now) c.args.id.now _ (fresh_shown c.args.track c.args.id.now s (c.requires.0) (c.requires.1) c.fits-id h));
  named = λ e. ap id_shown (made c ∙ ap (λ (t : ℕ). fresh t c.args.id.now) e) ∙ fresh_id c.args.id.now c.fits-id c.told-id;
  blocks = λ s h. rw (made c) (fresh_block c.args.track c.args.id.now s (c.requires.0) (c.requires.1) c.fits-id h);
}
