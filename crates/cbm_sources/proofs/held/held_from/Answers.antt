use Rattle.std.proofs.Common.{rules, []}
use Rattle.cbm_sources.specs.Forms.{form_sectors}
use Rattle.cbm_sources.specs.Sectors.{image_content}
use Rattle.cbm_sources.specs.Chains.{met_once, EntersSector}
use Rattle.cbm_sources.proofs.ChainLemmas.{way_more, bytes_more}
use Rattle.cbm_sources.proofs.held.held_from.Goals as goal

pub sectors-preserved : goal.sectors-preserved
sectors-preserved c =
    let content = image_content c.args.disk.now in
    let on : EntersSector content c.sectors.trail c.next.new.self c.in-Some.sector = rw c.in-Some.is at c.in_ok-sector.ensures in
    record {
      whole = way_more content (met_once content (form_sectors c.args.disk.now.form) [] c.args.first) c.sectors.trail c.next.new.self c.in-Some.sector on c.sectors.invariant.whole;
      bytes = bytes_more content c.sectors.trail c.next.new.self c.in-Some.sector c.sectors.bytes.items c.extend_from_slice.new.self.items on c.sectors.invariant.bytes (search rules);
    }
