use Rattle.std.proofs.Common.{[]}
use Rattle.cbm_sources.specs.Sectors.{image_content}
use Rattle.cbm_sources.specs.Chains.{met_once, EntersSector}
use Rattle.cbm_sources.specs.Directories.{directory_start, directory_limit}
use Rattle.cbm_sources.proofs.ChainLemmas.{way_more, entries_more}
use Rattle.cbm_sources.proofs.listing.listed_of.Goals as goal

pub sectors-preserved : goal.sectors-preserved
sectors-preserved c =
    let content = image_content c.args.disk.now in
    let on : EntersSector content c.sectors.trail c.next.new.self c.in-Some.sector = rw c.in-Some.is at c.in_ok-sector.ensures in
    record {
      whole = way_more content (met_once content (directory_limit c.args.disk.now.form) [] (directory_start c.args.disk.now.form)) c.sectors.trail c.next.new.self c.in-Some.sector on
          c.sectors.invariant.whole;
      entries = entries_more content c.sectors.trail c.next.new.self c.in-Some.sector c.sectors.entries.items c.add_entries.new.entries.items on c.sectors.invariant.entries
          c.in_ok-add_entries.ensures;
    }
