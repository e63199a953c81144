use Rattle.cbm_sector.proofs.Headers.{place_below}
use Rattle.cbm_sector.proofs.sector.block_of.Goals as goal

pub header_bytes-requires : goal.header_bytes-requires
header_bytes-requires c = place_below c.args.track.now c.args.at c.args.header c.in-Some.place c.requires c.in-Some.is

pub block_following-requires : goal.block_following-requires
block_following-requires c = place_below c.args.track.now c.args.at c.args.header c.in-Some.place c.requires c.in-Some.is
