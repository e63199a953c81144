use Rattle.std.proofs.Common.{◌≡◌, ◌≤◌, length}
use Rattle.cbm_medium.specs.Place.{sector_count}
use Rattle.cbm_bam.specs.Map.{geometry_of}
use Rattle.cbm_directory.specs.Entries.{first_block}
use Rattle.cbm_chain.specs.Reading.{held_from, rest_of, with_front, IsSettled}
use Rattle.cbm_shell.proofs.looking.reading.read_file.Given as goal

abbrev pub invariant-bytes : goal.invariant-bytes
invariant-bytes g l =
    let now = g.M.Medium.seen l.volume in
    let used = geometry_of now.tracks now.content in
    record {
      inside : l.reader.tracks ≤ now.tracks;
      settled : IsSettled l.reader;
      whole : held_from used now.content (sector_count used) (first_block l.entry) ≡ with_front l.bytes.items (rest_of now.content l.reader);
    }

abbrev pub decreases-bytes : goal.decreases-bytes
decreases-bytes g l = length (rest_of (g.M.Medium.seen l.volume).content l.reader).bytes
