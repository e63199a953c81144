-- Each sector of the circles that reads has 256 bytes.
use Rattle.std.proofs.Common.{ℕ, List, Bool, true, false, Ok}
use Rattle.std.specs.Prelude.{if◌then◌else◌, replicate}
use Rattle.std.proofs.lemmas.List.{length-replicate}
use Rattle.cbm_medium.specs.Place.{Place, has}
use Rattle.cbm_medium.specs.Content.{IsWhole}
use Rattle.cbm_sector.specs.Answer.{sector_shown}
use Rattle.cbm_sector.proofs.Wholes.{shown_whole}
use Rattle.cbm_g64.specs.Tracks.{g64_content, bits_at, id_for}

pub circles_whole : (tracks : List (List Bool)) (p : Place) → IsWhole (g64_content tracks p)
unfolding g64_content
circles_whole tracks p = by_test (has 35 p)
  where
    by_test : (b : Bool) → IsWhole (if b then sector_shown (bits_at tracks p.track) (id_for tracks) p else Ok (replicate 256 0))
    by_test true = shown_whole (bits_at tracks p.track) (id_for tracks) p
    by_test false = length-replicate {A = ℕ} 256 0
