-- The faults of the circles' sectors are those that reading meets.
use Rattle.std.specs.Prelude.{List, Bool, true, false, if◌then◌else◌, Ok, replicate}
use Rattle.cbm_medium.specs.Place.{Place, has}
use Rattle.cbm_medium.specs.Content.{HasFaultCode}
use Rattle.cbm_sector.specs.Answer.{sector_shown}
use Rattle.cbm_sector.specs.Faults.{shown_codes}
use Rattle.cbm_g64.specs.Tracks.{g64_content, bits_at, id_for}

-- in place of a sector's bytes stands one of the seven codes
pub g64_has_codes : (tracks : List (List Bool)) (p : Place) → HasFaultCode (g64_content tracks p)
unfolding g64_content
g64_has_codes tracks p = by_test (has 35 p)
  where
    by_test : (b : Bool) → HasFaultCode (if b then sector_shown (bits_at tracks p.track) (id_for tracks) p else Ok (replicate 256 0))
    by_test true = shown_codes (bits_at tracks p.track) (id_for tracks) p
    by_test false = tt
