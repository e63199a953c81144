-- The faults of an image are those that reading meets.
use Rattle.std.specs.Prelude.{ℕ, ◌≡◌, ◌==◌, List, length, Bool, true, false, if◌then◌else◌, refl, Option, Some, Ok, replicate}
use Rattle.cbm_medium.specs.Place.{Place, has}
use Rattle.cbm_medium.specs.Content.{HasFaultCode, is_fault_code}
use Rattle.cbm_d64.specs.Image.{d64_tracks, index_of, code_of_error, cell_of, error_at, sector_at, d64_content}

-- one row of the table of error bytes
row : (b : Bool) (code : ℕ) (rest : Option ℕ) (bytes : List ℕ) → is_fault_code code ≡ true → HasFaultCode (cell_of rest bytes)
    → HasFaultCode (cell_of (if b then Some code else rest) bytes)
row true code rest bytes known others = known
row false code rest bytes known others = others

rows : (e : ℕ) (bytes : List ℕ) → HasFaultCode (cell_of (code_of_error e) bytes)
rows e bytes =
    row (e == 2) 20 _ bytes refl (row (e == 3) 21 _ bytes refl (row (e == 4) 22 _ bytes refl (row (e == 5) 23 _ bytes refl
    (row (e == 6) 24 _ bytes refl (row (e == 9) 27 _ bytes refl (row (e == 11) 29 _ bytes refl tt))))))

-- in place of a sector's bytes stands one of the seven codes
pub d64_has_codes : (image : List ℕ) (p : Place) → HasFaultCode (d64_content image p)
unfolding d64_content
d64_has_codes image p = by_test (has (d64_tracks (length image)) p)
  where
    by_test : (b : Bool)
        → HasFaultCode (if b then cell_of (code_of_error (error_at image (index_of p))) (sector_at image (index_of p)) else Ok (replicate 256 0))
    by_test true = rows (error_at image (index_of p)) (sector_at image (index_of p))
    by_test false = tt
