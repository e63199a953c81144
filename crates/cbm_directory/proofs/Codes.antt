-- What breaks the directory off never has the code 26, and the medium shows it.
use Rattle.std.proofs.Common.{◌≡◌, ◌≢◌, ℕ, Option, Some, Result, Ok, Err}
use Rattle.std.specs.Prelude.{IfErr}
use Rattle.cbm_medium.specs.Place.{Place}
use Rattle.cbm_medium.specs.Content.{Content, HasFaultCode}
use Rattle.cbm_medium.specs.declared.fault.Trouble.{Trouble}
use Rattle.cbm_medium.specs.Seen.{Seen, ShowsGround}
use Rattle.cbm_medium.proofs.FaultCodes.{followed_never_26}
use Rattle.cbm_medium.proofs.Shown.{cut_shown}
use Rattle.cbm_directory.specs.Entries.{first_directory}
use Rattle.cbm_directory.specs.Slots.{directory_of, listed_from}
use Rattle.cbm_directory.specs.Empties.{FindsEmpty}

pub directory_never_26 : (tracks : ℕ) (c : Content) (t : Trouble) → ((p : Place) → HasFaultCode (c p)) → (directory_of tracks c).trouble ≡ Some t → t.code ≢ 26
unfolding directory_of listed_from
directory_never_26 tracks c t codes e = followed_never_26 tracks c 18 first_directory t codes e

-- so a search that is broken off doesn't tell of protection
pub found_never_26 : (tracks : ℕ) (c : Content) (r : Result (Option ℕ) Trouble) (P : Type 0) → ((p : Place) → HasFaultCode (c p)) → FindsEmpty (directory_of tracks c) r → IfErr r (λ t. t.code ≡ 26 → P)
found_never_26 tracks c (Ok o) P codes f = tt
found_never_26 tracks c (Err t) P codes f = λ is. absurd (directory_never_26 tracks c t codes f.1 is)

-- ---- the ground

pub directory_shown : (tracks : ℕ) (s : Seen) (t : Trouble) → (directory_of tracks s.content).trouble ≡ Some t → ShowsGround s t
unfolding directory_of listed_from
directory_shown tracks s t e = cut_shown tracks s 18 first_directory t e

pub found_shown : (tracks : ℕ) (s : Seen) (r : Result (Option ℕ) Trouble) → FindsEmpty (directory_of tracks s.content) r → IfErr r (ShowsGround s)
found_shown tracks s (Ok o) f = tt
found_shown tracks s (Err t) f = directory_shown tracks s t f.1
