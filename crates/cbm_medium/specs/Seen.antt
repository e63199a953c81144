-- What a medium shows, and what a write leaves of it.
use Rattle.std.specs.Prelude.{ℕ, ◌+◌, Bool, true, List, Option, Some, option_map, Result, Err, OnOk, IfErr, ◌≡◌, ◌<◌, ◌≤◌, ◌⊎◌}
use Rattle.cbm_medium.specs.Place.{Place}
use Rattle.cbm_medium.specs.Content.{Content, refusal}
use Rattle.cbm_medium.specs.Met.{place_of}
use Rattle.cbm_medium.specs.declared.fault.Fault.{Fault}
use Rattle.cbm_medium.specs.declared.fault.Trouble.{Trouble}

-- the bytes of an image that belong to no sector: how many bytes the image has, and the byte at each place, 0 at those of the sectors
pub record OutsideBytes : Type 0 where
  pub size : ℕ
  pub byte : ℕ → ℕ

-- the same as it is, and as a format leaves it
pub record Outside : Type 0 where
  pub kept : OutsideBytes
  pub formatted : OutsideBytes

-- of a medium that comes from no image
abbrev pub nothing_outside : Outside
nothing_outside = let none : OutsideBytes = record { size = 0; byte = λ p. 0 } in record { kept = none; formatted = none }

-- what each sector holds, how many tracks there are (35 or 40), whether each write is refused, how often the medium failed by itself,
-- what it answered when it did so last, the id in its headers, none where it keeps none, and the bytes of its image outside the sectors
pub record Seen : Type 0 where
  pub content : Content
  pub tracks : ℕ
  pub protected : Bool
  pub failures : ℕ
  pub refused : Option Trouble
  pub id : Option (List ℕ)
  pub outside : Outside

-- the sectors hold something else, and nothing more is new
abbrev pub with_content : Content → Seen → Seen
with_content content s = record s { content = content }

-- outside the sectors it is as a format leaves it
abbrev pub formatted_outside : Outside → Outside
formatted_outside o = record o { kept = o.formatted }

-- it was formatted under an id, which is in its headers then, if it keeps one
abbrev pub formatted_as : List ℕ → Seen → Seen
formatted_as id s = record s { id = option_map (λ _. id) s.id; outside = formatted_outside s.outside }

-- a fault as the status line shows it
abbrev pub trouble_of : Fault → Trouble
trouble_of f = record { code = f.code; track = f.at.track; sector = f.at.sector }

-- the code that refuses a write to a sector, where the medium has no failure of its own
abbrev pub write_refusal : Seen → Place → Option ℕ
write_refusal s at = refusal s.protected (s.content at)

-- the medium failed by itself in between
abbrev pub HasFailed : Seen → Seen → Type 0
HasFailed old new = old.failures < new.failures

-- A SECTOR SHOWS THE FAULT: the one that the trouble names doesn't read, with this code, or it refuses a write with it.
abbrev pub ShowsFault : Seen → Trouble → Type 0
ShowsFault s t = (s.content (place_of t) ≡ Err t.code) ⊎ (write_refusal s (place_of t) ≡ Some t.code)

-- THE MEDIUM SHOWS THE GROUND of a trouble: it is one of links (66 or 71), or a sector shows the fault.
abbrev pub ShowsGround : Seen → Trouble → Type 0
ShowsGround s t = ((t.code ≡ 66) ⊎ (t.code ≡ 71)) ⊎ ShowsFault s t

-- A TROUBLE HAS ITS GROUND: the medium shows it after the call, or the medium failed by itself in the call.
abbrev pub IsGrounded : Seen → Seen → Trouble → Type 0
IsGrounded old new t = ShowsGround new t ⊎ HasFailed old new

-- A write was refused with this fault, and changed nothing: for what the medium shows (why), or by a failure of the medium's own, which is
-- counted, one for a write, and kept as what it refused last. The code 26 says that the medium is protected.
pub record IsRefused (why : Option ℕ) (fault : Fault) (old new : Seen) : Type 0 where
  pub same : new ≡ record old { failures = new.failures; refused = new.refused }
  pub cause : (why ≡ Some fault.code) ⊎ HasFailed old new
  pub counted : old.failures ≤ new.failures
  pub once : new.failures ≤ old.failures + 1
  pub own : HasFailed old new → new.refused ≡ Some (trouble_of fault)
  pub only_protected : fault.code ≡ 26 → old.protected ≡ true

-- Each sector of a track beyond so many holds what it held.
pub record KeepsBeyond (tracks : ℕ) (old new : Content) : Type 0 where
  pub same : (p : Place) → tracks < p.track → new p ≡ old p

-- NO SECTOR BECOMES UNREADABLE: a fault that stands in place of its bytes stood there before.
pub record KeepsReadable (old new : Content) : Type 0 where
  pub faults : (p : Place) (code : ℕ) → new p ≡ Err code → old p ≡ Err code

-- A call changed at most what the sectors of a disk of so many tracks hold, though the medium may have more: tracks, protection, id and the
-- bytes outside the sectors stay, and no sector becomes unreadable.
-- It makes no write after one that the medium refused by itself: failures go up by one at most, only where it answers Err, and then that is
-- what the medium refused last. It answers the code 26 only where the medium is protected, whatever that holds, and no trouble without its
-- ground.
pub record OnlyContent {A : Type 0} (disk : ℕ) (result : Result A Trouble) (old new : Seen) : Type 0 where
  pub tracks : new.tracks ≡ old.tracks
  pub protected : new.protected ≡ old.protected
  pub id : new.id ≡ old.id
  pub outside : new.outside ≡ old.outside
  pub counted : old.failures ≤ new.failures
  pub once : new.failures ≤ old.failures + 1
  pub uncounted : OnOk result (new.failures ≡ old.failures)
  pub own : IfErr result (λ t. HasFailed old new → new.refused ≡ Some t)
  pub guarded : IfErr result (λ t. t.code ≡ 26 → old.protected ≡ true)
  pub shown : IfErr result (IsGrounded old new)
  pub beyond : KeepsBeyond disk old.content new.content
  pub readable : KeepsReadable old.content new.content
