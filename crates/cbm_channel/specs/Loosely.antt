-- Single sectors, beside the channels of the DOS: those that no part of the disk has, and any.
use Rattle.std.specs.Prelude.{ℕ, ◌≡◌, ◌≢◌, ◌≤◌, ◌⊎◌, Bool, true, false, List, slice_index_or, Result, Ok, OnOk, OnErr, IfErr}
use Rattle.std.specs.List.{All}
use Rattle.cbm_medium.specs.Place.{Place}
use Rattle.cbm_medium.specs.Content.{Content, written}
use Rattle.cbm_medium.specs.Seen.{Seen, with_content}
use Rattle.cbm_bam.specs.Map.{map_of, is_free_in, with_bit, Remaps, Takes}
use Rattle.cbm_chain.specs.Writing.{place_or_none}
use Rattle.cbm_volume.specs.check.WholeDisk.{ClaimsSeen, SeenFault}
use Rattle.cbm_volume.specs.declared.check.unsound.Unsound.{Unsound}
use Rattle.cbm_volume.specs.SeenDisks.{seen_tracks}
use Rattle.cbm_volume.specs.Loose.{IsOnLinks, IsSpared, one_fewer_free, one_more_free}
use Rattle.cbm_machine.specs.Machines as machine
use Rattle.cbm_machine.specs.Machines.{Machine, with_disk}
use Rattle.cbm_channel.specs.declared.channel.Channel.{Channel}
use Rattle.cbm_channel.specs.declared.channel.Channel.TheVariants as code
use Rattle.cbm_medium.specs.declared.fault.Trouble.{Trouble}
use Rattle.cbm_channel.specs.Standing.{Kept, Leads, use_of}

-- the sector is none of those that a channel has to itself, whatever the machine has there
abbrev pub IsSparedOn : Content → Place → Channel → Type 0
IsSparedOn c p x = (y : machine.Channel) → IsSpared c p (use_of x y)

-- it is one of those that a channel still has to read, or of the blocks that it writes
abbrev pub IsOnChannel : Content → Place → Channel → Type 0
IsOnChannel c p code.Closed = ⊥
IsOnChannel c p (code.Listing l) = ⊥
IsOnChannel c p (code.File slot r) = IsOnLinks r.tracks c r.left r.next p
IsOnChannel c p (code.Writing w full) = IsOnLinks w.chain.tracks c w.chain.count (place_or_none w.chain.first) p
IsOnChannel c p (code.Stopped slot) = ⊥
IsOnChannel c p (code.Records r) = ⊥

-- so it is of one of these channels
abbrev pub IsOnOne : Content → Place → List Channel → Type 0
IsOnOne c p channels = (n : ℕ) × IsOnChannel c p (slice_index_or channels n code.Closed)

-- THE SECTOR IS NOBODY'S: the disk is sound, none of its parts has the sector, and no channel has it to itself
pub record IsNobodys {M : Type 0} (seen : M → Seen) (p : Place) (k : Kept M) : Type 0 where
  pub claims : ClaimsSeen (seen k.medium)
  pub unclaimed : claims.after p ≡ false
  pub spared : All (IsSparedOn (seen k.medium).content p) k.channels

-- THE SECTOR IS SOMEBODY'S: the disk isn't sound, or a part of it has the sector, or a channel has it to itself
abbrev pub IsSomebodys : {M : Type 0} → (M → Seen) → Place → Kept M → Type 0
IsSomebodys seen p k =
    ((u : Unsound) × SeenFault (seen k.medium) u)
    ⊎ (((claims : ClaimsSeen (seen k.medium)) × (claims.after p ≡ true)) ⊎ IsOnOne (seen k.medium).content p k.channels)

-- only the medium has changed
pub record ChangesMediumAlone {M : Type 0} (old new : Kept M) : Type 0 where
  pub channels : new.channels ≡ old.channels
  pub told : new.told ≡ old.told
  pub text : new.text ≡ old.text

-- THE SECTOR HAS THESE BYTES, and it was nobody's; nothing else of the medium has changed.
pub record WasWritten {M : Type 0} (seen : M → Seen) (p : Place) (bytes : List ℕ) (old new : Kept M) : Type 0 where
  pub nobodys : IsNobodys seen p old
  pub written : seen new.medium ≡ with_content (written (seen old.medium).content p bytes) (seen old.medium)

-- the machine whose disk has one sector of this track fewer free
abbrev pub with_one_fewer : ℕ → Machine → Machine
with_one_fewer t m = with_disk (one_fewer_free t m.disk) m

-- or one more
abbrev pub with_one_more : ℕ → Machine → Machine
with_one_more t m = with_disk (one_more_free t m.disk) m

-- the disk isn't sound, or its map has the sector as taken
abbrev pub NotFree : {M : Type 0} → (M → Seen) → Place → Kept M → Type 0
NotFree seen p k = ((u : Unsound) × SeenFault (seen k.medium) u) ⊎ (is_free_in (map_of (seen k.medium).content) p ≡ false)

-- THE SECTOR WAS CLAIMED: the disk was sound and its map had the sector as free, which is taken from now on.
pub record WasClaimed {M : Type 0} (seen : M → Seen) (p : Place) (old new : Kept M) : Type 0 where
  pub claims : ClaimsSeen (seen old.medium)
  pub free : is_free_in (map_of (seen old.medium).content) p ≡ true
  pub takes : Takes (seen_tracks (seen old.medium)) (seen old.medium).content (seen new.medium).content p

-- THE SECTOR WAS GIVEN BACK: it was nobody's. If it was taken it is free from now on, and if it was free nothing has changed.
pub record WasGiven {M : Type 0} (seen : M → Seen) (p : Place) (old new : Kept M) : Type 0 where
  pub nobodys : IsNobodys seen p old
  pub freed : is_free_in (map_of (seen old.medium).content) p ≡ false
      → Remaps (seen_tracks (seen old.medium)) (seen old.medium).content (seen new.medium).content (with_bit (is_free_in (map_of (seen old.medium).content)) p true)
  pub already : is_free_in (map_of (seen old.medium).content) p ≡ true → new.medium ≡ old.medium

-- WHAT A WRITE LEAVES: done, the sector was nobody's, and each machine that stood stands; refused, the sector is somebody's, and nothing has
-- changed; stopped by the medium, which names the sector, no sector has changed.
pub record WritesLoose {M : Type 0} (seen : M → Seen) (p : Place) (bytes : List ℕ) (result : Result Bool Trouble) (old new : Kept M) : Type 0 where
  pub leads : Leads seen old new (λ m. m)
  pub done : result ≡ Ok true → WasWritten seen p bytes old new
  pub refused : result ≡ Ok false → IsSomebodys seen p old × (new ≡ old)
  pub stopped : OnErr result ((seen new.medium).content ≡ (seen old.medium).content)
  pub named : IfErr result (λ t. (t.track ≡ p.track) × (t.sector ≡ p.sector))
  pub only : ChangesMediumAlone old new
  pub counted : (seen old.medium).failures ≤ (seen new.medium).failures

-- WHAT A RAW WRITE LEAVES: done, the sector has these bytes, whoever has it, and nothing else of the medium has changed; stopped by the medium,
-- which names the sector, no sector has changed.
pub record WritesRaw {A : Type 0} {M : Type 0} (seen : M → Seen) (p : Place) (bytes : List ℕ) (result : Result A Trouble) (old new : Kept M) : Type 0 where
  pub done : OnOk result (seen new.medium ≡ with_content (written (seen old.medium).content p bytes) (seen old.medium))
  pub stopped : OnErr result ((seen new.medium).content ≡ (seen old.medium).content)
  pub named : IfErr result (λ t. (t.track ≡ p.track) × (t.sector ≡ p.sector))
  pub only : ChangesMediumAlone old new
  pub counted : (seen old.medium).failures ≤ (seen new.medium).failures

-- WHAT A CLAIM LEAVES: done, the sector was free, and each machine that stood has one fewer free; else each stands, and no sector has changed.
pub record ClaimsAt {M : Type 0} (seen : M → Seen) (p : Place) (result : Result Bool Trouble) (old new : Kept M) : Type 0 where
  pub leads : result ≡ Ok true → Leads seen old new (with_one_fewer p.track)
  pub stays : result ≢ Ok true → Leads seen old new (λ m. m)
  pub done : result ≡ Ok true → WasClaimed seen p old new
  pub refused : result ≡ Ok false → NotFree seen p old × (new ≡ old)
  pub stopped : OnErr result ((seen new.medium).content ≡ (seen old.medium).content)
  pub only : ChangesMediumAlone old new
  pub counted : (seen old.medium).failures ≤ (seen new.medium).failures

-- WHAT A RELEASE LEAVES: done, the sector was nobody's, and if it was taken each machine that stood has one more free; else each stands, and
-- no sector has changed.
pub record GivesAt {M : Type 0} (seen : M → Seen) (p : Place) (result : Result Bool Trouble) (old new : Kept M) : Type 0 where
  pub leads : result ≡ Ok true → is_free_in (map_of (seen old.medium).content) p ≡ false → Leads seen old new (with_one_more p.track)
  pub free : result ≡ Ok true → is_free_in (map_of (seen old.medium).content) p ≡ true → Leads seen old new (λ m. m)
  pub stays : result ≢ Ok true → Leads seen old new (λ m. m)
  pub done : result ≡ Ok true → WasGiven seen p old new
  pub refused : result ≡ Ok false → IsSomebodys seen p old × (new ≡ old)
  pub stopped : OnErr result ((seen new.medium).content ≡ (seen old.medium).content)
  pub only : ChangesMediumAlone old new
  pub counted : (seen old.medium).failures ≤ (seen new.medium).failures
