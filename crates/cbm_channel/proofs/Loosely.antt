-- A sector that is nobody's is written, claimed or given back: what the volume promises is said of the drive.
use Rattle.std.proofs.Common.{◌≡◌, ◌≢◌, ◌⊎◌, ◌≤◌, ℕ, Bool, true, false, List, length, refl, sym, ap, ◌∙◌, subst, inl, inr, Result, Ok, Err}
use Rattle.std.specs.Prelude.{slice_index_or, OnErr, IfErr}
use Rattle.std.proofs.lemmas.Bool.{cases_lt}
use Rattle.std.proofs.lemmas.List.{get_or_past}
use Rattle.std.specs.List.{All}
use Rattle.cbm_medium.specs.Place.{Place}
use Rattle.cbm_medium.specs.Content.{Content, written}
use Rattle.cbm_medium.specs.Seen.{Seen, with_content, OnlyContent}
use Rattle.cbm_medium.specs.declared.fault.Trouble.{Trouble}
use Rattle.cbm_file.specs.Files.{Disk, file_at}
use Rattle.cbm_bam.specs.Map.{map_of, is_free_in, with_bit, Remaps, Takes}
use Rattle.cbm_volume.specs.SeenDisks.{seen_tracks}
use Rattle.cbm_volume.specs.Calls.{OfDisk}
use Rattle.cbm_volume.specs.Writers.{Use, HoldsNow, known}
use Rattle.cbm_volume.specs.Loose.{AreSpared, IsLooseOn, IsNotLoose, one_fewer_free, one_more_free}
use Rattle.cbm_volume.specs.check.WholeDisk.{ClaimsSeen, SeenFault}
use Rattle.cbm_volume.specs.declared.check.unsound.Unsound.{Unsound}
use Rattle.cbm_machine.specs.Machines as machine
use Rattle.cbm_machine.specs.Machines.{Machine, with_disk}
use Rattle.cbm_channel.specs.declared.channel.Channel.{Channel}
use Rattle.cbm_channel.specs.declared.channel.Channel.TheVariants as code
use Rattle.cbm_channel.specs.Standing.{Kept, StandsBy, Stands, Leads, uses_of}
use Rattle.cbm_channel.specs.Loosely.{IsSparedOn, IsOnOne, IsNobodys, IsSomebodys, ChangesMediumAlone, WasWritten, WasClaimed, WasGiven, NotFree, WritesLoose, ClaimsAt, GivesAt, with_one_fewer, with_one_more}
use Rattle.cbm_channel.proofs.DiskSteps.{with_other_disk, known_keeps}
use Rattle.cbm_channel.proofs.Stores.{renamed}

-- ---- the sectors that channels have

spared_at : (c : Content) (p : Place) (xs : List Channel) (n : ℕ) → All (IsSparedOn c p) xs → IsSparedOn c p (slice_index_or xs n code.Closed)
spared_at c p xs n h = elim (cases_lt n (length xs)) [
  | inl lt ↦ h n code.Closed lt
  | inr past ↦ subst (λ (x : Channel). IsSparedOn c p x) (sym (get_or_past xs n code.Closed past)) (λ y. tt)
]

-- what isn't marked is no channel's
abbrev pub Spares : Content → (Place → Bool) → List Channel → Type 0
Spares c marked xs = (p : Place) → marked p ≡ false → All (IsSparedOn c p) xs

-- what is marked is one's
abbrev pub MarksOnly : Content → (Place → Bool) → List Channel → Type 0
MarksOnly c marked xs = (p : Place) → marked p ≡ true → IsOnOne c p xs

all_spared : (c : Content) (marked : Place → Bool) (xs : List Channel) (ys : List machine.Channel) → Spares c marked xs → AreSpared c marked (uses_of xs ys)
all_spared c marked xs ys h = λ p f n. spared_at c p xs n (h p f) (slice_index_or ys n machine.Closed)

-- ---- the drive stands for a machine again

-- the medium holds a disk with the same files
module _ {M : Type 0} (seen : M → Seen) (k : Kept M) (v : M) (tracks : (seen v).tracks ≡ (seen k.medium).tracks) (protected : (seen v).protected ≡ (seen k.medium).protected) where
  stands_with : (m : Machine) (d : Disk) → Stands seen k m → HoldsNow (seen k.medium).tracks (seen v).content d (uses_of k.channels m.channels) → ((n : ℕ) → file_at d n ≡ file_at m.disk n) → Stands seen (record k { medium = v }) (with_disk d m)
  stands_with m d s holds same =
      renamed (seen v).content (seen k.medium).tracks (seen v).tracks (seen k.medium).protected (seen v).protected k.channels k.told k.text (with_disk d m) tracks protected
      (with_other_disk (seen k.medium).tracks (seen k.medium).content (seen v).content (seen k.medium).protected k.channels k.told k.text m d s holds
      (known_keeps m.disk d m.channels (λ i slot u. ap known (same slot))))

  -- or it holds what it held
  stands_still : (seen v).content ≡ (seen k.medium).content → Leads seen k (record k { medium = v }) (λ m. m)
  stands_still same m s =
      stands_with m m.disk s (subst (λ (c : Content). HoldsNow (seen k.medium).tracks c m.disk (uses_of k.channels m.channels)) (sym same) s.holds) (λ n. refl)

-- nothing has changed, unless it is done
content_stays : {M : Type 0} (seen : M → Seen) (r : Result Bool Trouble) (k v : M) → (r ≡ Ok false → v ≡ k) → OnErr r ((seen v).content ≡ (seen k).content) → r ≢ Ok true → (seen v).content ≡ (seen k).content
content_stays seen (Ok true) k v same stops ne = absurd (ne refl)
content_stays seen (Ok false) k v same stops ne = ap (λ x. (seen x).content) (same refl)
content_stays seen (Err t) k v same stops ne = stops

-- why it was refused
somebodys : {M : Type 0} (seen : M → Seen) (k : Kept M) (marked : Place → Bool) (p : Place) → MarksOnly (seen k.medium).content marked k.channels → IsNotLoose (seen k.medium) marked p → IsSomebodys seen p k
somebodys seen k marked p only (inl u) = inl u
somebodys seen k marked p only (inr (inl c)) = inr (inl c)
somebodys seen k marked p only (inr (inr m)) = inr (inr (only p m))

nobodys : {M : Type 0} (seen : M → Seen) (k : Kept M) (marked : Place → Bool) (p : Place) → Spares (seen k.medium).content marked k.channels → IsLooseOn (seen k.medium) marked p → IsNobodys seen p k
nobodys seen k marked p spares h = record { claims = h.0; unclaimed = h.1; spared = spares p h.2 }

-- ---- the three calls

module _ {M : Type 0} (seen : M → Seen) (k : Kept M) (v : M) (p : Place) (r : Result Bool Trouble) (only : OnlyContent (seen k.medium).tracks r (seen k.medium) (seen v)) where
  -- A WRITE
  pub written_call : (marked : Place → Bool) (bytes : List ℕ) → Spares (seen k.medium).content marked k.channels → MarksOnly (seen k.medium).content marked k.channels
      → (r ≡ Ok true → IsLooseOn (seen k.medium) marked p × (seen v ≡ with_content (written (seen k.medium).content p bytes) (seen k.medium)))
      → (r ≡ Ok false → IsNotLoose (seen k.medium) marked p × (v ≡ k.medium))
      → OfDisk (seen k.medium) (λ d uses. AreSpared (seen k.medium).content marked uses → HoldsNow (seen k.medium).tracks (seen v).content d uses)
      → OnErr r ((seen v).content ≡ (seen k.medium).content) → IfErr r (λ t. (t.track ≡ p.track) × (t.sector ≡ p.sector))
      → WritesLoose seen p bytes r k (record k { medium = v })
  written_call marked bytes spares marks done refused holds stops named = record {
    leads = λ m s. stands_with seen k v only.tracks only.protected m m.disk s (holds m.disk (uses_of k.channels m.channels) s.holds (all_spared (seen k.medium).content marked k.channels m.channels spares)) (λ n. refl);
    done = λ e. (let x = done e in record { nobodys = nobodys seen k marked p spares x.0; written = x.1 });
    refused = λ e. (let x = refused e in (somebodys seen k marked p marks x.0, ap (λ w. record k { medium = w }) x.1));
    stopped = stops;
    named = named;
    only = record { channels = refl; told = refl; text = refl };
    counted = only.counted;
  }

-- A CLAIM
pub claimed_call : {M : Type 0} (seen : M → Seen) (k : Kept M) (v : M) (p : Place) (r : Result Bool Trouble) → OnlyContent (seen_tracks (seen k.medium)) r (seen k.medium) (seen v)
    → (r ≡ Ok true → ClaimsSeen (seen k.medium) × (is_free_in (map_of (seen k.medium).content) p ≡ true) × Takes (seen_tracks (seen k.medium)) (seen k.medium).content (seen v).content p)
    → (r ≡ Ok false → (((u : Unsound) × SeenFault (seen k.medium) u) ⊎ (is_free_in (map_of (seen k.medium).content) p ≡ false)) × (v ≡ k.medium))
    → OfDisk (seen k.medium) (λ d uses. r ≡ Ok true → HoldsNow (seen k.medium).tracks (seen v).content (one_fewer_free p.track d) uses)
    → OnErr r ((seen v).content ≡ (seen k.medium).content) → ClaimsAt seen p r k (record k { medium = v })
claimed_call seen k v p r only done refused holds stops = record {
  leads = λ e m s. stands_with seen k v only.tracks only.protected m (one_fewer_free p.track m.disk) s (holds m.disk (uses_of k.channels m.channels) s.holds e) (λ n. refl);
  stays = λ ne. stands_still seen k v only.tracks only.protected (content_stays seen r k.medium v (λ e. (refused e).1) stops ne);
  done = λ e. (let x = done e in record { claims = x.0; free = x.1; takes = x.2 });
  refused = λ e. (let x = refused e in (x.0, ap (λ w. record k { medium = w }) x.1));
  stopped = stops;
  only = record { channels = refl; told = refl; text = refl };
  counted = only.counted;
}

-- A RELEASE
pub given_call : {M : Type 0} (seen : M → Seen) (k : Kept M) (v : M) (p : Place) (r : Result Bool Trouble) → OnlyContent (seen_tracks (seen k.medium)) r (seen k.medium) (seen v)
    → (marked : Place → Bool) → Spares (seen k.medium).content marked k.channels → MarksOnly (seen k.medium).content marked k.channels
    → (r ≡ Ok true → IsLooseOn (seen k.medium) marked p)
    → (r ≡ Ok true → is_free_in (map_of (seen k.medium).content) p ≡ false → Remaps (seen_tracks (seen k.medium)) (seen k.medium).content (seen v).content (with_bit (is_free_in (map_of (seen k.medium).content)) p true))
    → (r ≡ Ok true → is_free_in (map_of (seen k.medium).content) p ≡ true → v ≡ k.medium)
    → (r ≡ Ok false → IsNotLoose (seen k.medium) marked p × (v ≡ k.medium))
    → OfDisk (seen k.medium) (λ d uses. AreSpared (seen k.medium).content marked uses → r ≡ Ok true → is_free_in (map_of (seen k.medium).content) p ≡ false → HoldsNow (seen k.medium).tracks (seen v).content (one_more_free p.track d) uses)
    → OnErr r ((seen v).content ≡ (seen k.medium).content) → GivesAt seen p r k (record k { medium = v })
given_call seen k v p r only marked spares marks done freed already refused holds stops = record {
  leads = λ e taken m s. stands_with seen k v only.tracks only.protected m (one_more_free p.track m.disk) s
      (holds m.disk (uses_of k.channels m.channels) s.holds (all_spared (seen k.medium).content marked k.channels m.channels spares) e taken) (λ n. refl);
  free = λ e free. stands_still seen k v only.tracks only.protected (ap (λ x. (seen x).content) (already e free));
  stays = λ ne. stands_still seen k v only.tracks only.protected (content_stays seen r k.medium v (λ e. (refused e).1) stops ne);
  done = λ e. record { nobodys = nobodys seen k marked p spares (done e); freed = freed e; already = already e };
  refused = λ e. (let x = refused e in (somebodys seen k marked p marks x.0, ap (λ w. record k { medium = w }) x.1));
  stopped = stops;
  only = record { channels = refl; told = refl; text = refl };
  counted = only.counted;
}
