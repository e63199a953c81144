-- What is met on the way through the file of an entry.
use Rattle.std.proofs.Common.{◌≡◌, ◌≢◌, ◌⊎◌, ◌<◌, ◌≤◌, ℕ, List, length, Option, Some, None, Ok, Err, subst, inl, inr, arith}
use Rattle.std.specs.Prelude.{Result, IfErr, IfNone, IfOk, slice_get}
use Rattle.cbm_medium.specs.Content.{Content}
use Rattle.cbm_medium.specs.Seen.{Seen}
use Rattle.cbm_medium.specs.Met.{IsMetFrom}
use Rattle.cbm_medium.specs.declared.fault.Trouble.{Trouble}
use Rattle.cbm_relfile.specs.Records.{Relative}
use Rattle.cbm_relfile.specs.OfFile.{IsOfFile}
use Rattle.cbm_relfile.specs.Missing.{IsRecordMissing}
use Rattle.cbm_directory.specs.Entries.{width_of}
use Rattle.cbm_directory.specs.Slots.{Answers, directory_of}
use Rattle.cbm_volume.specs.RecordFaults.{IsMetInSlot, SlotLacksRecord, NoneLacksRecord, relative_of}
use Rattle.cbm_volume.specs.SeenDisks.{seen_tracks, seen_directory}

-- the entry of a slot, as it is answered
pub entry_there : (tracks geometry n : ℕ) (c : Content) (o : Option (List ℕ)) (entry : List ℕ) → geometry ≡ tracks → o ≡ Some entry → Answers (directory_of geometry c) n (Ok o) → slice_get (directory_of tracks c).entries n ≡ Some entry
entry_there tracks geometry n c o entry same is a =
    subst (λ (k : ℕ). slice_get (directory_of k c).entries n ≡ Some entry) same (subst (λ (x : Option (List ℕ)). Answers (directory_of geometry c) n (Ok x)) is a)

-- it is the file of an entry, and this is what the disk holds
pub met_in_slot : (tracks geometry : ℕ) (c medium : Content) (n : ℕ) (entry : List ℕ) (file : Relative) (t : Trouble) → geometry ≡ tracks → medium ≡ c → slice_get (directory_of tracks c).entries n ≡ Some entry → file ≡ relative_of entry
    → IsMetFrom geometry medium (IsOfFile geometry medium file) t → IsMetInSlot tracks c n t
met_in_slot tracks geometry c medium n entry file t same seen there is met =
    let on_tracks = subst (λ (k : ℕ). IsMetFrom k medium (IsOfFile k medium file) t) same met in
    let on_content = subst (λ (x : Content). IsMetFrom tracks x (IsOfFile tracks x file) t) seen on_tracks in
    let of_entry = subst (λ (r : Relative). IsMetFrom tracks c (IsOfFile tracks c r) t) is on_content in
    (entry, there, of_entry)

-- each error of a call
pub all_errors : {A : Type 0} (r : Result A Trouble) (P Q : Trouble → Type 0) → ((t : Trouble) → P t → Q t) → IfErr r P → IfErr r Q
all_errors (Ok x) P Q h p = tt
all_errors (Err t) P Q h p = h t p

-- ---- where a record isn't there

-- the directory has ended before the slot
pub no_entry : (geometry n number position : ℕ) (now : Seen) (o : Option (List ℕ)) → geometry ≡ seen_tracks now → o ≡ None → Answers (directory_of geometry now.content) n (Ok o) → SlotLacksRecord now n number position
no_entry geometry n number position now o same is a =
    inl (subst (λ (k : ℕ). (length (directory_of k now.content).entries ≤ n) × ((directory_of k now.content).trouble ≡ None)) same
    (subst (λ (x : Option (List ℕ)). Answers (directory_of geometry now.content) n (Ok x)) is a))

-- the length of the records is none, or too short
pub bad_width : (n number position width : ℕ) (now : Seen) (entry : List ℕ) → slice_get (seen_directory now).entries n ≡ Some entry → width ≡ width_of entry → (width < position) ⊎ (width ≡ 255) → SlotLacksRecord now n number position
bad_width n number position width now entry there is bad =
    inr (entry, there, inl (subst (λ (w : ℕ). (w < position) ⊎ (w ≡ 255)) is bad))

-- the entry's file has no such record
pub file_lacks : {A : Type 0} (geometry n number position : ℕ) (now : Seen) (medium : Content) (entry : List ℕ) (file : Relative) (r : Result (Option A) Trouble) → geometry ≡ seen_tracks now → medium ≡ now.content
    → slice_get (seen_directory now).entries n ≡ Some entry → file ≡ relative_of entry → IfOk r (λ o. IfNone o (IsRecordMissing geometry medium file number)) → NoneLacksRecord r now n number position
file_lacks geometry n number position now medium entry file (Err t) same seen there is missing = tt
file_lacks geometry n number position now medium entry file (Ok (Some x)) same seen there is missing = tt
file_lacks geometry n number position now medium entry file (Ok None) same seen there is missing =
    let on_tracks = subst (λ (k : ℕ). IsRecordMissing k medium file number) same missing in
    let on_content = subst (λ (x : Content). IsRecordMissing (seen_tracks now) x file number) seen on_tracks in
    inr (entry, there, inr (subst (λ (x : Relative). IsRecordMissing (seen_tracks now) now.content x number) is on_content))

-- as the code tests it
pub no_length : (n : ℕ) → (n ≡ 0) ⊎ (((n ≡ 0) → ⊥) × (n ≡ 255)) → (n < 1) ⊎ (n ≡ 255)
no_length n (inl z) = inl (omega (arith, z))
no_length n (inr z) = inr z.1

pub no_place : (n p : ℕ) → 1 ≤ p → (n ≡ 0) ⊎ (((n ≢ 0) × (n ≡ 255)) ⊎ ((n ≢ 0) × (n ≢ 255) × (n < p))) → (n < p) ⊎ (n ≡ 255)
no_place n p some (inl z) = inl (omega (arith, some, z))
no_place n p some (inr (inl (x, z))) = inr z
no_place n p some (inr (inr (x, y, z))) = inl z
