-- What was saved is read again.
use Rattle.std.proofs.Common.{◌≡◌, ℕ, zero, suc, ◌+◌, ◌*◌, ◌/◌, ◌%◌, ◌<◌, ◌≤◌, ◌^◌, ◌⊎◌, inl, inr, Bool, true, false, List, [], ◌∷◌, ◌++◌, length, get_or, Option, Some, None, refl, sym, ap, subst, ◌∙◌, append_assoc, arith}
use Rattle.std.specs.Prelude.{◌==◌, ◌&&◌, ◌||◌, nat_lt, nat_le, is_some, IfSome, if◌then◌else◌}
use Rattle.std.specs.List.{All}
use Rattle.std.proofs.lemmas.Bool.{le-leb, lt-ltb, le-ltb, eq-eqb, cases_lt}
use Rattle.cbm_saved.specs.Steps.{◌>>=◌}
use Rattle.cbm_saved.specs.Numbers.{two, pair_at, number_of_two}
use Rattle.cbm_volume.specs.Writers.{Filling}
use Rattle.cbm_saved.specs.Texts.{counted_text, text_at}
use Rattle.cbm_saved.proofs.Again.{two_again, two_back, text_again}
use Rattle.cbm_medium.specs.Place.{Place, IsOnDisk, sectors_on}
use Rattle.cbm_chain.specs.Reading.{Reading}
use Rattle.cbm_chain.specs.Writing.{State}
use Rattle.cbm_chain.specs.Resuming.{CanRead, CanWrite}
use Rattle.cbm_listing.specs.Listed.{ListedBytes}
use Rattle.cbm_machine.specs.Codes.{code_number}
use Rattle.cbm_machine.specs.Numbered.{code_with}
use Rattle.cbm_machine.specs.Statuses.{status_line}
use Rattle.cbm_machine.specs.Told.{ToldStatus}
use Rattle.cbm_machine.specs.declared.code.Code.{Code}
use Rattle.cbm_machine.specs.declared.code.Code.TheVariants as c
use Rattle.cbm_channel.specs.declared.channel.Channel.{Channel}
use Rattle.cbm_channel.specs.declared.channel.Channel.TheVariants as code
use Rattle.cbm_channel.specs.declared.on_record.Waiting.{Waiting}
use Rattle.cbm_channel.specs.declared.on_record.Waiting.TheVariants as waits
use Rattle.cbm_channel.specs.Placed.{Placed, record_of}
use Rattle.cbm_channel.specs.Saved.{flag_byte, saved_place, saved_listing, saved_file, saved_chain, saved_writing, saved_waiting, saved_records, saved_channel, saved_channels, saved_told, saved_gathered, saved_dos, IsGeometry, MayGoOn, MayStand, CanWait, IsGathered, MayBeKept}
use Rattle.cbm_channel.specs.Loaded
use Rattle.cbm_channel.specs.Standing.{Kept}
use Rattle.cbm_channel.proofs.EachKept.{all_first, all_others}

-- ---- tests that hold

both : (a b : Bool) → a ≡ true → b ≡ true → (a && b) ≡ true
both true true e f = refl
both true false e f = f
both false b e f = e

bound : {A B : Type 0} (o : Option A) (x : A) (f : A → Option B) → o ≡ Some x → (o >>= f) ≡ f x
bound o x f e = ap (λ p. p >>= f) e

chosen : {A : Type 0} (b : Bool) (x : A) → b ≡ true → (if b then Some x else None) ≡ Some x
chosen true x e = refl
chosen false x e = absurd cc

-- ---- the status

code_again : (k : Code) → code_with (code_number k) ≡ Some k
code_again c.Fine = refl
code_again c.FilesScratched = refl
code_again c.NoHeader = refl
code_again c.NoSync = refl
code_again c.NoData = refl
code_again c.DataChecksum = refl
code_again c.DataCode = refl
code_again c.WriteFailed = refl
code_again c.WriteProtected = refl
code_again c.HeaderChecksum = refl
code_again c.LongData = refl
code_again c.WrongId = refl
code_again c.Syntax = refl
code_again c.UnknownCommand = refl
code_again c.LongText = refl
code_again c.WildName = refl
code_again c.NoName = refl
code_again c.NoRecord = refl
code_again c.RecordOverflow = refl
code_again c.FileTooLarge = refl
code_again c.WriteFileOpen = refl
code_again c.FileNotOpen = refl
code_again c.FileNotFound = refl
code_again c.FileExists = refl
code_again c.WrongType = refl
code_again c.NoBlock = refl
code_again c.WrongLink = refl
code_again c.NoChannel = refl
code_again c.EndlessChain = refl
code_again c.DiskFull = refl
code_again c.PowerUp = refl
code_again c.DriveNotReady = refl

told_again : (t : ToldStatus) (rest : List ℕ) → t.told < length (status_line t.status) → Loaded.told_at (saved_told t ++ rest) ≡ Some (t, rest)
told_again t rest h =
    bound (code_with (code_number t.status.code)) t.status.code _ (code_again t.status.code)
    ∙ bound (Loaded.told_with t.status.code t.status.first t.status.second t.told) t (λ (x : ToldStatus). Some (x, rest))
    (chosen (nat_lt t.told (length (status_line t.status))) t (lt-ltb t.told (length (status_line t.status)) h))

-- ---- the gathered text

gathered_again : (o : Option (ℕ × List ℕ)) (rest : List ℕ) → IsGathered o → Loaded.gathered_at (saved_gathered o ++ rest) ≡ Some (o, rest)
gathered_again None rest h = refl
gathered_again (Some t) rest h =
    bound (text_at (counted_text t.1 ++ rest)) (t.1, rest) _ (text_again t.1 rest)
    ∙ bound (Loaded.gathered_of t.0 t.1) t (λ (x : ℕ × List ℕ). Some (Some x, rest))
    (chosen (nat_le 1 (length t.1) && nat_le (length t.1) 256) t (both _ _ (le-leb 1 (length t.1) h.0) (le-leb (length t.1) 256 h.1)))

-- ---- places and tracks

place_some : (p : Place) → IsOnDisk p → Loaded.loaded_place p.track p.sector ≡ Some p
place_some p h = chosen (nat_lt p.sector (sectors_on p.track)) p (lt-ltb p.sector (sectors_on p.track) h)

place_none : Loaded.loaded_place 0 0 ≡ None
place_none = refl

or_true : (b : Bool) → (b || true) ≡ true
or_true true = refl
or_true false = refl

either : (n : ℕ) → IsGeometry n → (n == 35 || n == 40) ≡ true
either n (inl e) = rw (eq-eqb n 35 e) refl
either n (inr e) = rw (eq-eqb n 40 e) (or_true (n == 35))

geometry_again : (most n : ℕ) → IsGeometry n → n ≤ most → Loaded.loaded_tracks most n ≡ Some n
geometry_again most n g h = chosen ((n == 35 || n == 40) && nat_le n most) n (both (n == 35 || n == 40) (nat_le n most) (either n g) (le-leb n most h))

-- ---- listings

listing_again : (most : ℕ) (l : ListedBytes) (rest : List ℕ) → length l.bytes ≤ 4672 → l.taken ≤ length l.bytes
    → Loaded.channel_at most (saved_listing l ++ rest) ≡ Some (code.Listing l, rest)
listing_again most l rest few within =
    bound (text_at (counted_text l.bytes ++ rest)) (l.bytes, rest) _ (text_again l.bytes rest)
    ∙ bound (Loaded.listing_of l.bytes (number_of_two (l.taken % 256) (l.taken / 256))) l (λ (x : ListedBytes). Some (code.Listing x, rest))
    (ap (λ (n : ℕ). Loaded.listing_of l.bytes n) (two_back l.taken)
    ∙ chosen (nat_le (length l.bytes) 4672 && nat_le l.taken (length l.bytes)) l
    (both (nat_le (length l.bytes) 4672) (nat_le l.taken (length l.bytes)) (le-leb (length l.bytes) 4672 few) (le-leb l.taken (length l.bytes) within)))

-- ---- files that are read

settled : (bytes : List ℕ) (next : Place) → CanRead bytes next → (nat_lt 1 (length bytes) || next.track == 0) ≡ true
settled bytes next h = elim (cases_lt 1 (length bytes)) [
  | inl l ↦ rw (lt-ltb 1 (length bytes) l) refl
  | inr few ↦ rw (eq-eqb next.track 0 (h.1 few)) (or_true (nat_lt 1 (length bytes)))
]

file_again : (most slot : ℕ) (r : Reading) (rest : List ℕ) → IsGeometry r.tracks → r.tracks ≤ most → CanRead r.bytes r.next
    → Loaded.channel_at most (saved_file slot r ++ rest) ≡ Some (code.File slot r, rest)
file_again most slot r rest g few h =
    bound (Loaded.loaded_tracks most r.tracks) r.tracks _ (geometry_again most r.tracks g few)
    ∙ bound (text_at (counted_text r.bytes ++ rest)) (r.bytes, rest) _ (text_again r.bytes rest)
    ∙ bound (Loaded.reading_of r.tracks r.bytes r.next (number_of_two (r.left % 256) (r.left / 256))) r (λ (x : Reading). Some (code.File slot x, rest))
    (ap (λ (n : ℕ). Loaded.reading_of r.tracks r.bytes r.next n) (two_back r.left)
    ∙ chosen (nat_le (length r.bytes) 257 && (nat_lt 1 (length r.bytes) || r.next.track == 0)) r
    (both (nat_le (length r.bytes) 257) (nat_lt 1 (length r.bytes) || r.next.track == 0) (le-leb (length r.bytes) 257 h.0) (settled r.bytes r.next h)))

-- ---- files that are written

on_track : (tracks : ℕ) (o : Option Place) → IfSome o (λ p. p.track ≤ tracks) → Loaded.is_on tracks o ≡ true
on_track tracks None h = refl
on_track tracks (Some p) h = le-leb p.track tracks h

-- the last steps of reading a writer, from these places on
abbrev chain_from : ℕ → Option Place → Option Place → ℕ → List ℕ → List ℕ → Option (State × List ℕ)
chain_from tracks first current count waiting rest = Loaded.chain_with tracks first current count waiting >>= λ s. Some (s, rest)

chain_done : (most : ℕ) (s : State) (rest : List ℕ) → MayGoOn most s
    → chain_from s.tracks s.first s.current (number_of_two (s.count % 256) (s.count / 256)) s.waiting rest ≡ Some (s, rest)
chain_done most s rest h =
    bound (Loaded.chain_with s.tracks s.first s.current (number_of_two (s.count % 256) (s.count / 256)) s.waiting) s (λ (x : State). Some (x, rest))
    (ap (λ (n : ℕ). Loaded.chain_with s.tracks s.first s.current n s.waiting) (two_back s.count)
    ∙ chosen (nat_le (length s.waiting) 254 && Loaded.is_on s.tracks s.current) s
    (both (nat_le (length s.waiting) 254) (Loaded.is_on s.tracks s.current) (le-leb (length s.waiting) 254 h.stands.0) (on_track s.tracks s.current h.stands.1)))

place_back : (o : Option Place) → IfSome o IsOnDisk → (a b : ℕ) → saved_place o ≡ a ∷ b ∷ [] → Loaded.loaded_place a b ≡ o
place_back None h a b e = subst (λ (x : List ℕ). Loaded.loaded_place (get_or x 0 0) (get_or x 1 0) ≡ None) e place_none
place_back (Some p) h a b e = subst (λ (x : List ℕ). Loaded.loaded_place (get_or x 0 0) (get_or x 1 0) ≡ Some p) e (place_some p h)

two_places : (o : Option Place) → (a : ℕ) × (b : ℕ) × (saved_place o ≡ a ∷ b ∷ [])
two_places None = (0, 0, refl)
two_places (Some p) = (p.track, p.sector, refl)

chain_again : (most : ℕ) (s : State) (rest : List ℕ) → MayGoOn most s → Loaded.chain_at most (saved_chain s ++ rest) ≡ Some (s, rest)
chain_again most s rest h =
    let f = two_places s.first in
    let c = two_places s.current in
    ap (λ (x : List ℕ). Loaded.chain_at most (s.tracks ∷ ((x ++ (saved_place s.current ++ (two s.count ++ counted_text s.waiting))) ++ rest))) f.2
    ∙ ap (λ (x : List ℕ). Loaded.chain_at most (s.tracks ∷ f.0 ∷ f.1 ∷ ((x ++ (two s.count ++ counted_text s.waiting)) ++ rest))) c.2
    ∙ bound (Loaded.loaded_tracks most s.tracks) s.tracks _ (geometry_again most s.tracks h.geometry h.few)
    ∙ bound (text_at (counted_text s.waiting ++ rest)) (s.waiting, rest) _ (text_again s.waiting rest)
    ∙ ap (λ (o : Option Place). chain_from s.tracks o (Loaded.loaded_place c.0 c.1) (number_of_two (s.count % 256) (s.count / 256)) s.waiting rest) (place_back s.first h.first f.0 f.1 f.2)
    ∙ ap (λ (o : Option Place). chain_from s.tracks s.first o (number_of_two (s.count % 256) (s.count / 256)) s.waiting rest) (place_back s.current h.current c.0 c.1 c.2)
    ∙ chain_done most s rest h

flag_again : (b : Bool) → Loaded.is_flag (flag_byte b) ≡ b
flag_again true = refl
flag_again false = refl

writing_again : (most : ℕ) (w : Filling) (full : Bool) (rest : List ℕ) → MayGoOn most w.chain
    → Loaded.channel_at most (saved_writing w full ++ rest) ≡ Some (code.Writing w full, rest)
writing_again most w full rest h =
    bound (Loaded.chain_at most (saved_chain w.chain ++ rest)) (w.chain, rest) _ (chain_again most w.chain rest h)
    ∙ ap (λ (b : Bool). Some (code.Writing (record { slot = w.slot; replaces = b; chain = w.chain }) (Loaded.is_flag (flag_byte full)), rest)) (flag_again w.replaces)
    ∙ ap (λ (b : Bool). Some (code.Writing w b, rest)) (flag_again full)

-- ---- relative files

waiting_again : (w : Waiting) (rest : List ℕ) → IfSome (record_of w) (λ bytes. length bytes ≤ 254) → Loaded.waiting_at (saved_waiting w ++ rest) ≡ Some (w, rest)
waiting_again (waits.Record r) rest h =
    bound (text_at (counted_text r.items ++ rest)) (r.items, rest) _ (text_again r.items rest)
    ∙ bound (Loaded.record_of_bytes r.items) (waits.Record r) (λ (x : Waiting). Some (x, rest))
    (chosen (nat_le (length r.items) 254) (waits.Record r) (le-leb (length r.items) 254 h))
waiting_again waits.Absent rest h = refl
waiting_again waits.Broken rest h = refl

may_again : (number : ℕ) (w : Waiting) → (is_some (record_of w) ≡ true → number < 2 ^ 18) → number < 2 ^ 24 → Loaded.may_wait number w ≡ true
may_again number (waits.Record r) h k = lt-ltb number 262144 (h refl)
may_again number waits.Absent h k = lt-ltb number 16777216 k
may_again number waits.Broken h k = lt-ltb number 16777216 k

three_back : (n : ℕ) → n % 256 + 256 * (n / 256 % 256) + 65536 * (n / 65536) ≡ n
three_back n = omega arith

records_again : (most : ℕ) (r : Placed) (rest : List ℕ) → CanWait r → IfSome (record_of r.waiting) (λ bytes. length bytes ≤ 254)
    → Loaded.channel_at most (saved_records r ++ rest) ≡ Some (code.Records r, rest)
records_again most r rest h short =
    bound (Loaded.placed_at (r.slot ∷ r.width ∷ r.position ∷ r.number % 256 ∷ r.number / 256 % 256 ∷ r.number / 65536 ∷ (saved_waiting r.waiting ++ rest))) (r, rest)
    (λ (x : Placed × List ℕ). Some (code.Records x.0, x.1))
    (bound (Loaded.waiting_at (saved_waiting r.waiting ++ rest)) (r.waiting, rest) _ (waiting_again r.waiting rest short)
    ∙ bound (Loaded.placed_of r.slot r.width (r.number % 256 + 256 * (r.number / 256 % 256) + 65536 * (r.number / 65536)) r.position r.waiting) r (λ (x : Placed). Some (x, rest))
    (ap (λ (n : ℕ). Loaded.placed_of r.slot r.width n r.position r.waiting) (three_back r.number)
    ∙ chosen (Loaded.may_wait r.number r.waiting) r (may_again r.number r.waiting h.0 h.1)))

-- ---- channels

channel_again : (most : ℕ) (x : Channel) (rest : List ℕ) → MayStand most x → Loaded.channel_at most (saved_channel x ++ rest) ≡ Some (x, rest)
channel_again most code.Closed rest h = refl
channel_again most (code.Listing l) rest h = listing_again most l rest h.0 h.1
channel_again most (code.File slot r) rest h = file_again most slot r rest h.0 h.1 h.2
channel_again most (code.Writing w full) rest h = writing_again most w full rest h
channel_again most (code.Stopped slot) rest h = refl
channel_again most (code.Records r) rest h = records_again most r rest h.0 h.1

channels_again : (most : ℕ) (xs : List Channel) (rest : List ℕ) → All (MayStand most) xs
    → Loaded.channels_at most (length xs) (saved_channels xs ++ rest) ≡ Some (xs, rest)
channels_again most [] rest h = refl
channels_again most (x ∷ xs) rest h =
    ap (λ (bytes : List ℕ). Loaded.channels_at most (suc (length xs)) bytes) (append_assoc (saved_channel x) (saved_channels xs) rest)
    ∙ bound (Loaded.channel_at most (saved_channel x ++ (saved_channels xs ++ rest))) (x, saved_channels xs ++ rest) _
    (channel_again most x (saved_channels xs ++ rest) (all_first (MayStand most) x xs h))
    ∙ bound (Loaded.channels_at most (length xs) (saved_channels xs ++ rest)) (xs, rest) (λ (others : List Channel × List ℕ). Some (x ∷ others.0, others.1))
    (channels_again most xs rest (all_others (MayStand most) x xs h))

pub dos_again : {M : Type 0} (most : ℕ) (k : Kept M) (rest : List ℕ) → MayBeKept most k → Loaded.dos_at k.medium most (saved_dos k ++ rest) ≡ Some (k, rest)
dos_again {M} most k rest h =
    bound (Loaded.told_at (saved_told k.told ++ ((saved_gathered k.text ++ saved_channels k.channels) ++ rest))) (k.told, (saved_gathered k.text ++ saved_channels k.channels) ++ rest) _
    (told_again k.told _ h.told)
    ∙ bound (Loaded.gathered_at ((saved_gathered k.text ++ saved_channels k.channels) ++ rest)) (k.text, saved_channels k.channels ++ rest) _
    (ap Loaded.gathered_at (append_assoc (saved_gathered k.text) (saved_channels k.channels) rest) ∙ gathered_again k.text (saved_channels k.channels ++ rest) h.gathered)
    ∙ bound (Loaded.channels_at most 15 (saved_channels k.channels ++ rest)) (k.channels, rest)
    (λ (x : List Channel × List ℕ). Some (record { medium = k.medium; channels = x.0; told = k.told; text = k.text }, x.1))
    (ap (λ (n : ℕ). Loaded.channels_at most n (saved_channels k.channels ++ rest)) (sym h.count) ∙ channels_again most k.channels rest h.each)
