-- A listing on the way through the directory.
use Rattle.std.proofs.Common.{◌≡◌, ℕ, ◌+◌, ◌*◌, ◌≤◌, List, [], ◌∷◌, ◌++◌, length, Bool, true, false, Option, Some, None, refl, sym, ap, ◌∙◌, arith}
use Rattle.std.specs.Prelude.{filter, flat_map, if◌then◌else◌, ◌==◌, ◌&&◌, ◌%◌, slice_index}
use Rattle.std.specs.List.{AllZip}
use Rattle.std.proofs.lemmas.List.{append-nil, append_assoc}
use Rattle.cbm_file.specs.Types.{type_with}
use Rattle.cbm_file.specs.Files.{File, Disk, files_from}
use Rattle.cbm_command.specs.Names.{is_match}
use Rattle.cbm_listing.specs.Lines.{title_line, entry_line, file_line, last_line}
use Rattle.cbm_listing.specs.Listed as listed
use Rattle.cbm_medium.specs.declared.fault.Trouble.{Trouble}
use Rattle.cbm_directory.specs.Entries.{type_byte, bit_of, is_closed, name_in}
use Rattle.cbm_directory.specs.Slots.{Listed, listed_after}
use Rattle.cbm_volume.specs.Holding.{EntrySays, SlotSays, TellsOf}
use Rattle.cbm_channel.specs.Listing.{listing_line, listing_lines}
use Rattle.cbm_machine.specs.Listings.{named, listing}
use Rattle.cbm_channel.proofs.Found.{sought_file, sought_empty}

-- The lines so far, and those of the entries that are left, are the title and those of all entries.
pub record Lists (pattern title : List ℕ) (all left : Listed) (most : ℕ) (l : listed.ListedBytes) : Type 0 where
  pub bytes : l.bytes ++ listing_lines pattern left.entries ≡ title ++ listing_lines pattern all.entries
  pub trouble : left.trouble ≡ all.trouble
  pub fresh : l.taken ≡ 0
  pub room : length l.bytes + 32 * most ≤ 4640

pub lists_first : (pattern title : List ℕ) (all left : Listed) (most : ℕ) (l : listed.ListedBytes) → left ≡ all → most ≡ 144 → l ≡ record { bytes = title; taken = 0 } → length l.bytes ≡ 32
    → Lists pattern title all left most l
lists_first pattern title all left most l e n is full = record {
  bytes = λ i. (is i).bytes ++ listing_lines pattern (e i).entries;
  trouble = ap (λ (x : Listed). x.trouble) e;
  fresh = ap (λ (x : listed.ListedBytes). x.taken) is;
  room = omega (arith, n, full);
}

-- an entry's line is added
pub lists_on : (pattern title : List ℕ) (all left next : Listed) (most less : ℕ) (l new : listed.ListedBytes) (entry : List ℕ)
    → left ≡ listed_after (entry ∷ []) next → less + 1 ≡ most → new.bytes ≡ l.bytes ++ listing_line pattern entry → new.taken ≡ l.taken → length new.bytes ≤ length l.bytes + 32
    → Lists pattern title all left most l → Lists pattern title all next less new
lists_on pattern title all left next most less l new entry e n bytes taken longer h = record {
  bytes =
      ap (λ x. x ++ listing_lines pattern next.entries) bytes ∙ append_assoc l.bytes (listing_line pattern entry) (listing_lines pattern next.entries)
      ∙ sym (ap (λ (x : Listed). l.bytes ++ listing_lines pattern x.entries) e) ∙ h.bytes;
  trouble = sym (ap (λ (x : Listed). x.trouble) e) ∙ h.trouble;
  fresh = taken ∙ h.fresh;
  room = omega (arith, n, longer, h.room);
}

-- ---- the machine's lines

line_says : (pattern : List ℕ) (f : File) (e : List ℕ) → EntrySays f e → listing_line pattern e ≡ (if is_match pattern f.name then file_line f else [])
line_says pattern f e s =
    ap (λ b. if b then entry_line (slice_index e 28 + 256 * slice_index e 29) (name_in e) (type_with (type_byte e % 16)) (is_closed e) (bit_of (type_byte e) 6) else [])
    (sought_file pattern None f e s ∙ and_true (is_match pattern f.name))
    ∙ (λ i. if is_match pattern f.name then entry_line (s.blocks i) (s.name i) (s.kind i) (s.closed i) (s.locked i) else [])
  where
    and_true : (b : Bool) → (b && true) ≡ b
    and_true true = refl
    and_true false = refl

line_none : (pattern e : List ℕ) → (type_byte e == 0) ≡ true → listing_line pattern e ≡ []
line_none pattern e h =
    ap (λ b. if b then entry_line (slice_index e 28 + 256 * slice_index e 29) (name_in e) (type_with (type_byte e % 16)) (is_closed e) (bit_of (type_byte e) 6) else [])
    (sought_empty pattern None e h)

file_lines : List ℕ → List (ℕ × File) → List ℕ
file_lines pattern xs = flat_map (λ (q : ℕ × File). file_line q.1) (filter (λ (q : ℕ × File). is_match pattern q.1.name) xs)

file_lines_cons : (pattern : List ℕ) (n : ℕ) (f : File) (xs : List (ℕ × File)) → file_lines pattern ((n, f) ∷ xs) ≡ (if is_match pattern f.name then file_line f else []) ++ file_lines pattern xs
unfolding file_lines
file_lines_cons pattern n f xs = by_test (is_match pattern f.name) refl
  where
    by_test : (b : Bool) → is_match pattern f.name ≡ b
        → flat_map (λ (q : ℕ × File). file_line q.1) (filter (λ (q : ℕ × File). is_match pattern q.1.name) ((n, f) ∷ xs))
        ≡ (if is_match pattern f.name then file_line f else []) ++ flat_map (λ (q : ℕ × File). file_line q.1) (filter (λ (q : ℕ × File). is_match pattern q.1.name) xs)
    by_test true e = rw e refl
    by_test false e = rw e refl

same_lines : (pattern : List ℕ) (n : ℕ) (slots : List (Option File)) (entries : List (List ℕ)) → AllZip SlotSays slots entries
    → listing_lines pattern entries ≡ file_lines pattern (files_from n slots)
unfolding file_lines
same_lines pattern n [] [] z = refl
same_lines pattern n [] (e ∷ entries) z = absurd z
same_lines pattern n (s ∷ slots) [] z = absurd z
same_lines pattern n (None ∷ slots) (e ∷ entries) z = ap (λ x. x ++ listing_lines pattern entries) (line_none pattern e z.0) ∙ same_lines pattern (n + 1) slots entries z.1
same_lines pattern n (Some f ∷ slots) (e ∷ entries) z =
    (λ i. line_says pattern f e z.0 i ++ same_lines pattern (n + 1) slots entries z.1 i) ∙ sym (file_lines_cons pattern n f (files_from (n + 1) slots))

-- the directory's lines are those of the disk's files
pub lines_told : (pattern : List ℕ) (d : Disk) (all : Listed) → TellsOf d all → listing_lines pattern all.entries ≡ flat_map (λ (q : ℕ × File). file_line q.1) (named d pattern)
unfolding file_lines
lines_told pattern d all t = same_lines pattern 0 d.slots all.entries t.each

-- THE LISTING IS MADE
pub listed_all : (pattern first title mark : List ℕ) (free : ℕ) (d : Disk) (all left : Listed) (most : ℕ) (l new : listed.ListedBytes) → TellsOf d all → first ≡ title_line title mark
    → title ≡ d.title → mark ≡ d.mark → free ≡ d.free
    → Lists pattern first all left most l → left ≡ record { entries = []; trouble = None } → new ≡ listed.with_listing_line (last_line free) l
    → new ≡ record { bytes = listing d pattern; taken = 0 }
listed_all pattern first title mark free d all left most l new t begun same_title same_mark same_free h none e =
    let lines : l.bytes ≡ first ++ listing_lines pattern all.entries =
    sym (append-nil l.bytes) ∙ sym (ap (λ (x : Listed). l.bytes ++ listing_lines pattern x.entries) none) ∙ h.bytes in
    let bytes : l.bytes ++ last_line free ≡ listing d pattern =
    ap (λ x. x ++ last_line free) lines
    ∙ (λ i. begun i ++ listing_lines pattern all.entries ++ last_line free)
    ∙ (λ i. title_line (same_title i) (same_mark i) ++ lines_told pattern d all t i ++ last_line (same_free i)) in
    e ∙ (λ i. record { bytes = bytes i; taken = h.fresh i })

-- a sound disk's directory doesn't break off
pub never_broken : (pattern first : List ℕ) (d : Disk) (all left : Listed) (most : ℕ) (l : listed.ListedBytes) (trouble : Trouble) → TellsOf d all → Lists pattern first all left most l
    → left ≡ record { entries = []; trouble = Some trouble } → ⊥
never_broken pattern first d all left most l trouble t h e = let bad = sym t.whole ∙ sym h.trouble ∙ ap (λ (x : Listed). x.trouble) e in absurd (cc)
