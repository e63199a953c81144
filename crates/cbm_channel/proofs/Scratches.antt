-- The slots that S clears: those of the directory's entries are the machine's, and cleared one after another they leave its disk.
use Rattle.std.proofs.Common.{◌≡◌, ◌≢◌, ◌⊎◌, ℕ, zero, suc, ◌+◌, ◌-◌, ◌<◌, ◌≤◌, Bool, true, false, List, [], ◌∷◌, ◌++◌, length, drop, refl, sym, ap, ◌∙◌, subst, inl, inr, Option, Some, None, Err, arith}
use Rattle.std.specs.Prelude.{◌==◌, ◌&&◌, nat_lt, not, sum_by, slice_index_or, slice_set, if◌then◌else◌}
use Rattle.std.specs.List.{AllZip, list_any}
use Rattle.std.proofs.lemmas.List.{at_drop_more, append-nil, append_assoc, length-append, drop_all, get_or_past, get_or-set_same, get_or-set_other}
use Rattle.std.proofs.lemmas.Bool.{cases_lt}
use Rattle.std.proofs.lemmas.Bool.Decides.{eqb_tells, nat_tests}
use Rattle.std.proofs.lemmas.List.Sums.{sum_by-cons}
use Rattle.cbm_file.specs.Files.{File, Disk, blocks_held, files, files_from, file_at}
use Rattle.cbm_file.specs.Changes.{scratched_in, scratched}
use Rattle.cbm_command.specs.Names.{is_match}
use Rattle.cbm_medium.specs.declared.fault.Trouble.{Trouble}
use Rattle.cbm_directory.specs.Entries.{type_byte, bit_of, name_in}
use Rattle.cbm_directory.specs.Slots.{Listed, listed_after}
use Rattle.cbm_volume.specs.Holding.{EntrySays, SlotSays, TellsOf}
use Rattle.cbm_medium.specs.Content.{Content}
use Rattle.cbm_volume.specs.Writers.{Use, HoldsNow, known, Stopped}
use Rattle.cbm_volume.specs.Opens.{IsUnused}
use Rattle.cbm_machine.specs.declared.code.Code.TheVariants.{FilesScratched, WriteProtected}
use Rattle.cbm_machine.specs.Machines as machine
use Rattle.cbm_machine.specs.Machines.{Machine, answered, with_status, with_disk, in_use, uses}
use Rattle.cbm_machine.specs.Orderly.{channel_in, still_uses}
use Rattle.cbm_machine.specs.Running.{may_go, kept_slots, scratched_disk, scratch}
use Rattle.cbm_channel.specs.declared.channel.Channel.{Channel}
use Rattle.cbm_channel.specs.Standing.{ChannelStands}
use Rattle.cbm_channel.specs.Shown.{uses_on}
use Rattle.cbm_channel.specs.Commanded.{entry_may_go, entries_going, slots_going, all_scratched, CanGo, CanAllGo, AreSlotsGoing}
use Rattle.cbm_channel.proofs.Planning.{none_passes}
use Rattle.cbm_channel.proofs.Uses.{any_uses_same}
use Rattle.cbm_channel.proofs.Rest.{scratched_total}

-- ---- the entries tell of the slots

module _ (chs : List Channel) (m : Machine) (each : AllZip ChannelStands chs m.channels) (ps : List (List ℕ)) where
  same_use : (n : ℕ) → list_any (uses_on n) chs ≡ in_use m n
  same_use n = sym (any_uses_same n chs m.channels each)

  entry_says : (n : ℕ) (f : File) (e : List ℕ) → EntrySays f e → entry_may_go chs ps n e ≡ may_go m ps n f
  entry_says n f e s = λ i. not (s.used i) && list_any (λ p. is_match p (s.name i)) ps && not (s.locked i) && not (same_use n i)

  entry_none : (n : ℕ) (e : List ℕ) → (type_byte e == 0) ≡ true → entry_may_go chs ps n e ≡ false
  entry_none n e h = λ i. not (h i) && list_any (λ p. is_match p (name_in e)) ps && not (bit_of (type_byte e) 6) && not (list_any (uses_on n) chs)

  pub numbers_same : (n : ℕ) (slots : List (Option File)) (entries : List (List ℕ)) → AllZip SlotSays slots entries → entries_going chs ps n entries ≡ slots_going m ps n slots
  numbers_same n [] [] z = refl
  numbers_same n [] (e ∷ entries) z = absurd z
  numbers_same n (s ∷ slots) [] z = absurd z
  numbers_same n (None ∷ slots) (e ∷ entries) z = rw (entry_none n e z.0) (numbers_same (n + 1) slots entries z.1)
  numbers_same n (Some f ∷ slots) (e ∷ entries) z =
      (λ i. if entry_says n f e z.0 i then n ∷ numbers_same (n + 1) slots entries z.1 i else numbers_same (n + 1) slots entries z.1 i)

-- ---- one slot after others

at_after : {A : Type 0} (pre rest : List A) (x d : A) → slice_index_or (pre ++ x ∷ rest) (length pre) d ≡ x
at_after [] rest x d = refl
at_after (y ∷ pre) rest x d = at_after pre rest x d

set_after : {A : Type 0} (pre rest : List A) (x y : A) → slice_set (pre ++ x ∷ rest) (length pre) y ≡ pre ++ y ∷ rest
set_after [] rest x y = refl
set_after (z ∷ pre) rest x y = ap (λ xs. z ∷ xs) (set_after pre rest x y)

one_more : {A : Type 0} (pre : List A) (x : A) (n : ℕ) → n ≡ length pre → n + 1 ≡ length (pre ++ x ∷ [])
one_more pre x n e = omega (arith, e, length-append pre (x ∷ []))

-- the disk with these slots, and so much free
abbrev having : Disk → List (Option File) → ℕ → Disk
having d slots free = record d { slots = slots; free = free }

module _ (m : Machine) (ps : List (List ℕ)) where
  -- what those hold that go
  abbrev pub held_going : ℕ → List (Option File) → ℕ
  held_going n [] = 0
  held_going n (None ∷ slots) = held_going (n + 1) slots
  held_going n (Some f ∷ slots) = (if may_go m ps n f then blocks_held (Some f) else 0) + held_going (n + 1) slots

  scratched_after : (d : Disk) (pre slots : List (Option File)) (n free : ℕ) (f : File) → n ≡ length pre
      → scratched (having d (pre ++ Some f ∷ slots) free) n ≡ having d (pre ++ None ∷ slots) (free + blocks_held (Some f))
  scratched_after d pre slots n free f e =
      let x : Disk = having d (pre ++ Some f ∷ slots) free in
      let here : file_at x n ≡ Some f = ap (file_at x) e ∙ at_after pre slots (Some f) None in
      ap (λ (o : Option File). scratched_in o x n) here
      ∙ ap (λ (xs : List (Option File)). having d xs (free + blocks_held (Some f))) (ap (λ (k : ℕ). slice_set (pre ++ Some f ∷ slots) k None) e ∙ set_after pre slots (Some f) None)

  -- the slots are cleared, one after another
  pub all_gone : (d : Disk) (pre slots : List (Option File)) (n free : ℕ) → n ≡ length pre
      → all_scratched (having d (pre ++ slots) free) (slots_going m ps n slots) ≡ having d (pre ++ kept_slots m ps n slots) (free + held_going n slots)
  all_gone d pre [] n free e = ap (having d (pre ++ [])) (omega arith)
  all_gone d pre (None ∷ slots) n free e =
      ap (λ (xs : List (Option File)). all_scratched (having d xs free) (slots_going m ps (n + 1) slots)) (sym (append_assoc pre (None ∷ []) slots))
      ∙ all_gone d (pre ++ None ∷ []) slots (n + 1) free (one_more pre None n e)
      ∙ ap (λ (xs : List (Option File)). having d xs (free + held_going (n + 1) slots)) (append_assoc pre (None ∷ []) (kept_slots m ps (n + 1) slots))
  all_gone d pre (Some f ∷ slots) n free e =
      by_test (may_go m ps n f) refl (all_gone d (pre ++ None ∷ []) slots (n + 1) (free + blocks_held (Some f)) (one_more pre None n e)) (all_gone d (pre ++ Some f ∷ []) slots (n + 1) free (one_more pre (Some f) n e))
    where
      sum_is : (free + blocks_held (Some f)) + held_going (n + 1) slots ≡ free + (blocks_held (Some f) + held_going (n + 1) slots)
      sum_is = omega arith

      none_is : free + held_going (n + 1) slots ≡ free + (0 + held_going (n + 1) slots)
      none_is = omega arith

      by_test : (b : Bool) → may_go m ps n f ≡ b
          → all_scratched (having d ((pre ++ None ∷ []) ++ slots) (free + blocks_held (Some f))) (slots_going m ps (n + 1) slots) ≡ having d ((pre ++ None ∷ []) ++ kept_slots m ps (n + 1) slots) ((free + blocks_held (Some f)) + held_going (n + 1) slots)
          → all_scratched (having d ((pre ++ Some f ∷ []) ++ slots) free) (slots_going m ps (n + 1) slots) ≡ having d ((pre ++ Some f ∷ []) ++ kept_slots m ps (n + 1) slots) (free + held_going (n + 1) slots)
          → all_scratched (having d (pre ++ Some f ∷ slots) free) (slots_going m ps n (Some f ∷ slots)) ≡ having d (pre ++ kept_slots m ps n (Some f ∷ slots)) (free + held_going n (Some f ∷ slots))
      by_test true t gone kept = rw t
          (ap (λ (x : Disk). all_scratched x (slots_going m ps (n + 1) slots)) (scratched_after d pre slots n free f e)
          ∙ ap (λ (xs : List (Option File)). all_scratched (having d xs (free + blocks_held (Some f))) (slots_going m ps (n + 1) slots)) (sym (append_assoc pre (None ∷ []) slots))
          ∙ gone
          ∙ (λ i. having d (append_assoc pre (None ∷ []) (kept_slots m ps (n + 1) slots) i) (sum_is i)))
      by_test false t gone kept = rw t
          (ap (λ (xs : List (Option File)). all_scratched (having d xs free) (slots_going m ps (n + 1) slots)) (sym (append_assoc pre (Some f ∷ []) slots))
          ∙ kept
          ∙ (λ i. having d (append_assoc pre (Some f ∷ []) (kept_slots m ps (n + 1) slots) i) (none_is i)))

  -- what they hold is what is held no more
  held_less : (n : ℕ) (slots : List (Option File)) → sum_by blocks_held slots ≡ sum_by blocks_held (kept_slots m ps n slots) + held_going n slots
  held_less n [] = refl
  held_less n (None ∷ slots) = held_less (n + 1) slots
  held_less n (Some f ∷ slots) = by_test (may_go m ps n f) refl (held_less (n + 1) slots)
    where
      by_test : (b : Bool) → may_go m ps n f ≡ b → sum_by blocks_held slots ≡ sum_by blocks_held (kept_slots m ps (n + 1) slots) + held_going (n + 1) slots
          → sum_by blocks_held (Some f ∷ slots) ≡ sum_by blocks_held (kept_slots m ps n (Some f ∷ slots)) + held_going n (Some f ∷ slots)
      by_test true t rest =
          let all = sum_by-cons blocks_held (Some f) slots in
          let kept = sum_by-cons blocks_held None (kept_slots m ps (n + 1) slots) in
          let g : sum_by blocks_held (Some f ∷ slots) ≡ sum_by blocks_held (None ∷ kept_slots m ps (n + 1) slots) + (blocks_held (Some f) + held_going (n + 1) slots) = omega (arith, rest, all, kept) in rw t g
      by_test false t rest =
          let all = sum_by-cons blocks_held (Some f) slots in
          let kept = sum_by-cons blocks_held (Some f) (kept_slots m ps (n + 1) slots) in
          let g : sum_by blocks_held (Some f ∷ slots) ≡ sum_by blocks_held (Some f ∷ kept_slots m ps (n + 1) slots) + (0 + held_going (n + 1) slots) = omega (arith, rest, all, kept) in rw t g

  -- and they are as many as the files that aren't there any more
  count_less : (n : ℕ) (slots : List (Option File)) → length (files_from n slots) ≡ length (files_from n (kept_slots m ps n slots)) + length (slots_going m ps n slots)
  count_less n [] = refl
  count_less n (None ∷ slots) = count_less (n + 1) slots
  count_less n (Some f ∷ slots) = by_test (may_go m ps n f) refl (count_less (n + 1) slots)
    where
      by_test : (b : Bool) → may_go m ps n f ≡ b → length (files_from (n + 1) slots) ≡ length (files_from (n + 1) (kept_slots m ps (n + 1) slots)) + length (slots_going m ps (n + 1) slots)
          → length (files_from n (Some f ∷ slots)) ≡ length (files_from n (kept_slots m ps n (Some f ∷ slots))) + length (slots_going m ps n (Some f ∷ slots))
      by_test true t rest = rw t (omega (arith, rest))
      by_test false t rest = rw t (omega (arith, rest))

  -- THE DISK IS THE MACHINE'S
  pub scratched_as : all_scratched m.disk (slots_going m ps 0 m.disk.slots) ≡ scratched_disk m ps
  scratched_as =
      let less : held_going 0 m.disk.slots ≡ sum_by blocks_held m.disk.slots - sum_by blocks_held (kept_slots m ps 0 m.disk.slots) = omega (arith, held_less 0 m.disk.slots) in
      all_gone m.disk [] m.disk.slots 0 m.disk.free refl ∙ ap (λ (k : ℕ). having m.disk (kept_slots m ps 0 m.disk.slots) (m.disk.free + k)) less

  count_as : length (files m.disk) - length (files (scratched_disk m ps)) ≡ length (slots_going m ps 0 m.disk.slots)
  count_as = omega (arith, count_less 0 m.disk.slots)

  and_false : (x : Bool) → (x && false) ≡ false
  and_false true = refl
  and_false false = refl

  none_refused : (slots : List ℕ) → (slots ≢ [] → m.protected ≡ false) → (nat_lt 0 (length slots) && m.protected) ≡ false
  none_refused [] h = refl
  none_refused (n ∷ slots) h = ap (λ (b : Bool). nat_lt 0 (length (n ∷ slots)) && b) (h (λ e. (cc))) ∙ and_false (nat_lt 0 (length (n ∷ slots)))

  -- what is told then
  pub scratch_done : (slots : List ℕ) → AreSlotsGoing m ps slots
      → answered m (scratch ps m) ≡ with_status (record { code = FilesScratched; first = length slots; second = 0 }) (with_disk (all_scratched m.disk slots) m)
  scratch_done slots h =
      let count : length (files m.disk) - length (files (scratched_disk m ps)) ≡ length slots = count_as ∙ ap length (sym h.all) in
      let test : (nat_lt 0 (length (files m.disk) - length (files (scratched_disk m ps))) && m.protected) ≡ false = ap (λ (k : ℕ). nat_lt 0 k && m.protected) count ∙ none_refused slots h.unprotected in
      rw test (λ i. with_status (record { code = FilesScratched; first = count i; second = 0 }) (with_disk ((sym scratched_as ∙ ap (all_scratched m.disk) (sym h.all)) i) m))

  -- or nothing, on a protected disk
  pub scratch_refused : (slots : List ℕ) → slots ≡ slots_going m ps 0 m.disk.slots → 1 ≤ length slots → m.protected ≡ true → scratch ps m ≡ Err WriteProtected
  scratch_refused slots e some guarded =
      let count : length (files m.disk) - length (files (scratched_disk m ps)) ≡ length slots = count_as ∙ ap length (sym e) in
      let over : nat_lt 0 (length slots) ≡ true = grind (arith, nat_tests, some) in
      let test : (nat_lt 0 (length (files m.disk) - length (files (scratched_disk m ps))) && m.protected) ≡ true = (λ i. nat_lt 0 (count i) && guarded i) ∙ ap (λ (b : Bool). b && true) over in
      rw test refl

  -- ---- none of them is open

  gone_unused : (n : ℕ) (f : File) → may_go m ps n f ≡ true → in_use m n ≡ false
  gone_unused n f h = last (list_any (λ p. is_match p f.name) ps && not f.locked) (in_use m n) h
    where
      last : (a b : Bool) → (a && not b) ≡ true → b ≡ false
      last a false h = refl
      last true true h = absurd (cc)
      last false true h = absurd (cc)

  module _ (uses : ℕ → Use) (unused : (n : ℕ) → in_use m n ≡ false → IsUnused uses n) where
    can_go : (d : Disk) (pre slots : List (Option File)) (n free : ℕ) → n ≡ length pre → CanAllGo (having d (pre ++ slots) free) uses (slots_going m ps n slots)
    can_go d pre [] n free e = tt
    can_go d pre (None ∷ slots) n free e =
        subst (λ (xs : List (Option File)). CanAllGo (having d xs free) uses (slots_going m ps (n + 1) slots)) (append_assoc pre (None ∷ []) slots) (can_go d (pre ++ None ∷ []) slots (n + 1) free (one_more pre None n e))
    can_go d pre (Some f ∷ slots) n free e =
        by_test (may_go m ps n f) refl (can_go d (pre ++ None ∷ []) slots (n + 1) (free + blocks_held (Some f)) (one_more pre None n e)) (can_go d (pre ++ Some f ∷ []) slots (n + 1) free (one_more pre (Some f) n e))
      where
        x : Disk
        x = having d (pre ++ Some f ∷ slots) free

        by_test : (b : Bool) → may_go m ps n f ≡ b
            → CanAllGo (having d ((pre ++ None ∷ []) ++ slots) (free + blocks_held (Some f))) uses (slots_going m ps (n + 1) slots)
            → CanAllGo (having d ((pre ++ Some f ∷ []) ++ slots) free) uses (slots_going m ps (n + 1) slots) → CanAllGo x uses (slots_going m ps n (Some f ∷ slots))
        by_test true t gone kept =
            let same : having d ((pre ++ None ∷ []) ++ slots) (free + blocks_held (Some f)) ≡ scratched x n =
            ap (λ (xs : List (Option File)). having d xs (free + blocks_held (Some f))) (append_assoc pre (None ∷ []) slots) ∙ sym (scratched_after d pre slots n free f e) in
            let can : CanGo x uses n × CanAllGo (scratched x n) uses (slots_going m ps (n + 1) slots) = (
              record {
                file = f;
                in_slot = ap (file_at x) e ∙ at_after pre slots (Some f) None;
                unused = unused n (gone_unused n f t);
              },
              subst (λ (y : Disk). CanAllGo y uses (slots_going m ps (n + 1) slots)) same gone,
            ) in
            subst (CanAllGo x uses) (sym (ap (λ (b : Bool). if b then n ∷ slots_going m ps (n + 1) slots else slots_going m ps (n + 1) slots) t)) can
        by_test false t gone kept =
            subst (CanAllGo x uses) (sym (ap (λ (b : Bool). if b then n ∷ slots_going m ps (n + 1) slots else slots_going m ps (n + 1) slots) t))
            (subst (λ (xs : List (Option File)). CanAllGo (having d xs free) uses (slots_going m ps (n + 1) slots)) (append_assoc pre (Some f ∷ []) slots) kept)

    -- each can go when its turn has come
    pub all_can_go : (slots : List ℕ) → slots ≡ slots_going m ps 0 m.disk.slots → CanAllGo m.disk uses slots
    all_can_go slots e = subst (CanAllGo m.disk uses) (sym e) (can_go m.disk [] m.disk.slots 0 m.disk.free refl)

  used_stays : (n : ℕ) (f : File) → in_use m n ≡ true → may_go m ps n f ≡ false
  used_stays n f u = ap (λ (b : Bool). list_any (λ p. is_match p f.name) ps && not f.locked && not b) u ∙ and_false (list_any (λ p. is_match p f.name) ps && not f.locked)

  kept_same : (n j : ℕ) (slots : List (Option File)) → in_use m (n + j) ≡ true → slice_index_or (kept_slots m ps n slots) j None ≡ slice_index_or slots j None
  kept_same n j [] u = refl
  kept_same n zero (None ∷ slots) u = refl
  kept_same n (suc j) (None ∷ slots) u = let e : (n + 1) + j ≡ n + suc j = omega arith in kept_same (n + 1) j slots (ap (in_use m) e ∙ u)
  kept_same n zero (Some f ∷ slots) u = let e : n ≡ n + zero = omega arith in ap (λ (b : Bool). if b then None else Some f) (used_stays n f (ap (in_use m) e ∙ u))
  kept_same n (suc j) (Some f ∷ slots) u = let e : (n + 1) + j ≡ n + suc j = omega arith in kept_same (n + 1) j slots (ap (in_use m) e ∙ u)

  -- a slot that is open stays
  pub open_stays : (slots : List ℕ) (k : ℕ) → slots ≡ slots_going m ps 0 m.disk.slots → in_use m k ≡ true → file_at (all_scratched m.disk slots) k ≡ file_at m.disk k
  open_stays slots k e u =
      let z : 0 + k ≡ k = omega arith in
      ap (λ (x : Disk). file_at x k) (ap (all_scratched m.disk) e ∙ scratched_as) ∙ kept_same 0 k m.disk.slots (ap (in_use m) z ∙ u)

still_is_used : (n : ℕ) (x : machine.Channel) → still_uses n x ≡ true → uses n x ≡ true
still_is_used n machine.Closed h = h
still_is_used n (machine.Reading None left) h = h
still_is_used n (machine.Reading (Some s) left) h = h
still_is_used n (machine.Writing s bytes blocks full replaces) h = h
still_is_used n (machine.Stopped s) h = absurd (cc)
still_is_used n (machine.Relative s k p) h = h

-- what a channel still uses is in use
pub still_in_use : (m : Machine) (k slot : ℕ) → still_uses slot (channel_in m.channels k) ≡ true → in_use m slot ≡ true
still_in_use m k slot h = by_test (in_use m slot) refl
  where
    by_test : (b : Bool) → in_use m slot ≡ b → in_use m slot ≡ true
    by_test true e = e
    by_test false e = absurd (let z = sym (none_passes (uses slot) refl m.channels k e) ∙ still_is_used slot (channel_in m.channels k) h in (cc))

-- ---- the slots of a disk that is being scratched

within : (d : Disk) (n : ℕ) (f : File) → file_at d n ≡ Some f → n < length d.slots
within d n f some = elim (cases_lt n (length d.slots)) [
  | inl h ↦ h
  | inr past ↦ absurd (let z = sym some ∙ get_or_past d.slots n None past in (cc))
]

-- the slot is empty then, and the others are as they were
scratched_here : (d : Disk) (n : ℕ) → file_at (scratched d n) n ≡ None
scratched_here d n = by_file (file_at d n) refl
  where
    by_file : (o : Option File) → file_at d n ≡ o → file_at (scratched_in (file_at d n) d n) n ≡ None
    by_file None e = rw e e
    by_file (Some f) e = ap (λ (o : Option File). file_at (scratched_in o d n) n) e ∙ get_or-set_same d.slots n None None (within d n f e)

pub scratched_else : (d : Disk) (n k : ℕ) → k ≢ n → file_at (scratched d n) k ≡ file_at d k
scratched_else d n k ne = by_file (file_at d n) refl
  where
    by_file : (o : Option File) → file_at d n ≡ o → file_at (scratched_in (file_at d n) d n) k ≡ file_at d k
    by_file None e = ap (λ (o : Option File). file_at (scratched_in o d n) k) e
    by_file (Some f) e = ap (λ (o : Option File). file_at (scratched_in o d n) k) e ∙ get_or-set_other d.slots n k None None ne

-- a slot that is empty stays so
gone_stays : (d : Disk) (ns : List ℕ) (k : ℕ) → file_at d k ≡ None → file_at (all_scratched d ns) k ≡ None
gone_stays d [] k e = e
gone_stays d (n ∷ ns) k e = elim (eqb_tells k n) [
  | inl same ↦ gone_stays (scratched d n) ns k (ap (file_at (scratched d n)) same.1 ∙ scratched_here d n)
  | inr other ↦ gone_stays (scratched d n) ns k (scratched_else d n k other.1 ∙ e)
]

-- ONE SLOT AFTER ANOTHER IS CLEARED: the medium holds a disk, each slot of which is as before or as after; those that are left can go, and
-- lead to what is after.
pub record IsClearing (t : ℕ) (c : Content) (uses : ℕ → Use) (before after : Disk) (left : List ℕ) : Type 0 where
  pub disk : Disk
  pub holds : HoldsNow t c disk uses
  pub can : CanAllGo disk uses left
  pub leads : all_scratched disk left ≡ after
  pub slots : (k : ℕ) → (file_at disk k ≡ file_at before k) ⊎ (file_at disk k ≡ file_at after k)
  pub total : disk.total ≡ before.total

pub clearing_first : (t : ℕ) (c : Content) (uses : ℕ → Use) (d : Disk) (all : List ℕ) → HoldsNow t c d uses → CanAllGo d uses all → IsClearing t c uses d (all_scratched d all) all
clearing_first t c uses d all holds can = record { disk = d; holds = holds; can = can; leads = refl; slots = λ k. inl refl; total = refl }

module _ (t : ℕ) (c c' : Content) (uses : ℕ → Use) (before after : Disk) (n : ℕ) (left : List ℕ) (h : IsClearing t c uses before after (n ∷ left)) where
  now_gone : (k : ℕ) → (file_at (scratched h.disk n) k ≡ file_at before k) ⊎ (file_at (scratched h.disk n) k ≡ file_at after k)
  now_gone k = elim (eqb_tells k n) [
    | inl same ↦ inr (
        let here : file_at (scratched h.disk n) k ≡ None = ap (file_at (scratched h.disk n)) same.1 ∙ scratched_here h.disk n in
        here ∙ sym (sym (ap (λ (x : Disk). file_at x k) h.leads) ∙ gone_stays (scratched h.disk n) left k here))
    | inr other ↦ elim (h.slots k) [ inl e ↦ inl (scratched_else h.disk n k other.1 ∙ e) | inr e ↦ inr (scratched_else h.disk n k other.1 ∙ e) ]
  ]

  -- one more
  pub clearing_next : (t' : ℕ) → t' ≡ t → ((d : Disk) (us : ℕ → Use) (f : File) → HoldsNow t' c d us → file_at d n ≡ Some f → IsUnused us n → HoldsNow t' c' (scratched d n) us)
      → IsClearing t c' uses before after left
  clearing_next t' e step =
      let holds = step h.disk uses h.can.0.file (subst (λ (x : ℕ). HoldsNow x c h.disk uses) (sym e) h.holds) h.can.0.in_slot h.can.0.unused in
      record { disk = scratched h.disk n; holds = subst (λ (x : ℕ). HoldsNow x c' (scratched h.disk n) uses) e holds; can = h.can.1; leads = h.leads; slots = now_gone; total = scratched_total (file_at h.disk n) h.disk n ∙ h.total }

  either_then : Stopped t c' h.disk (scratched h.disk n) uses → Stopped t c' before after uses
  either_then s = record {
    disk = s.disk;
    holds = s.holds;
    either = λ k. elim (s.either k) [
      | inl e ↦ elim (h.slots k) [ inl x ↦ inl (e ∙ ap known x) | inr x ↦ inr (e ∙ ap known x) ]
      | inr e ↦ elim (now_gone k) [ inl x ↦ inl (e ∙ ap known x) | inr x ↦ inr (e ∙ ap known x) ]
    ];
    total = s.total ∙ h.total;
  }

  -- or a write was refused
  pub clearing_stopped : (t' : ℕ) → t' ≡ t
      → ((d : Disk) (us : ℕ → Use) (f : File) → HoldsNow t' c d us → file_at d n ≡ Some f → IsUnused us n → Stopped t' c' d (scratched d n) us) → Stopped t c' before after uses
  clearing_stopped t' e step =
      let stop = step h.disk uses h.can.0.file (subst (λ (x : ℕ). HoldsNow x c h.disk uses) (sym e) h.holds) h.can.0.in_slot h.can.0.unused in
      either_then (subst (λ (x : ℕ). Stopped x c' h.disk (scratched h.disk n) uses) e stop)

  -- for this reason
  pub clearing_hindered : (t' : ℕ) (why : Type 0) → t' ≡ t → ((d : Disk) (us : ℕ → Use) (f : File) → HoldsNow t' c d us → file_at d n ≡ Some f → IsUnused us n → why) → why
  clearing_hindered t' why e step = step h.disk uses h.can.0.file (subst (λ (x : ℕ). HoldsNow x c h.disk uses) (sym e) h.holds) h.can.0.in_slot h.can.0.unused

-- the next of those that are left
pub next_left : (t : ℕ) (c : Content) (uses : ℕ → Use) (before after : Disk) (all : List ℕ) (i : ℕ) → i < length all → IsClearing t c uses before after (drop i all)
    → IsClearing t c uses before after (slice_index_or all i 0 ∷ drop (i + 1) all)
next_left t c us before after all i more h = subst (IsClearing t c us before after) (at_drop_more (λ (xs : List ℕ). xs) all i 0 more) h

-- none is left
pub clearing_done : (t : ℕ) (c : Content) (uses : ℕ → Use) (before after : Disk) (all : List ℕ) (i : ℕ) → length all ≤ i → IsClearing t c uses before after (drop i all) → HoldsNow t c after uses
clearing_done t c uses before after all i over h =
    subst (λ (x : Disk). HoldsNow t c x uses) (sym (ap (all_scratched h.disk) (drop_all i all over)) ∙ h.leads) h.holds

-- ---- on the way through the directory

-- The numbers so far, and those of the entries that are left, are those of all entries.
pub record Gathers (chs : List Channel) (ps : List (List ℕ)) (all left : Listed) (most n : ℕ) (items : List ℕ) : Type 0 where
  pub numbers : items ++ entries_going chs ps n left.entries ≡ entries_going chs ps 0 all.entries
  pub trouble : left.trouble ≡ all.trouble
  pub count : n + most ≡ 144
  pub room : length items ≤ n

pub gathers_first : (chs : List Channel) (ps : List (List ℕ)) (all left : Listed) (most : ℕ) → left ≡ all → most ≡ 144 → Gathers chs ps all left most 0 []
gathers_first chs ps all left most e n = record {
  numbers = ap (λ (x : Listed). entries_going chs ps 0 x.entries) e;
  trouble = ap (λ (x : Listed). x.trouble) e;
  count = omega (arith, n);
  room = omega arith;
}

module _ (chs : List Channel) (ps : List (List ℕ)) (all left next : Listed) (most less n : ℕ) (items : List ℕ) (entry : List ℕ) (e : left ≡ listed_after (entry ∷ []) next) (fewer : less + 1 ≡ most)
    (h : Gathers chs ps all left most n items) where
  -- an entry may go
  pub gathers_on : entry_may_go chs ps n entry ≡ true → Gathers chs ps all next less (n + 1) (items ++ n ∷ [])
  gathers_on goes = record {
    numbers =
        append_assoc items (n ∷ []) (entries_going chs ps (n + 1) next.entries)
        ∙ ap (λ (xs : List ℕ). items ++ xs) (sym (ap (λ (b : Bool). if b then n ∷ entries_going chs ps (n + 1) next.entries else entries_going chs ps (n + 1) next.entries) goes))
        ∙ sym (ap (λ (x : Listed). items ++ entries_going chs ps n x.entries) e) ∙ h.numbers;
    trouble = sym (ap (λ (x : Listed). x.trouble) e) ∙ h.trouble;
    count = omega (arith, h.count, fewer);
    room = omega (arith, h.room, length-append items (n ∷ []));
  }

  -- or stays
  pub gathers_past : entry_may_go chs ps n entry ≡ false → Gathers chs ps all next less (n + 1) items
  gathers_past stays = record {
    numbers =
        ap (λ (xs : List ℕ). items ++ xs) (sym (ap (λ (b : Bool). if b then n ∷ entries_going chs ps (n + 1) next.entries else entries_going chs ps (n + 1) next.entries) stays))
        ∙ sym (ap (λ (x : Listed). items ++ entries_going chs ps n x.entries) e) ∙ h.numbers;
    trouble = sym (ap (λ (x : Listed). x.trouble) e) ∙ h.trouble;
    count = omega (arith, h.count, fewer);
    room = omega (arith, h.room);
  }

-- all entries were met
pub gathered_all : (chs : List Channel) (ps : List (List ℕ)) (all left : Listed) (most n : ℕ) (items : List ℕ) → Gathers chs ps all left most n items → left ≡ record { entries = []; trouble = None } → items ≡ entries_going chs ps 0 all.entries
gathered_all chs ps all left most n items h none = sym (append-nil items) ∙ sym (ap (λ (x : Listed). items ++ entries_going chs ps n x.entries) none) ∙ h.numbers

-- a sound disk's directory doesn't break off
pub never_broken : (chs : List Channel) (ps : List (List ℕ)) (d : Disk) (all left : Listed) (most n : ℕ) (items : List ℕ) (trouble : Trouble) → TellsOf d all → Gathers chs ps all left most n items
    → left ≡ record { entries = []; trouble = Some trouble } → ⊥
never_broken chs ps d all left most n items trouble t h e = let bad = sym t.whole ∙ sym h.trouble ∙ ap (λ (x : Listed). x.trouble) e in absurd (cc)
