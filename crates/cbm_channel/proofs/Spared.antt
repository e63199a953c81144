-- The rest of a disk stays over a call of the DOS: which slots a channel, CLOSE and a command spare.
use Rattle.std.proofs.Common.{◌≡◌, ℕ, zero, suc, ◌+◌, ◌<◌, Bool, true, false, List, [], ◌∷◌, length, refl, sym, ap, ◌∙◌, subst, arith}
use Rattle.std.specs.Prelude.{◌==◌, ◌||◌, ◌&&◌, if◌then◌else◌, slice_index_or, slice_set, Option, Some, None, Result, Ok, Err}
use Rattle.std.specs.List.{list_any}
use Rattle.cbm_medium.specs.Content.{Content}
use Rattle.cbm_medium.specs.Seen.{Seen}
use Rattle.cbm_file.specs.Files.{File}
use Rattle.cbm_command.specs.declared.command.Command.{Command}
use Rattle.cbm_command.specs.declared.command.Command.TheVariants.{New, Scratch, Rename, Copy, Validate, Initialize, Position}
use Rattle.cbm_command.specs.declared.refusal.Refusal.{Refusal}
use Rattle.cbm_command.specs.Commands.{command_of}
use Rattle.cbm_volume.specs.Staying.{StaysInPlace}
use Rattle.cbm_volume.specs.Writers.{Filling}
use Rattle.cbm_machine.specs.Machines.{Machine}
use Rattle.cbm_machine.specs.Running.{may_go}
use Rattle.cbm_machine.specs.Closing.{without_text}
use Rattle.cbm_machine.specs.Calls.{without_return}
use Rattle.cbm_channel.specs.declared.channel.Channel.{Channel}
use Rattle.cbm_channel.specs.declared.channel.Channel.TheVariants as code
use Rattle.cbm_channel.specs.ChannelCalls.{KeepsRest, KeepsSlot}
use Rattle.cbm_channel.specs.Commanded.{is_slot_among, slots_going, cleared_by, read_clears, text_clears, end_clears}
use Rattle.cbm_channel.specs.Opening.{changed_by_open}
use Rattle.cbm_channel.specs.Parts.{closed_by, changed_by_end}
use Rattle.cbm_channel.specs.Shown.{finishes_on, finished_by, records_on, with_records_by, appends_on, appended_by}
use Rattle.cbm_channel.specs.Standing.{Kept}
use Rattle.cbm_channel.proofs.Changed.{set_now}
use Rattle.cbm_channel.proofs.Stands.{borrowed_at}
use Rattle.cbm_channel.proofs.Rest.{turned_free, stays_more, rest_more}

-- ---- the slots

pub either_false : (a b : Bool) → (a || b) ≡ false → (a ≡ false) × (b ≡ false)
either_false true b h = absurd (cc)
either_false false b h = (refl, h)

pub never_both : (a b : Bool) → a ≡ false → (a && b) ≡ true → ⊥
never_both true b e h = absurd (cc)
never_both false b e h = absurd (cc)

-- on no channel a file is written in the slot
pub none_writes : (n : ℕ) (xs : List Channel) (k : ℕ) → list_any (finishes_on n) xs ≡ false → finishes_on n (slice_index_or xs k code.Closed) ≡ false
none_writes n [] k h = refl
none_writes n (x ∷ xs) zero h = (either_false (finishes_on n x) (list_any (finishes_on n) xs) h).0
none_writes n (x ∷ xs) (suc k) h = none_writes n xs k (either_false (finishes_on n x) (list_any (finishes_on n) xs) h).1

-- it is none of these
pub not_among : (ns : List ℕ) (i n : ℕ) → i < length ns → is_slot_among ns n ≡ false → (n == slice_index_or ns i 0) ≡ false
not_among [] i n lt h = absurd (omega (arith, lt))
not_among (k ∷ ns) zero n lt h = turned_free n k (either_false (k == n) (is_slot_among ns n) h).0
not_among (k ∷ ns) (suc i) n lt h = not_among ns i n (omega (arith, lt)) (either_false (k == n) (is_slot_among ns n) h).1

-- ---- a channel

-- the file that it writes is finished
pub finish_rest : (old new : Seen) (k : Channel) (w : Filling) (full : Bool) → k ≡ code.Writing w full → KeepsRest old new (λ m. m == w.slot) → KeepsRest old new (λ n. finishes_on n k)
finish_rest old new k w full is h = rest_more (λ m. m == w.slot) old new (λ n free. turned_free n w.slot (sym (ap (λ (y : Channel). finishes_on n y) is) ∙ free)) h

-- the channel as the caller knows it
pub rest_on : (test : ℕ → Channel → Bool) (old new : Seen) (x y : Channel) → x ≡ y → KeepsRest old new (λ n. test n x) → KeepsRest old new (λ n. test n y)
rest_on test old new x y e h = subst (λ (z : Channel). KeepsRest old new (λ n. test n z)) e h

-- ---- CLOSE

pub closed_rest : {M : Type 0} (ch : ℕ) (k : Kept M) (old new : Seen) → (ch == 15) ≡ false → KeepsRest old new (finished_by ch k) → KeepsRest old new (closed_by ch k)
closed_rest ch k old new e h = rest_more (finished_by ch k) old new (λ n free. sym (ap (λ (b : Bool). if b then list_any (finishes_on n) k.channels else finished_by ch k n) e) ∙ free) h

pub all_closed_rest : {M : Type 0} (ch : ℕ) (k : Kept M) (old new : Seen) → ch ≡ 15 → KeepsRest old new (closed_by 15 k) → KeepsRest old new (closed_by ch k)
all_closed_rest ch k old new e h = subst (λ (c : ℕ). KeepsRest old new (closed_by c k)) (sym e) h

-- the channel that is closed next has the slot open that it had at first
pub next_free : {M : Type 0} (k now : Kept M) (ch n : ℕ) → slice_index_or now.channels ch code.Closed ≡ slice_index_or k.channels ch code.Closed → closed_by 15 k n ≡ false → finished_by ch now n ≡ false
next_free k now ch n same free = ap (λ (y : Channel). finishes_on n y) same ∙ none_writes n k.channels ch free

-- ---- S

-- the text that is gathered tells nothing of them
going_text : (ch : ℕ) (m : Machine) (ps : List (List ℕ)) (n : ℕ) (slots : List (Option File)) → slots_going (without_text ch m) ps n slots ≡ slots_going m ps n slots
going_text ch m ps n [] = refl
going_text ch m ps n (None ∷ slots) = going_text ch m ps (n + 1) slots
going_text ch m ps n (Some f ∷ slots) = λ i. if may_go m ps n f then n ∷ going_text ch m ps (n + 1) slots i else going_text ch m ps (n + 1) slots i

cleared_text : (ch : ℕ) (m : Machine) (command : Command) (n : ℕ) → cleared_by command (without_text ch m) n ≡ cleared_by command m n
cleared_text ch m (New name id) n = refl
cleared_text ch m (Scratch ps) n = ap (λ (ns : List ℕ). is_slot_among ns n) (going_text ch m ps 0 m.disk.slots)
cleared_text ch m (Rename new old) n = refl
cleared_text ch m (Copy new olds) n = refl
cleared_text ch m Validate n = refl
cleared_text ch m Initialize n = refl
cleared_text ch m (Position c k p) n = refl

clears_text : (ch : ℕ) (m : Machine) (r : Result Command Refusal) (n : ℕ) → read_clears r (without_text ch m) n ≡ read_clears r m n
clears_text ch m (Ok command) n = cleared_text ch m command n
clears_text ch m (Err e) n = refl

-- ---- the end of what is put

-- a command, for which its text was taken
pub ended_rest : {M : Type 0} (ch : ℕ) (k : Kept M) (t : ℕ × List ℕ) (m : Machine) (old new : Seen) → ch ≡ 15 → k.text ≡ Some t → (t.0 == 15) ≡ true → KeepsRest old new (text_clears t.1 (without_text ch m)) → KeepsRest old new (changed_by_end ch k m)
ended_rest ch k t m old new fifteen is number h = rest_more (text_clears t.1 (without_text ch m)) old new (λ n free.
    let of_text : end_clears k.text m n ≡ false = sym (ap (λ (c : ℕ). if c == 15 then end_clears k.text m n else with_records_by ch k n) fifteen) ∙ free in
    let kept : text_clears t.1 m n ≡ false = sym (ap (λ (b : Bool). b && text_clears t.1 m n) number) ∙ sym (ap (λ (o : Option (ℕ × List ℕ)). end_clears o m n) is) ∙ of_text in
    clears_text ch m (command_of (without_return t.1)) n ∙ kept) h

-- a text for records
pub records_rest : {M : Type 0} (ch : ℕ) (k now : Kept M) (m : Machine) (old new : Seen) → (ch == 15) ≡ false → now.channels ≡ k.channels → KeepsRest old new (with_records_by ch now) → KeepsRest old new (changed_by_end ch k m)
records_rest ch k now m old new other same h = rest_more (with_records_by ch now) old new (λ n free.
    ap (λ (xs : List Channel). records_on n (slice_index_or xs ch code.Closed)) same ∙ sym (ap (λ (b : Bool). if b then end_clears k.text m n else with_records_by ch k n) other) ∙ free) h

-- ---- OPEN

-- bytes are appended to the file of a slot
pub append_stays : (tracks : ℕ) (c c' : Content) (slot : ℕ) (w : Filling) → w.slot ≡ slot → w.replaces ≡ false → StaysInPlace tracks c c' (λ m. m == slot) → StaysInPlace tracks c c' (λ n. appends_on n (code.Writing w false))
append_stays tracks c c' slot w same way h = stays_more tracks c c' (λ m. m == slot) (λ n. appends_on n (code.Writing w false)) (λ n free.
    let other : (w.slot == n) ≡ false = sym (ap (λ (b : Bool). if b then false else w.slot == n) way) ∙ free in
    turned_free n slot (ap (λ (k : ℕ). k == n) (sym same) ∙ other)) h

-- a command
pub open_command_rest : {M : Type 0} (ch : ℕ) (text : List ℕ) (k k' : Kept M) (m : Machine) (old new : Seen) → (ch == 15) ≡ true → KeepsRest old new (text_clears text m) → KeepsRest old new (changed_by_open ch text k k' m)
open_command_rest ch text k k' m old new fifteen h = rest_more (text_clears text m) old new (λ n free. sym (ap (λ (b : Bool). if b then text_clears text m n else finished_by ch k n || appended_by ch k' n) fifteen) ∙ free) h

-- on another channel it had the slot not open for writing, and won't append to its file
pub open_free : {M : Type 0} (ch : ℕ) (text : List ℕ) (k k' : Kept M) (m : Machine) (n : ℕ) → (ch == 15) ≡ false → changed_by_open ch text k k' m n ≡ false → (finished_by ch k n ≡ false) × (appended_by ch k' n ≡ false)
open_free ch text k k' m n other free = either_false (finished_by ch k n) (appended_by ch k' n) (sym (ap (λ (b : Bool). if b then text_clears text m n else finished_by ch k n || appended_by ch k' n) other) ∙ free)

-- ---- a byte that is put

-- the channel that is set writes the file of no other slot
pub slot_kept : (ch : ℕ) (before after xs : List Channel) (d x : Channel) → xs ≡ before → ch < length xs → after ≡ slice_set xs ch x → KeepsSlot (slice_index_or xs ch d) x → (n : ℕ) → finishes_on n (slice_index_or before ch code.Closed) ≡ false → finishes_on n (slice_index_or after ch code.Closed) ≡ false
slot_kept ch before after xs d x same lt is keeps n free =
    ap (λ (y : Channel). finishes_on n y) (set_now xs after ch x is lt) ∙ keeps n (ap (λ (y : Channel). finishes_on n y) (borrowed_at ch d same lt) ∙ free)
