-- What a text can ask for: a name ends before its first filler, and OPEN means no deleted file.
use Rattle.std.proofs.Common.{◌≡◌, ℕ, zero, suc, ◌+◌, ◌*◌, ◌≤◌, arith, Bool, true, false, List, [], ◌∷◌, take, refl, ap, subst}
use Rattle.std.specs.Prelude.{◌==◌, nat_lt, max, slice_index_or, ◌&&◌, ◌||◌, not, length, is_some, if◌then◌else◌, Option, Some, None, Result, Ok, Err, IfOk}
use Rattle.cbm_file.specs.declared.file_type.FileType.{FileType}
use Rattle.cbm_file.specs.declared.file_type.FileType.TheVariants.{Del, Seq, Prg}
use Rattle.cbm_file.specs.Types.{is_same_type}
use Rattle.cbm_file.specs.Padding.{before_filler}
use Rattle.cbm_command.specs.declared.refusal.Refusal.{Refusal}
use Rattle.cbm_command.specs.declared.refusal.Refusal.TheVariants.{Syntax, LongText, NoName, WildName, UnknownCommand}
use Rattle.cbm_command.specs.declared.command.Command.{Command}
use Rattle.cbm_command.specs.declared.command.Command.TheVariants.{New, Scratch, Rename, Copy, Validate, Initialize, Position}
use Rattle.cbm_command.specs.Commands.{command_head, later_name, later_names, names_in, new_asked, scratch_asked, rename_asked, copy_asked, after_the_head, position_asked, by_letter, command_in, command_of}
use Rattle.cbm_command.specs.declared.opening.Mode.{Mode}
use Rattle.cbm_command.specs.declared.opening.Mode.TheVariants.{Read, Write, Append}
use Rattle.cbm_command.specs.declared.opening.Wanted.{Wanted}
use Rattle.cbm_command.specs.declared.opening.Opening.{Opening}
use Rattle.cbm_command.specs.declared.opening.Opening.TheVariants as opening
use Rattle.cbm_command.specs.Texts.{comma, colon, equals, before_byte, after_byte, holds_byte, parts_at}
use Rattle.cbm_command.specs.Names.{name_of, is_empty, is_wild, filler, asterisk}
use Rattle.cbm_command.specs.Refusals.{◌>>=◌, unless, drive_head}
use Rattle.std.specs.List.{list_any}
use Rattle.cbm_command.specs.Openings.{set_mode, with_piece, with_pieces, is_length_piece, first_byte, by_channel, default_kind, or_default, is_named_whole, file_named, plain_file, file_asked, at_in_head, headed_file, pattern_asked, listing_asked, by_first, opening_of}

-- the type of a deleted file is meant
abbrev pub means_deleted : Option FileType → Bool
means_deleted None = false
means_deleted (Some k) = is_same_type Del k

abbrev IsAskable : Wanted → Type 0
IsAskable w = (before_filler w.name ≡ w.name) × (means_deleted w.kind ≡ false)

abbrev CanBeAsked : Opening → Type 0
CanBeAsked (opening.Listing pattern) = Unit {0}
CanBeAsked (opening.File w) = IsAskable w

-- ---- what follows where nothing was refused

bound : {A B : Type 0} (P : A → Type 0) (Q : B → Type 0) (r : Result A Refusal) (f : A → Result B Refusal) → IfOk r P → ((x : A) → P x → IfOk (f x) Q) → IfOk (r >>= f) Q
bound P Q (Ok x) f h more = more x h
bound P Q (Err e) f h more = tt

chosen : {A : Type 0} (P : A → Type 0) (b : Bool) (x y : A) → P x → P y → P (if b then x else y)
chosen P true x y p q = p
chosen P false x y p q = q

always : {A : Type 0} (r : Result A Refusal) → IfOk r (λ x. Unit {0})
always (Ok x) = tt
always (Err e) = tt

-- ---- the name

cut : (n : ℕ) (text : List ℕ) → before_filler (take n (before_byte filler text)) ≡ take n (before_byte filler text)
cut zero text = refl
cut (suc n) [] = refl
cut (suc n) (x ∷ text) = by_test (x == 160) refl (cut n text)
  where
    by_test : (b : Bool) → (x == 160) ≡ b → before_filler (take n (before_byte filler text)) ≡ take n (before_byte filler text)
        → before_filler (take (suc n) (before_byte filler (x ∷ text))) ≡ take (suc n) (before_byte filler (x ∷ text))
    by_test true t more = rw t refl
    by_test false t more = rw t (rw t (ap (λ xs. x ∷ xs) more))

-- ---- the pieces

abbrev Answers : Result Wanted Refusal → Type 0
Answers r = IfOk r IsAskable

abbrev Opens : Result Opening Refusal → Type 0
Opens r = IfOk r CanBeAsked

piece_asked : (p : List ℕ) (w : Wanted) → IsAskable w → Answers (with_piece p w)
piece_asked [] w h = tt
piece_asked (c ∷ rest) w h =
    chosen Answers (c == 80) _ _ (h.0, refl)
    (chosen Answers (c == 83) _ _ (h.0, refl)
    (chosen Answers (c == 85) _ _ (h.0, refl)
    (chosen Answers (c == 76) _ _ (h.0, refl)
    (chosen Answers (c == 82) _ _ h
    (chosen Answers (c == 77) _ _ h
    (chosen Answers (c == 87) _ _ h
    (chosen Answers (c == 65) _ _ h tt)))))))

pieces_asked : (ps : List (List ℕ)) (w : Wanted) → IsAskable w → Answers (with_pieces ps w)
pieces_asked [] w h = h
pieces_asked (p ∷ ps) w h =
    bound IsAskable IsAskable (with_piece p w) (λ v. if is_length_piece p then Ok (record v { record_length = first_byte ps }) else with_pieces ps v) (piece_asked p w h)
    (λ v x. chosen Answers (is_length_piece p) (Ok (record v { record_length = first_byte ps })) (with_pieces ps v) x (pieces_asked ps v x))

default_kept : (ch : ℕ) (mode : Mode) → means_deleted (default_kind ch mode) ≡ false
default_kept ch Write = chosen (λ k. means_deleted (Some k) ≡ false) (ch == 1) Prg Seq refl refl
default_kept ch Read = chosen (λ k. means_deleted k ≡ false) (ch == 0) (Some Prg) None refl refl
default_kept ch Append = chosen (λ k. means_deleted k ≡ false) (ch == 0) (Some Prg) None refl refl

channel_asked : (ch : ℕ) (w : Wanted) → IsAskable w → IsAskable (by_channel ch w)
channel_asked ch w h = chosen IsAskable (ch == 0) (set_mode Read w) (if ch == 1 then set_mode Write w else w) h (chosen IsAskable (ch == 1) (set_mode Write w) w h h)

default_asked : (ch : ℕ) (w : Wanted) → IsAskable w → IsAskable (or_default ch w)
default_asked ch w h = chosen IsAskable (is_some w.kind) w (record w { kind = default_kind ch w.mode }) h (h.0, default_kept ch w.mode)

-- ---- the text

file_opens : (w : Wanted) → IsAskable w → Opens (file_named w)
file_opens w h = chosen Opens (is_named_whole w && is_wild w.name) _ _ tt h

asked_opens : (ch : ℕ) (at : Bool) (text : List ℕ) → Opens (file_asked ch at text)
asked_opens ch at text =
    let name = name_of (before_byte comma text) in
    let all : IsAskable (plain_file at name) = (cut 16 (before_byte comma text), refl) in
    chosen Opens (is_empty name) _ _ tt
    (bound IsAskable CanBeAsked (if holds_byte comma text then with_pieces (parts_at comma (after_byte comma text)) (plain_file at name) else Ok (plain_file at name))
    (λ w. file_named (or_default ch (by_channel ch w)))
    (chosen Answers (holds_byte comma text) (with_pieces (parts_at comma (after_byte comma text)) (plain_file at name)) (Ok (plain_file at name))
    (pieces_asked (parts_at comma (after_byte comma text)) (plain_file at name) all) all)
    (λ w x. file_opens (or_default ch (by_channel ch w)) (default_asked ch (by_channel ch w) (channel_asked ch w x))))

headed_opens : (ch : ℕ) (text : List ℕ) → Opens (headed_file ch text)
headed_opens ch text =
    chosen Opens (holds_byte colon (before_byte comma text)) _ _
    (bound (λ at. Unit {0}) CanBeAsked (at_in_head (before_byte colon text)) (λ at. file_asked ch at (after_byte colon text)) (always (at_in_head (before_byte colon text))) (λ at x. asked_opens ch at (after_byte colon text)))
    (asked_opens ch false text)

pattern_opens : (text : List ℕ) → Opens (pattern_asked text)
pattern_opens text =
    chosen Opens (is_empty (name_of (before_byte comma text))) _ _ tt
    (chosen Opens (holds_byte comma text || holds_byte equals text) _ _ tt tt)

listing_opens : (text : List ℕ) → Opens (listing_asked text)
listing_opens text =
    bound (λ x. Unit {0}) CanBeAsked (drive_head (before_byte colon text)) (λ x. if holds_byte colon text then pattern_asked (after_byte colon text) else Ok (opening.Listing (asterisk ∷ []))) (always (drive_head (before_byte colon text)))
    (λ x y. chosen Opens (holds_byte colon text) (pattern_asked (after_byte colon text)) (Ok (opening.Listing (asterisk ∷ []))) (pattern_opens (after_byte colon text)) tt)

first_opens : (ch : ℕ) (text : List ℕ) → Opens (by_first ch text)
first_opens ch [] = tt
first_opens ch (c ∷ text) =
    chosen Opens (c == 35) _ _ tt
    (chosen Opens (c == 36) _ _ (chosen Opens (ch == 0) (listing_asked text) (Err Syntax) (listing_opens text) tt) (headed_opens ch (c ∷ text)))

text_opens : (ch : ℕ) (text : List ℕ) → Opens (opening_of ch text)
text_opens ch text = chosen Opens (nat_lt 58 (length text)) (Err LongText) (by_first ch text) tt (first_opens ch text)

module _ (ch : ℕ) (text : List ℕ) (w : Wanted) (is : opening_of ch text ≡ Ok (opening.File w)) where
  -- the name ends before its first filler
  pub name_cut : before_filler w.name ≡ w.name
  name_cut = (subst Opens is (text_opens ch text)).0

  -- a file that isn't deleted is meant
  pub kind_kept : means_deleted w.kind ≡ false
  kind_kept = (subst Opens is (text_opens ch text)).1

-- ---- the text of a command

-- the new name of R or C ends before its first filler, and P names a record and a byte from 1 on
abbrev IsCutName : Command → Type 0
IsCutName (Rename new old) = before_filler new ≡ new
IsCutName (New name id) = Unit {0}
IsCutName (Scratch ps) = Unit {0}
IsCutName (Copy new olds) = before_filler new ≡ new
IsCutName Validate = Unit {0}
IsCutName Initialize = Unit {0}
IsCutName (Position ch k p) = (1 ≤ k) × (1 ≤ p)

abbrev Cuts : Result Command Refusal → Type 0
Cuts r = IfOk r IsCutName

new_cuts : (text : List ℕ) → Cuts (new_asked text)
new_cuts text =
    chosen Cuts (is_empty (name_of (before_byte comma text))) _ _ tt
    (chosen Cuts (is_wild (name_of (before_byte comma text))) _ _ tt (chosen Cuts (holds_byte comma text && nat_lt (length (after_byte comma text)) 2) _ _ tt tt))

scratch_cuts : (text : List ℕ) → Cuts (scratch_asked text)
scratch_cuts text =
    bound (λ x. Unit {0}) IsCutName (names_in (parts_at comma text)) (λ ps. unless ((list_any is_empty ps, NoName) ∷ []) (Ok (Scratch ps))) (always (names_in (parts_at comma text)))
    (λ ps x. chosen Cuts (list_any is_empty ps) (Err NoName) (Ok (Scratch ps)) tt tt)

rename_cuts : (text : List ℕ) → Cuts (rename_asked text)
rename_cuts text =
    let new = name_of (before_byte equals text) in
    bound (λ x. Unit {0}) IsCutName (later_name (after_byte equals text))
    (λ old. unless ((not (holds_byte equals text) || is_empty new || is_empty old, NoName) ∷ (is_wild new || is_wild old, WildName) ∷ []) (Ok (Rename new old))) (always (later_name (after_byte equals text)))
    (λ old x. chosen Cuts (not (holds_byte equals text) || is_empty new || is_empty old) _ _ tt (chosen Cuts (is_wild new || is_wild old) (Err WildName) (Ok (Rename new old)) tt (cut 16 (before_byte equals text))))

copy_cuts : (text : List ℕ) → Cuts (copy_asked text)
copy_cuts text =
    let new = name_of (before_byte equals text) in
    bound (λ x. Unit {0}) IsCutName (later_names (parts_at comma (after_byte equals text)))
    (λ olds. unless ((not (holds_byte equals text) || is_empty new || list_any is_empty olds, NoName) ∷ (is_wild new || list_any is_wild olds, WildName) ∷ (nat_lt 4 (length olds), Syntax) ∷ []) (Ok (Copy new olds)))
    (always (later_names (parts_at comma (after_byte equals text))))
    (λ olds x. chosen Cuts (not (holds_byte equals text) || is_empty new || list_any is_empty olds) _ _ tt
    (chosen Cuts (is_wild new || list_any is_wild olds) _ _ tt (chosen Cuts (nat_lt 4 (length olds)) (Err Syntax) (Ok (Copy new olds)) tt (cut 16 (before_byte equals text)))))

some_max : (n : ℕ) → 1 ≤ max 1 n
some_max n = omega arith

position_cuts : (text : List ℕ) → Cuts (position_asked text)
position_cuts [] = tt
position_cuts (a ∷ []) = tt
position_cuts (a ∷ b ∷ []) = tt
position_cuts (a ∷ b ∷ c ∷ text) = (some_max (b + 256 * c), some_max (slice_index_or text 0 0))

headed_cuts : (text : List ℕ) (f : List ℕ → Result Command Refusal) → ((rest : List ℕ) → Cuts (f rest)) → Cuts (after_the_head text >>= f)
headed_cuts text f h = bound (λ x. Unit {0}) IsCutName (after_the_head text) f (always (after_the_head text)) (λ rest x. h rest)

plain_cuts : (text : List ℕ) (x : Command) → IsCutName x → Cuts (command_head (before_byte colon text) >>= λ _. Ok x)
plain_cuts text x h = bound (λ y. Unit {0}) IsCutName (command_head (before_byte colon text)) (λ y. Ok x) (always (command_head (before_byte colon text))) (λ y z. h)

letter_cuts : (c : ℕ) (text : List ℕ) → Cuts (by_letter c text)
letter_cuts c text =
    chosen Cuts (c == 78) _ _ (headed_cuts text new_asked new_cuts)
    (chosen Cuts (c == 83) _ _ (headed_cuts text scratch_asked scratch_cuts)
    (chosen Cuts (c == 82) _ _ (headed_cuts text rename_asked rename_cuts)
    (chosen Cuts (c == 67) _ _ (headed_cuts text copy_asked copy_cuts)
    (chosen Cuts (c == 86) _ _ (plain_cuts text Validate tt)
    (chosen Cuts (c == 73) _ _ (plain_cuts text Initialize tt)
    (chosen Cuts (c == 80) (position_asked text) (Err UnknownCommand) (position_cuts text) tt))))))

command_cuts : (text : List ℕ) → Cuts (command_in text)
command_cuts [] = tt
command_cuts (c ∷ text) = letter_cuts c text

pub new_name_cut : (text new old : List ℕ) → command_of text ≡ Ok (Rename new old) → before_filler new ≡ new
new_name_cut text new old is = subst Cuts is (chosen Cuts (nat_lt 58 (length text)) (Err LongText) (command_in text) tt (command_cuts text))

pub copy_name_cut : (text new : List ℕ) (olds : List (List ℕ)) → command_of text ≡ Ok (Copy new olds) → before_filler new ≡ new
copy_name_cut text new olds is = subst Cuts is (chosen Cuts (nat_lt 58 (length text)) (Err LongText) (command_in text) tt (command_cuts text))

-- P names a record and a byte from 1 on
pub place_some : (text : List ℕ) (ch k p : ℕ) → command_of text ≡ Ok (Position ch k p) → (1 ≤ k) × (1 ≤ p)
place_some text ch k p is = subst Cuts is (chosen Cuts (nat_lt 58 (length text)) (Err LongText) (command_in text) tt (command_cuts text))
