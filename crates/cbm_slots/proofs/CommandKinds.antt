-- The commands that slots are changed by aren't NEW.
use Rattle.std.proofs.Common.{◌≡◌, ℕ, Bool, true, false, List, [], ◌∷◌, refl, ◌∙◌}
use Rattle.std.specs.Prelude.{Result, Ok, Err, if◌then◌else◌, nat_lt, length, not, ◌||◌, slice_index}
use Rattle.std.specs.List.{list_any}
use Rattle.cbm_command.specs.declared.command.Command.{Command}
use Rattle.cbm_command.specs.declared.command.Command.TheVariants.{Scratch, Copy}
use Rattle.cbm_command.specs.declared.refusal.Refusal.{Refusal}
use Rattle.cbm_command.specs.declared.refusal.Refusal.TheVariants.{NoName, WildName, Syntax, LongText}
use Rattle.cbm_command.specs.Texts.{comma, equals, before_byte, after_byte, holds_byte, parts_at}
use Rattle.cbm_command.specs.Names.{name_of, is_empty, is_wild}
use Rattle.cbm_command.specs.Refusals.{◌>>=◌, unless}
use Rattle.cbm_command.specs.Commands.{after_the_head, names_in, later_names, scratch_asked, copy_asked, command_of}
use Rattle.cbm_channel.specs.Commanded.{formats, text_formats, open_formats}
use Rattle.cbm_machine.specs.Calls.{without_return}
use Rattle.cbm_slots.specs.InSlots.{scratch_text, copy_text}

-- what was asked for is NEW
is_new : Result Command Refusal → Bool
is_new (Ok command) = formats command
is_new (Err e) = false

-- nor is a refusal
or_refused : (b : Bool) (r : Result Command Refusal) (e : Refusal) → is_new r ≡ false → is_new (if b then Err e else r) ≡ false
unfolding is_new
or_refused true r e h = refl
or_refused false r e h = h

after_unless : (cases : List (Bool × Refusal)) (r : Result Command Refusal) → is_new r ≡ false → is_new (unless cases r) ≡ false
after_unless [] r h = h
after_unless (c ∷ cs) r h = or_refused c.0 (unless cs r) c.1 (after_unless cs r h)

after_bind : {A : Type 0} (r : Result A Refusal) (next : A → Result Command Refusal) → ((x : A) → is_new (next x) ≡ false) → is_new (r >>= next) ≡ false
unfolding is_new
after_bind (Ok x) next h = h x
after_bind (Err e) next h = refl

-- the commands themselves
scratch_is : (patterns : List (List ℕ)) → is_new (Ok (Scratch patterns)) ≡ false
unfolding is_new
scratch_is patterns = refl

copy_is : (new : List ℕ) (olds : List (List ℕ)) → is_new (Ok (Copy new olds)) ≡ false
unfolding is_new
copy_is new olds = refl

scratch_only : (text : List ℕ) → is_new (scratch_asked text) ≡ false
scratch_only text =
    after_bind (names_in (parts_at comma text)) (λ ps. unless ((list_any is_empty ps, NoName) ∷ []) (Ok (Scratch ps)))
    (λ ps. after_unless ((list_any is_empty ps, NoName) ∷ []) (Ok (Scratch ps)) (scratch_is ps))

copy_only : (text : List ℕ) → is_new (copy_asked text) ≡ false
copy_only text =
    let new = name_of (before_byte equals text) in
    let none : List (List ℕ) → Bool × Refusal = λ olds. (not (holds_byte equals text) || is_empty new || list_any is_empty olds, NoName) in
    let wild : List (List ℕ) → Bool × Refusal = λ olds. (is_wild new || list_any is_wild olds, WildName) in
    let many : List (List ℕ) → Bool × Refusal = λ olds. (nat_lt 4 (length olds), Syntax) in
    after_bind (later_names (parts_at comma (after_byte equals text))) (λ olds. unless (none olds ∷ wild olds ∷ many olds ∷ []) (Ok (Copy new olds)))
    (λ olds. after_unless (none olds ∷ wild olds ∷ many olds ∷ []) (Ok (Copy new olds)) (copy_is new olds))

-- the text of a command formats as what it asks for does
is_text : (text : List ℕ) → text_formats text ≡ is_new (command_of (without_return text))
unfolding is_new
is_text text = refl

scratching : (c : ℕ) (text : List ℕ) → text_formats (83 ∷ c ∷ text) ≡ false
scratching c text = is_text (83 ∷ c ∷ text) ∙ or_refused (nat_lt 58 (length (without_return (83 ∷ c ∷ text)))) (after_the_head (without_return (c ∷ text)) >>= scratch_asked) LongText (after_bind (after_the_head (without_return (c ∷ text))) scratch_asked scratch_only)

copying : (c : ℕ) (text : List ℕ) → text_formats (67 ∷ c ∷ text) ≡ false
copying c text = is_text (67 ∷ c ∷ text) ∙ or_refused (nat_lt 58 (length (without_return (67 ∷ c ∷ text)))) (after_the_head (without_return (c ∷ text)) >>= copy_asked) LongText (after_bind (after_the_head (without_return (c ∷ text))) copy_asked copy_only)

-- those of the two texts
pub scratch_formats : (name : List ℕ) → open_formats 15 (scratch_text name) ≡ false
scratch_formats name = scratching 48 (58 ∷ slice_index name 0 ∷ slice_index name 1 ∷ [])

pub copy_formats : (new old : List ℕ) → open_formats 15 (copy_text new old) ≡ false
copy_formats new old = copying 48 (58 ∷ slice_index new 0 ∷ slice_index new 1 ∷ 61 ∷ slice_index old 0 ∷ slice_index old 1 ∷ [])
