-- The usual text of an OPEN is read as the file that it names.
use Rattle.std.proofs.Common.{◌≡◌, ℕ, suc, ◌≤◌, Bool, true, false, List, [], ◌∷◌, ◌++◌, length, take, refl, ap, ◌∙◌, arith, eqb, ◌||◌, Ok, length-append}
use Rattle.std.specs.Prelude.{nat_lt}
use Rattle.std.proofs.lemmas.Bool.{eq-eqb}
use Rattle.std.proofs.lemmas.Bool.Decides.{nat_tests}
use Rattle.std.proofs.lemmas.List.{take_all}
use Rattle.cbm_file.specs.declared.file_type.FileType.{FileType}
use Rattle.cbm_file.specs.declared.file_type.FileType.TheVariants.{Del, Seq, Prg, Usr, Rel}
use Rattle.cbm_command.specs.declared.opening.Mode.{Mode}
use Rattle.cbm_command.specs.declared.opening.Mode.TheVariants.{Read, Write, Append}
use Rattle.cbm_command.specs.declared.opening.Opening.TheVariants.{File}
use Rattle.cbm_command.specs.Texts.{comma, colon, before_byte, after_byte, holds_byte, parts_at}
use Rattle.cbm_command.specs.Names.{filler, name_of, is_wild, is_empty}
use Rattle.cbm_command.specs.Refusals.{◌>>=◌}
use Rattle.cbm_command.specs.Openings.{opening_of, headed_file, by_first, file_asked, file_named, with_pieces, plain_file, or_default, by_channel}
use Rattle.cbm_command.specs.Spelling.{IsPlain, is_special, spelled, kind_letter, mode_letter, holds_bytes, usual_file}
use Rattle.cbm_command.proofs.Parts.{right_false, left_false}

-- ---- a byte that isn't in the front

before-front : (c : ℕ) (front rest : List ℕ) → holds_byte c front ≡ false → before_byte c (front ++ c ∷ rest) ≡ front
before-front c [] rest h = rw (eq-eqb c c refl)
before-front c (x ∷ front) rest h =
    let here = left_false (eqb x c) (holds_byte c front) h in
    let there = before-front c front rest (right_false (eqb x c) (holds_byte c front) h) in
    rw (here, there)

afterwards-front : (c : ℕ) (front rest : List ℕ) → holds_byte c front ≡ false → after_byte c (front ++ c ∷ rest) ≡ rest
afterwards-front c [] rest h = rw (eq-eqb c c refl)
afterwards-front c (x ∷ front) rest h =
    let here = left_false (eqb x c) (holds_byte c front) h in
    let there = afterwards-front c front rest (right_false (eqb x c) (holds_byte c front) h) in
    rw (here, there)

or-true : (b : Bool) → (b || true) ≡ true
or-true true = refl
or-true false = refl

has-front : (c : ℕ) (front rest : List ℕ) → holds_byte c (front ++ c ∷ rest) ≡ true
has-front c [] rest = rw (eq-eqb c c refl)
has-front c (x ∷ front) rest = let there = has-front c front rest in rw there (or-true (eqb x c))

before-none : (c : ℕ) (text : List ℕ) → holds_byte c text ≡ false → before_byte c text ≡ text
before-none c [] h = refl
before-none c (x ∷ text) h =
    let here = left_false (eqb x c) (holds_byte c text) h in
    let there = before-none c text (right_false (eqb x c) (holds_byte c text) h) in
    rw (here, there)

-- a short name without fillers is itself
name_of-plain : (name : List ℕ) → holds_byte filler name ≡ false → length name ≤ 16 → name_of name ≡ name
name_of-plain name h short = ap (take 16) (before-none filler name h) ∙ take_all 16 name short

-- ---- the readings, one inside the other

pub by_length : (ch : ℕ) (text : List ℕ) → length text ≤ 58 → opening_of ch text ≡ by_first ch text
by_length ch text short = let e : nat_lt 58 (length text) ≡ false = grind (arith, nat_tests) in rw e

by_ordinary : (ch c : ℕ) (text : List ℕ) → is_special c ≡ false → by_first ch (c ∷ text) ≡ headed_file ch (c ∷ text)
by_ordinary ch c text h =
    let hash = left_false (eqb c 35) (eqb c 36) h in
    let dollar = right_false (eqb c 35) (eqb c 36) h in
    rw (hash, dollar)

by_no_head : (ch : ℕ) (text : List ℕ) → holds_byte colon (before_byte comma text) ≡ false → headed_file ch text ≡ file_asked ch false text
by_no_head ch text h = rw h

by_parts : (ch : ℕ) (text name rest : List ℕ) → name_of (before_byte comma text) ≡ name → is_empty name ≡ false → holds_byte comma text ≡ true → after_byte comma text ≡ rest →
    file_asked ch false text ≡ (with_pieces (parts_at comma rest) (plain_file false name) >>= λ w. file_named (or_default ch (by_channel ch w)))
by_parts ch text name rest n some c r = rw (n, some, c, r)

by_pieces : (ch : ℕ) (name : List ℕ) (kind : FileType) (mode : Mode) → holds_bytes kind ≡ true → eqb ch 0 ≡ false → eqb ch 1 ≡ false → is_wild name ≡ false →
    (with_pieces (parts_at comma (kind_letter kind ∷ comma ∷ mode_letter mode ∷ [])) (plain_file false name) >>= λ w. file_named (or_default ch (by_channel ch w)))
    ≡ Ok (File (usual_file name kind mode))
by_pieces ch name Del mode h zero one wild = cc
by_pieces ch name Rel mode h zero one wild = cc
by_pieces ch name Seq Read h zero one wild = rw (zero, one)
by_pieces ch name Seq Write h zero one wild = rw (zero, one, wild)
by_pieces ch name Seq Append h zero one wild = rw (zero, one, wild)
by_pieces ch name Prg Read h zero one wild = rw (zero, one)
by_pieces ch name Prg Write h zero one wild = rw (zero, one, wild)
by_pieces ch name Prg Append h zero one wild = rw (zero, one, wild)
by_pieces ch name Usr Read h zero one wild = rw (zero, one)
by_pieces ch name Usr Write h zero one wild = rw (zero, one, wild)
by_pieces ch name Usr Append h zero one wild = rw (zero, one, wild)

some_byte : (c : ℕ) (name : List ℕ) → is_empty (c ∷ name) ≡ false
some_byte c name = let n = suc (length name) in let e : eqb n 0 ≡ false = grind (arith, nat_tests) in e

-- a usual text is read as the file that it names
pub usual : (ch : ℕ) (name : List ℕ) (kind : FileType) (mode : Mode) → 2 ≤ ch → IsPlain name → holds_bytes kind ≡ true →
    opening_of ch (spelled name kind mode) ≡ Ok (File (usual_file name kind mode))
usual ch [] kind mode two plain h = absurd (omega (arith, plain.some))
usual ch (c ∷ name) kind mode two plain h =
    let rest = kind_letter kind ∷ comma ∷ mode_letter mode ∷ [] in
    let text = spelled (c ∷ name) kind mode in
    let front = before-front comma (c ∷ name) rest plain.no_comma in
    let zero : eqb ch 0 ≡ false = grind (arith, nat_tests) in
    let one : eqb ch 1 ≡ false = grind (arith, nat_tests) in
    by_length ch text (omega (arith, length-append (c ∷ name) (comma ∷ rest), plain.short))
    ∙ by_ordinary ch c (name ++ comma ∷ rest) plain.ordinary
    ∙ by_no_head ch text (ap (holds_byte colon) front ∙ plain.no_colon)
    ∙ by_parts ch text (c ∷ name) rest (ap name_of front ∙ name_of-plain (c ∷ name) plain.no_filler plain.short) (some_byte c name)
    (has-front comma (c ∷ name) rest) (afterwards-front comma (c ∷ name) rest plain.no_comma)
    ∙ by_pieces ch (c ∷ name) kind mode h zero one plain.no_pattern
