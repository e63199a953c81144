-- The status as it is read to its end.
use Rattle.std.proofs.Common.{◌≡◌, ◌≢◌, ℕ, zero, suc, ◌+◌, ◌<◌, ◌≤◌, Bool, Option, Some, None, List, [], ◌∷◌, ◌++◌, length, length-append, codes, subst, refl, ap, sym, ◌∙◌, arith, true, false, if◌then◌else◌}
use Rattle.std.specs.Prelude.{◌==◌}
use Rattle.std.specs.Io.KnownBytes.{Appends}
use Rattle.cbm_machine.specs.Calls.{without_return}
use Rattle.cbm_machine.specs.Machines.{Machine}
use Rattle.cbm_machine.specs.Statuses.{status_line}
use Rattle.cbm_machine.specs.Talking.{peek, taken, after_talk}
use Rattle.cbm_host.proofs.Statuses.{says_from, line_short}
use Rattle.cbm_host.specs.Hosted.{AreFirst}
use Rattle.cbm_program.specs.Output.{AppendsPart}
use Rattle.cbm_talk.specs.Talks.{TalkSaid, says, status_said}
use Rattle.cbm_program.specs.Scripts.{status_text}

-- a channel says no more than it is asked for
from_short : (p : Option (ℕ × Bool)) (n ch : ℕ) (so_far : List ℕ) (m : Machine) → ((front : List ℕ) (k : Machine) → length (says n ch front k).bytes ≤ length front + n)
    → length (says_from p n ch so_far m).bytes ≤ length so_far + suc n
from_short None n ch so_far m rest = omega arith
from_short (Some (b, true)) n ch so_far m rest = let k = length-append so_far (b ∷ []) in omega (arith, k)
from_short (Some (b, false)) n ch so_far m rest = let k = length-append so_far (b ∷ []) in let r = rest (so_far ++ b ∷ []) (taken ch m) in omega (arith, k, r)

short_said : (n ch : ℕ) (so_far : List ℕ) (m : Machine) → length (says n ch so_far m).bytes ≤ length so_far + n
short_said zero ch so_far m = omega arith
short_said (suc n) ch so_far m = from_short (peek ch m) n ch so_far m (λ front k. short_said n ch front k)

-- so there is room for each byte of a status line
pub room : (m : Machine) (bytes : List ℕ) (b : ℕ) (l : Bool) → AreFirst (bytes ++ b ∷ []) l (status_said m).bytes (status_said m).marked → length bytes < 33
room m bytes b l f =
    let whole = ap (λ (x : List ℕ). length x) f.front ∙ length-append (bytes ++ b ∷ []) f.more in
    let one = length-append bytes (b ∷ []) in
    let most = short_said (length (status_line m.status)) 15 [] (after_talk 15 m) in
    let line = line_short m.status in
    omega (arith, whole, one, most, line)

-- the line as it is printed
pub status_all : (a b : Option (List ℕ)) (s : TalkSaid) (items line : List ℕ) → s.bytes ≡ items → line ≡ codes "status " ++ without_return items ++ codes "\n" → Appends a b line → Appends a b (status_text s)
status_all a b s items line said is whole = subst (λ t. Appends a b t) (is ∙ ap (λ l. codes "status " ++ without_return l ++ codes "\n") (sym said)) whole

pub status_part : (a b : Option (List ℕ)) (s : TalkSaid) (items line : List ℕ) → s.bytes ≡ items → line ≡ codes "status " ++ without_return items ++ codes "\n" → AppendsPart a b line → AppendsPart a b (status_text s)
status_part a b s items line said is part = subst (λ t. AppendsPart a b t) (is ∙ ap (λ l. codes "status " ++ without_return l ++ codes "\n") (sym said)) part

-- ---- the line without its return

ending : (front : List ℕ) (c : ℕ) → without_return (front ++ c ∷ []) ≡ (if c == 13 then front else front ++ c ∷ [])
ending [] c = refl
ending (x ∷ []) c = elim (c == 13) as (λ v. x ∷ (if v then [] else c ∷ []) ≡ (if v then x ∷ [] else x ∷ c ∷ [])) [
  | true ↦ refl
  | false ↦ refl
]
ending (x ∷ y ∷ front) c =
    ap (λ t. x ∷ t) (ending (y ∷ front) c)
    ∙ elim (c == 13) as (λ v. x ∷ (if v then y ∷ front else y ∷ front ++ c ∷ []) ≡ (if v then x ∷ y ∷ front else x ∷ y ∷ front ++ c ∷ [])) [
      | true ↦ refl
      | false ↦ refl
    ]

pub with_return : (text front : List ℕ) (c : ℕ) → text ≡ front ++ c ∷ [] → c ≡ 13 → front ≡ without_return text
with_return text front c e k = sym (ap without_return e ∙ (ending front c ∙ ap (λ x. if x == 13 then front else front ++ c ∷ []) k))

pub without : (text front : List ℕ) (c : ℕ) → text ≡ front ++ c ∷ [] → c ≢ 13 → text ≡ without_return text
without text front c e k =
    let other : c == 13 ≡ false = grind (arith, k) in
    e ∙ sym (ap without_return e ∙ (ending front c ∙ ap (λ v. if v then front else front ++ c ∷ []) other))
