-- The reading of a line of a script of line changes.
use Rattle.std.proofs.Common.{◌≡◌, ℕ, ◌+◌, ◌≤◌, List, [], ◌∷◌, length, Bool, true, false, Option, Some, None, refl, sym, ap, subst, ◌∙◌, arith}
use Rattle.std.specs.Prelude.{Result, Ok, Err, MatchBool, nat_lt, if◌then◌else◌}
use Rattle.std.specs.Io.KnownBytes.{IsAtEnd}
use Rattle.std.proofs.lemmas.Bool.{le-ltb}
use Rattle.cbm_program.specs.Beginnings.{BytesRead, MayNotStand}
use Rattle.bus_traces.specs.Lines.{lines_of, TakesLine}
use Rattle.cbm_program.specs.Running.{may_stand}
use Rattle.cbm_program.specs.Timed.{timed_of, timed_after, is_skipped}
use Rattle.cbm_program.specs.TimedReading.{IsBadAfter, AfterEndRead}
use Rattle.cbm_program.specs.Timetables.{timed_if, timed_meaning, bad_after}
use Rattle.cbm_program.specs.declared.fault.RunFault.{RunFault}
use Rattle.cbm_program.specs.declared.fault.RunFault.TheVariants.{Script, Image, Memory, Reading, Writing}

-- a line that isn't too long, and isn't too late
pub stands : (n : ℕ) (bytes : List ℕ) → n ≤ 1000000 → length bytes ≤ 1000 → may_stand n bytes ≡ true
stands n bytes few short = ap (λ b. if b then false else (if nat_lt 1000 (length bytes) then false else true)) (le-ltb 1000000 n few) ∙ ap (λ b. if b then false else true) (le-ltb 1000 (length bytes) short)

pub read_bytes : (old new : Option (List ℕ)) (n : ℕ) (bytes : List ℕ) (found : Bool) → MatchBool found (TakesLine old new bytes) (IsAtEnd old) → (found ≡ true → n ≤ 1000000) → BytesRead old new n bytes (Ok found)
read_bytes old new n bytes true h few = (h, (let l = few refl in omega (arith, l)))
read_bytes old new n bytes false h few = h

meaning_is : (n from : ℕ) (bytes : List ℕ) → may_stand n bytes ≡ true → timed_meaning n from bytes ≡ timed_after from (timed_of bytes)
meaning_is n from bytes e = ap (λ b. timed_if b from bytes) e

-- ---- after the end

at_line : (n : ℕ) (bytes : List ℕ) (lines : List (List ℕ)) (b : Bool) → is_skipped (timed_meaning n 0 bytes) ≡ b → bad_after n (bytes ∷ lines) ≡ (if b then bad_after (n + 1) lines else Some n)
unfolding bad_after
at_line n bytes lines b e = ap (λ c. if c then bad_after (n + 1) lines else Some n) e

at_end : (n : ℕ) → bad_after n [] ≡ None
unfolding bad_after
at_end n = refl

pub after_skipped : (l k : Option (List ℕ)) (n : ℕ) (bytes : List ℕ) (bad : Option ℕ) → TakesLine l k bytes → may_stand n bytes ≡ true → is_skipped (timed_after 0 (timed_of bytes)) ≡ true → IsBadAfter k (n + 1) bad → IsBadAfter l n bad
after_skipped None k n bytes bad t may skipped h = tt
after_skipped (Some xs) None n bytes bad t may skipped h = absurd t
after_skipped (Some xs) (Some ys) n bytes bad t may skipped h = ap (bad_after n) t ∙ (at_line n bytes (lines_of ys) true (ap is_skipped (meaning_is n 0 bytes may) ∙ skipped) ∙ h)

pub after_another : (l k : Option (List ℕ)) (n : ℕ) (bytes : List ℕ) → TakesLine l k bytes → may_stand n bytes ≡ true → is_skipped (timed_after 0 (timed_of bytes)) ≡ false → IsBadAfter l n (Some n)
after_another None k n bytes t may other = tt
after_another (Some xs) None n bytes t may other = absurd t
after_another (Some xs) (Some ys) n bytes t may other = ap (bad_after n) t ∙ at_line n bytes (lines_of ys) false (ap is_skipped (meaning_is n 0 bytes may) ∙ other)

pub after_none_left : (l : Option (List ℕ)) (n : ℕ) → IsAtEnd l → IsBadAfter l n None
after_none_left None n h = tt
after_none_left (Some xs) n h = ap (λ zs. bad_after n (lines_of zs)) h ∙ at_end n

after_refused : (l : Option (List ℕ)) (n : ℕ) → MayNotStand l n → IsBadAfter l n (Some n)
after_refused None n h = tt
after_refused (Some xs) n (bytes, lines, e, may) = ap (bad_after n) e ∙ at_line n bytes lines false (ap is_skipped (ap (λ b. timed_if b 0 bytes) may))

-- a line that can't be had
pub after_faulted : (l k o : Option (List ℕ)) (n first : ℕ) (bytes : List ℕ) (r : Result (Unit {0}) RunFault) (f : RunFault) → ((bad : Option ℕ) → IsBadAfter l n bad → IsBadAfter o first bad) → BytesRead l k n bytes (Err f) → r ≡ Err f → AfterEndRead o first r
after_faulted l k o n first bytes r (Script bad) on h e = subst (AfterEndRead o first) (sym e) (subst (λ b. IsBadAfter o first (Some b)) (sym h.0) (on (Some n) (after_refused l n h.1)))
after_faulted l k o n first bytes r (Image number) on h e = absurd h
after_faulted l k o n first bytes r Memory on h e = absurd h
after_faulted l k o n first bytes r Reading on h e = subst (AfterEndRead o first) (sym e) tt
after_faulted l k o n first bytes r Writing on h e = absurd h
