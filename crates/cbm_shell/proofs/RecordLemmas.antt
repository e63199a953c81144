-- Records that are sent one after another.
use Rattle.std.proofs.Common.{◌≡◌, ℕ, suc, ◌+◌, ◌<◌, ◌≤◌, List, [], ◌∷◌, ◌++◌, length, take, drop, drop-cons, get_or, arith, sym, subst, refl, ap, ◌∙◌, append_assoc, append-nil, inl, inr}
use Rattle.std.specs.Prelude.{Result, Ok, Err, MatchResult}
use Rattle.std.proofs.Math.Seq.{take-append_seam}
use Rattle.cbm_channel.specs.declared.Status.{Status}
use Rattle.cbm_machine.specs.Codes.{code_number}
use Rattle.cbm_machine.specs.Machines.{Machine}
use Rattle.cbm_talk.specs.Talks.{hear_bytes}
use Rattle.cbm_shell.specs.declared.fault.ShellFault.{ShellFault}
use Rattle.cbm_shell.specs.declared.fault.ShellFault.TheVariants as fault
use Rattle.cbm_shell.specs.Changing.{IsFine}
use Rattle.cbm_shell.specs.Recording.{hear_records, opened_with, after_records, IsStoppedAt, AreRecordsUnmade}

-- two lists of records after each other
pub hear_all-append : (ch : ℕ) (xs ys : List (List ℕ)) (m : Machine) → hear_records ch (xs ++ ys) m ≡ hear_records ch ys (hear_records ch xs m)
unfolding hear_records
hear_all-append ch [] ys m = refl
hear_all-append ch (x ∷ xs) ys m = hear_all-append ch xs ys (hear_bytes ch x m)

-- from a machine that stood at the beginning, the records that are left lead to what all lead to
pub record Recording (now : Machine → Type 0) (ch : ℕ) (all left : List (List ℕ)) (m : Machine) : Type 0 where
  pub done : List (List ℕ)
  pub parts : all ≡ done ++ left
  pub stands : now (hear_records ch done m)

abbrev pub Records : (Machine → Type 0) → (Machine → Type 0) → ℕ → List (List ℕ) → List (List ℕ) → Type 0
Records stood now ch all left = (m : Machine) → stood m → Recording now ch all left m

pub records-start : (stood : Machine → Type 0) (ch : ℕ) (all left : List (List ℕ)) → all ≡ left → Records stood stood ch all left
unfolding hear_records
records-start stood ch all left e m s = record { done = []; parts = e; stands = s }

pub records-on : (stood now next : Machine → Type 0) (ch : ℕ) (all left rest : List (List ℕ)) (r : List ℕ) → Records stood now ch all left → left ≡ r ∷ rest
    → ((m : Machine) → now m → next (hear_bytes ch r m)) → Records stood next ch all rest
unfolding hear_records
records-on stood now next ch all left rest r w e on m s =
    let o = w m s in record {
      done = o.done ++ r ∷ [];
      parts = o.parts ∙ ap (λ t. o.done ++ t) e ∙ sym (append_assoc o.done (r ∷ []) rest);
      stands = subst next (sym (hear_all-append ch o.done (r ∷ []) m)) (on (hear_records ch o.done m) o.stands);
    }

pub records-end : (stood now : Machine → Type 0) (ch : ℕ) (all left : List (List ℕ)) → Records stood now ch all left → left ≡ []
    → (m : Machine) → stood m → now (hear_records ch all m)
records-end stood now ch all left w e m s = let o = w m s in subst (λ t. now (hear_records ch t m)) (sym (o.parts ∙ ap (λ t. o.done ++ t) e ∙ append-nil o.done)) o.stands

-- one of them was refused
pub records-stopped : (stood now : Machine → Type 0) (ch : ℕ) (all left : List (List ℕ)) (s : Status) (f : ShellFault) → Records stood now ch all left
    → ((m : Machine) → now m → s ≡ m.status) → f ≡ fault.Refused s → 20 ≤ code_number s.code → (m : Machine) → stood m → IsStoppedAt ch all m f
records-stopped stood now ch all left s f w is e error m here =
    let o = w m here in
    subst (IsStoppedAt ch all m) (sym e) (record {
      count = length o.done;
      told = is _ o.stands ∙ ap (λ t. (hear_records ch t m).status) (sym (ap (λ t. take (length o.done) t) o.parts ∙ take-append_seam o.done left));
      error = error;
    })

-- the next one of those that are left
pub next_off : {A : Type 0} (xs : List A) (i : ℕ) (d : A) → i < length xs → drop i xs ≡ get_or xs i d ∷ drop (i + 1) xs
next_off xs i d h = let next : suc i ≡ i + 1 = omega arith in drop-cons xs i d h ∙ ap (λ k. get_or xs i d ∷ drop k xs) next

-- ---- why no file was made

-- the status at the end decides
pub records_made : (text : List ℕ) (records : List (List ℕ)) (m : Machine) (stands : Machine → Type 0) (r : Result (Unit {0}) ShellFault) (s : Status)
    → stands (after_records text records m) → s ≡ (after_records text records m).status
    → MatchResult r (λ _. IsFine s) (λ f. (f ≡ fault.Refused s) × (20 ≤ code_number s.code))
    → MatchResult r (λ _. IsFine (after_records text records m).status × stands (after_records text records m)) (AreRecordsUnmade text records m)
records_made text records m stands (Ok _) s now e h = (subst IsFine e h, now)
records_made text records m stands (Err f) s now e h = subst (AreRecordsUnmade text records m) (sym h.0) (record { count = 0; told = inr e; error = h.1 })

-- the OPEN was refused
pub unopened : (text : List ℕ) (records : List (List ℕ)) (m : Machine) (f : ShellFault) (s : Status) → s ≡ (opened_with text m).status → f ≡ fault.Refused s
    → 20 ≤ code_number s.code → AreRecordsUnmade text records m f
unfolding hear_records
unopened text records m f s e is error = subst (AreRecordsUnmade text records m) (sym is) (record { count = 0; told = inl e; error = error })

-- a record was refused
pub unheard : (text : List ℕ) (records : List (List ℕ)) (m : Machine) (f : ShellFault) → IsStoppedAt 2 records (opened_with text m) f → AreRecordsUnmade text records m f
unheard text records m (fault.Refused s) h = record { count = h.count; told = inl h.told; error = h.error }
unheard text records m fault.Memory h = absurd h
unheard text records m (fault.Image n) h = absurd h
unheard text records m (fault.Unsound u) h = absurd h
unheard text records m (fault.Trouble t) h = absurd h
unheard text records m fault.NotFound h = absurd h
unheard text records m fault.NotClosed h = absurd h
unheard text records m fault.Mistaken h = absurd h
