-- Bytes that are put one after another.
use Rattle.std.proofs.Common.{◌≡◌, ℕ, List, [], ◌∷◌, ap, ◌∙◌, sym, subst, suc, ◌+◌, ◌<◌, length, drop, slice_index, arith}
use Rattle.std.proofs.Math.Seq.{drop-cons}
use Rattle.cbm_machine.specs.Machines.{Machine}
use Rattle.cbm_machine.specs.Calls.{put}
use Rattle.cbm_talk.specs.Talks.{puts}

-- a machine stands, from which the bytes that are left lead to the whole's machine
pub record Putting (now : Machine → Type 0) (whole : Machine) (ch : ℕ) (left : List ℕ) : Type 0 where
  pub machine : Machine
  pub stands : now machine
  pub same : whole ≡ puts ch left machine

-- the same for each machine that stood at the beginning
abbrev pub Puts : (Machine → Type 0) → (Machine → Type 0) → ℕ → List ℕ → List ℕ → Type 0
Puts stood now ch all left = (m : Machine) → stood m → Putting now (puts ch all m) ch left

pub puts-start : (stood : Machine → Type 0) (ch : ℕ) (all left : List ℕ) → all ≡ left → Puts stood stood ch all left
puts-start stood ch all left e m s = record { machine = m; stands = s; same = ap (λ t. puts ch t m) e }

-- one byte of them
pub puts-on : (stood now next : Machine → Type 0) (ch : ℕ) (all left rest : List ℕ) (b : ℕ) → Puts stood now ch all left → left ≡ b ∷ rest
    → ((m : Machine) → now m → next (put ch b m)) → Puts stood next ch all rest
puts-on stood now next ch all left rest b p e on m s =
    let o = p m s in record { machine = put ch b o.machine; stands = on o.machine o.stands; same = o.same ∙ ap (λ t. puts ch t o.machine) e }

pub puts-end : (stood now : Machine → Type 0) (ch : ℕ) (all left : List ℕ) → Puts stood now ch all left → left ≡ []
    → (m : Machine) → stood m → now (puts ch all m)
puts-end stood now ch all left p e m s =
    let o = p m s in subst (λ x. now x) (sym (o.same ∙ ap (λ t. puts ch t o.machine) e)) o.stands

-- the next byte of those that are left
pub one_off : (bytes : List ℕ) (i : ℕ) → i < length bytes → drop i bytes ≡ slice_index bytes i ∷ drop (i + 1) bytes
one_off bytes i lt = let next : suc i ≡ i + 1 = omega arith in subst (λ k. drop i bytes ≡ slice_index bytes i ∷ drop k bytes) next (drop-cons bytes i 0 lt)
