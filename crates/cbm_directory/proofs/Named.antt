-- Names in entries: what is filled up with $A0 is read as it was, and where an entry is made or renamed all else is known.
use Rattle.std.proofs.Common.{◌≡◌, ℕ, zero, suc, ◌-◌, ◌==◌, ◌≤◌, List, [], ◌∷◌, ◌++◌, length, get_or, take, refl, sym, ap, ◌∙◌, arith, if◌then◌else◌}
use Rattle.std.proofs.lemmas.List.{length-append, length-replicate, get_or-append_right, take-append-le}
use Rattle.std.proofs.Math.Seq.{take-length}
use Rattle.std.proofs.lemmas.Slice.{between-put_mid}
use borrow.Rule.Slice.PartMut.{put_mid}
use Rattle.std.specs.Prelude.{replicate, slice_range}
use Rattle.cbm_file.specs.Padding.{before_filler, padded}
use Rattle.cbm_file.specs.Types.{type_number}
use Rattle.cbm_file.specs.declared.file_type.FileType.{FileType}
use Rattle.cbm_medium.specs.Place.{Place}
use Rattle.cbm_directory.specs.Entries.{name_in}
use Rattle.cbm_directory.specs.EntryChanges.{IsFreshAs, IsRenamedAs}
use Rattle.cbm_directory.proofs.Written.{mid_below, mid_above}

-- what fills a name up is no part of it
filled : (name : List ℕ) (n : ℕ) → before_filler (name ++ replicate n 160) ≡ before_filler name
filled [] zero = refl
filled [] (suc n) = refl
filled (c ∷ name) n = ap (λ (rest : List ℕ). if c == 160 then [] else c ∷ rest) (filled name n)

sixteen : (name : List ℕ) → length name ≤ 16 → length (padded name) ≡ 16
sixteen name l = length-append name (replicate (16 - length name) 160) ∙ omega (arith, length-replicate {A = ℕ} (16 - length name) 160)

-- a name of sixteen bytes, as a whole entry has it
named : (e p name : List ℕ) → p ≡ padded name → slice_range e 3 19 ≡ p → name_in e ≡ before_filler name
unfolding name_in
named e p name filling here = ap before_filler (here ∙ filling) ∙ filled name (16 - length name)

-- AN ENTRY THAT IS MADE
pub fresh_as : (t a b : ℕ) (p name : List ℕ) (kind : FileType) (first : Place) → t ≡ type_number kind → a ≡ first.track → b ≡ first.sector → p ≡ padded name → length name ≤ 16
    → IsFreshAs (t ∷ a ∷ b ∷ (p ++ replicate 11 0)) kind name first
fresh_as t a b p name kind first et ea eb ep l =
    let k : length p ≡ 16 = ap length ep ∙ sixteen name l in
    let low : get_or (p ++ replicate 11 0) 25 0 ≡ 0 = get_or-append_right p (replicate 11 0) 16 25 0 k (omega arith) in
    let high : get_or (p ++ replicate 11 0) 26 0 ≡ 0 = get_or-append_right p (replicate 11 0) 16 26 0 k (omega arith) in
    record {
      typed = et;
      begins = λ i. record { track = ea i; sector = eb i };
      named = named (t ∷ a ∷ b ∷ (p ++ replicate 11 0)) p name ep (take-append-le 16 p (replicate 11 0) (omega arith) ∙ ap (λ (n : ℕ). take n p) (sym k) ∙ take-length p);
      shown = omega (arith, low, high);
    }

-- AN ENTRY UNDER ANOTHER NAME
pub renamed_as : (e p name : List ℕ) → length e ≡ 30 → p ≡ padded name → length name ≤ 16 → IsRenamedAs e (put_mid 3 16 e p) name
renamed_as e p name w ep l =
    let k : length p ≡ 16 = ap length ep ∙ sixteen name l in
    record {
      named = named (put_mid 3 16 e p) p name ep (between-put_mid 3 16 e p 19 (omega arith) k);
      before = λ i b. mid_below 3 16 e p i (omega arith) k b;
      afterwards = λ i b. mid_above 3 16 e p i (omega arith) k b;
    }
