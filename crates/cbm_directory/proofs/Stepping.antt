-- One step through the list of the directory's entries.
use Rattle.std.proofs.Common.{◌≡◌, ℕ, suc, ◌+◌, ◌-◌, ◌*◌, ◌<◌, ◌≤◌, List, [], ◌∷◌, ◌++◌, length, Bool, true, false, Option, Some, None, Result, Ok, Err, refl, sym, ap, ◌∙◌, arith}
use Rattle.std.specs.Prelude.{slice_get, is_some, if◌then◌else◌}
use Rattle.std.proofs.lemmas.List.{append-nil, append_assoc, length-append}
use Rattle.cbm_medium.specs.Place.{Place}
use Rattle.cbm_medium.specs.Content.{Cell, Content}
use Rattle.cbm_medium.specs.Links.{or_nothing, link, follow, with_block}
use Rattle.cbm_medium.specs.declared.fault.Trouble.{Trouble}
use Rattle.cbm_medium.proofs.Walks.{follow_end}
use Rattle.cbm_directory.specs.Entries.{entry_of}
use Rattle.cbm_directory.specs.Slots.{entries_from, Listed, listed_in, listed_from, listed_after, first_from, Answers, Gives}

pub listed_end : (tracks : ℕ) (content : Content) (left : ℕ) (at : Place) → at.track ≡ 0 → listed_from tracks content left at ≡ record { entries = []; trouble = None }
unfolding listed_from
listed_end tracks content left at z = ap (listed_in content) (follow_end tracks content left at z)

pub listed_cut : (tracks : ℕ) (content : Content) (left : ℕ) (at : Place) (t : Trouble) → follow tracks content left at ≡ record { blocks = []; trouble = Some t }
    → listed_from tracks content left at ≡ record { entries = []; trouble = Some t }
unfolding listed_from
listed_cut tracks content left at t e = ap (listed_in content) e

pub listed_next : (tracks : ℕ) (content : Content) (left less : ℕ) (at : Place) (bytes : List ℕ) → content at ≡ Ok bytes
    → follow tracks content left at ≡ with_block at (follow tracks content less (link bytes))
    → listed_from tracks content left at ≡ listed_after (entries_from 8 bytes 0) (listed_from tracks content less (link bytes))
unfolding listed_from
listed_next tracks content left less at bytes e f =
    ap (listed_in content) f
    ∙ ap (λ (cell : Cell). listed_after (entries_from 8 (or_nothing cell) 0) (listed_in content (follow tracks content less (link bytes)))) e

-- where a sector is used up, the next one's entries follow
pub filled : (tracks : ℕ) (content : Content) (left less number : ℕ) (sector bytes : List ℕ) (at : Place) → 8 ≤ number → content at ≡ Ok bytes
    → follow tracks content left at ≡ with_block at (follow tracks content less (link bytes))
    → listed_after (entries_from (8 - number) sector number) (listed_from tracks content left at) ≡ listed_after (entries_from 8 bytes 0) (listed_from tracks content less (link bytes))
filled tracks content left less number sector bytes at h e f =
    let none : 8 - number ≡ 0 = omega arith in
    ap (λ (n : ℕ). listed_after (entries_from n sector number) (listed_from tracks content left at)) none ∙ listed_next tracks content left less at bytes e f

pub broken : (tracks : ℕ) (content : Content) (left number : ℕ) (sector : List ℕ) (at : Place) (t : Trouble) → 8 ≤ number → follow tracks content left at ≡ record { blocks = []; trouble = Some t }
    → listed_after (entries_from (8 - number) sector number) (listed_from tracks content left at) ≡ record { entries = []; trouble = Some t }
broken tracks content left number sector at t h e =
    let none : 8 - number ≡ 0 = omega arith in
    ap (λ (n : ℕ). listed_after (entries_from n sector number) (listed_from tracks content left at)) none ∙ ap (listed_after []) (listed_cut tracks content left at t e)

pub used_up : (tracks : ℕ) (content : Content) (left number : ℕ) (sector : List ℕ) (at : Place) → 8 ≤ number → at.track ≡ 0
    → listed_after (entries_from (8 - number) sector number) (listed_from tracks content left at) ≡ record { entries = []; trouble = None }
used_up tracks content left number sector at h z =
    let none : 8 - number ≡ 0 = omega arith in
    ap (λ (n : ℕ). listed_after (entries_from n sector number) (listed_from tracks content left at)) none ∙ ap (listed_after []) (listed_end tracks content left at z)

pub one_given : (number : ℕ) (sector : List ℕ) (rest : Listed) → number < 8
    → listed_after (entries_from (8 - number) sector number) rest ≡ listed_after (entry_of sector number ∷ []) (listed_after (entries_from (8 - (number + 1)) sector (number + 1)) rest)
one_given number sector rest h =
    let more : 8 - number ≡ suc (8 - (number + 1)) = omega arith in
    ap (λ (n : ℕ). listed_after (entries_from n sector number) rest) more

pub none_left : (number : ℕ) (sector : List ℕ) → 8 ≤ number → entries_from (8 - number) sector number ≡ []
none_left number sector h = let none : 8 - number ≡ 0 = omega arith in ap (λ (n : ℕ). entries_from n sector number) none

-- ---- counting to a slot

-- so many entries of the whole were given
pub record Passed (whole : Listed) (n : ℕ) (rest : Listed) : Type 0 where
  pub front : List (List ℕ)
  pub number : length front ≡ n
  pub same : whole ≡ listed_after front rest

pub none_passed : (whole : Listed) → Passed whole 0 whole
none_passed whole = record { front = []; number = refl; same = refl }

pub one_passed : (whole old new : Listed) (n : ℕ) (entry : List ℕ) → Passed whole n old → Gives old new (Ok (Some entry)) → Passed whole (n + 1) new
one_passed whole old new n entry p h = record {
  front = p.front ++ entry ∷ [];
  number = omega (arith, length-append p.front (entry ∷ []), p.number);
  same = p.same ∙ ap (listed_after p.front) h ∙ (λ i. record { entries = sym (append_assoc p.front (entry ∷ []) new.entries) i; trouble = new.trouble });
}

at_end : (front : List (List ℕ)) (entry : List ℕ) (more : List (List ℕ)) (n : ℕ) → length front ≡ n → slice_get (front ++ entry ∷ more) n ≡ Some entry
at_end [] entry more n e = ap (slice_get (entry ∷ more)) (sym e)
at_end (x ∷ front) entry more n e = ap (slice_get (x ∷ front ++ entry ∷ more)) (sym e) ∙ at_end front entry more (length front) refl

pub ended : (whole old : Listed) (n m : ℕ) (t : Option Trouble) → Passed whole n old → n ≤ m → old ≡ record { entries = []; trouble = t }
    → (length whole.entries ≤ m) × (whole.trouble ≡ t)
ended whole old n m t p h e =
    let all : whole ≡ record { entries = p.front; trouble = t } =
    p.same ∙ ap (listed_after p.front) e ∙ (λ i. record { entries = append-nil p.front i; trouble = t }) in
    (omega (arith, ap (λ (d : Listed). length d.entries) all, p.number), ap (λ (d : Listed). d.trouble) all)

pub answered : (whole old new : Listed) (n m : ℕ) (r : Result (Option (List ℕ)) Trouble) → Passed whole n old → n ≡ m → Gives old new r → Answers whole m r
answered whole old new n m (Ok (Some entry)) p e h =
    ap (λ (d : Listed). slice_get d.entries m) (p.same ∙ ap (listed_after p.front) h) ∙ at_end p.front entry new.entries m (p.number ∙ e)
answered whole old new n m (Ok None) p e h = ended whole old n m None p (omega arith) h.0
answered whole old new n m (Err t) p e h = ended whole old n m (Some t) p (omega arith) h.0

pub some_passed : (whole old new : Listed) (n : ℕ) (o : Option (List ℕ)) → is_some o ≡ true → Passed whole n old → Gives old new (Ok o) → Passed whole (n + 1) new
some_passed whole old new n (Some entry) some p h = one_passed whole old new n entry p h
some_passed whole old new n None some p h = absurd (cc)

-- ---- looking for an entry

-- what is found in the whole is what is found in the rest, counted from n
pub record Looked (test : List ℕ → Bool) (whole : Listed) (n : ℕ) (rest : Listed) : Type 0 where
  pub found : first_from test 0 whole.entries ≡ first_from test n rest.entries
  pub trouble : whole.trouble ≡ rest.trouble

pub looked_none : (test : List ℕ → Bool) (whole rest : Listed) → rest ≡ whole → Looked test whole 0 rest
looked_none test whole rest e = record {
  found = ap (λ (d : Listed). first_from test 0 d.entries) (sym e);
  trouble = ap (λ (d : Listed). d.trouble) (sym e);
}

pub looked_past : (test : List ℕ → Bool) (whole old new : Listed) (n : ℕ) (entry : List ℕ) → Looked test whole n old → Gives old new (Ok (Some entry)) → test entry ≡ false → Looked test whole (n + 1) new
looked_past test whole old new n entry l h f = record {
  found = l.found ∙ ap (λ (d : Listed). first_from test n d.entries) h ∙ ap (λ (b : Bool). if b then Some (n, entry) else first_from test (n + 1) new.entries) f;
  trouble = l.trouble ∙ ap (λ (d : Listed). d.trouble) h;
}

pub found_here : (test : List ℕ → Bool) (whole old new : Listed) (n : ℕ) (entry : List ℕ) → Looked test whole n old → Gives old new (Ok (Some entry)) → test entry ≡ true
    → first_from test 0 whole.entries ≡ Some (n, entry)
found_here test whole old new n entry l h f =
    l.found ∙ ap (λ (d : Listed). first_from test n d.entries) h ∙ ap (λ (b : Bool). if b then Some (n, entry) else first_from test (n + 1) new.entries) f

pub looked_through : (test : List ℕ → Bool) (whole old : Listed) (n : ℕ) (t : Option Trouble) → Looked test whole n old → old ≡ record { entries = []; trouble = t }
    → (first_from test 0 whole.entries ≡ None) × (whole.trouble ≡ t)
looked_through test whole old n t l e =
    (l.found ∙ ap (λ (d : Listed). first_from test n d.entries) e, l.trouble ∙ ap (λ (d : Listed). d.trouble) e)

pub most_one : (number left : ℕ) (sector : List ℕ) → number < 8
    → 8 * left + length (entries_from (8 - (number + 1)) sector (number + 1)) + 1 ≡ 8 * left + length (entries_from (8 - number) sector number)
most_one number left sector h =
    let more : 8 - number ≡ suc (8 - (number + 1)) = omega arith in
    let e : length (entries_from (8 - number) sector number) ≡ suc (length (entries_from (8 - (number + 1)) sector (number + 1))) = ap (λ (n : ℕ). length (entries_from n sector number)) more in
    omega arith
